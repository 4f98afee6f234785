-- A row of the grammar: where a keyword stands and what follows it.
use Rattle.std.specs.Prelude.{ℕ, List, []}
use Rattle.rows.specs.Kinds.{name_kind, string_kind, whole_kind, decimal_kind, choice_kind, new_kind, points_kind, alignment_kind, nought_kind, upper_kind, pairs_kind, number_kind, text_kind}
use Rattle.rows.specs.Sections.{file, none}
use Rattle.rows.specs.Slots.{unkept}

-- a parameter: its kind, the slot that it goes to (unkept: none), the least and the greatest number or choice
pub record Param : Type 0 where
  pub kind : ℕ
  pub slot : ℕ
  pub low : ℕ
  pub high : ℕ

abbrev pub param : ℕ → ℕ → ℕ → ℕ → Param
param k s l h = record { kind = k; slot = s; low = l; high = h }

-- ---- the kinds

-- a name, a string: two slots, its first byte and the one past it
abbrev pub name : ℕ → Param
name s = param name_kind s 0 0

abbrev pub string : ℕ → Param
string s = param string_kind s 0 0

-- a whole number from low to high
abbrev pub whole : ℕ → ℕ → ℕ → Param
whole s l h = param whole_kind s l h

-- a decimal: three slots
abbrev pub decimal : ℕ → Param
decimal s = param decimal_kind s 0 0

-- one of the choices from low to high
abbrev pub choice : ℕ → ℕ → ℕ → Param
choice s l h = param choice_kind s l h

-- the name of a new record, which holds records of section h
abbrev pub new : ℕ → Param
new h = param new_kind h 0 0

-- MaxAxisPoints
abbrev pub points : ℕ → Param
points s = param points_kind s 1 65535

-- an alignment
abbrev pub alignment : ℕ → Param
alignment s = param alignment_kind s 1 65535

-- a coefficient that must be 0
abbrev pub nought : Param
nought = param nought_kind unkept 0 0

-- an upper limit, in three slots; the lower limit's three stand before it
abbrev pub upper : ℕ → Param
upper s = param upper_kind s 0 0

-- how many pairs of a number and a text follow
abbrev pub pairs : ℕ → Param
pairs s = param pairs_kind s 0 65535

-- the number of a pair, which makes a new entry
abbrev pub number : Param
number = param number_kind unkept 0 0

-- the text of a pair
abbrev pub text : ℕ → Param
text s = param text_kind s 0 0

-- a keyword that opens no block, one that opens one, and one that is refused as outside the scope
abbrev pub plain : ℕ
plain = 0

abbrev pub opening : ℕ
opening = 1

abbrev pub outside : ℕ
outside = 2

-- a keyword `word` in the block `parent`: whether it is plain, opens a block or is refused; the section of the records that its slots belong to; the slot that counts
-- how often it was there (0: it may repeat); it may stand only where slot `when` is from low to high (when 0: always); the section that gets a
-- new record as it opens; its parameters
pub record Row : Type 0 where
  pub parent : ℕ
  pub word : ℕ
  pub opens : ℕ
  pub sec : ℕ
  pub once : ℕ
  pub when : ℕ
  pub low : ℕ
  pub high : ℕ
  pub adds : ℕ
  pub params : List Param

-- a block of records of section j
abbrev pub block : ℕ → ℕ → ℕ → List Param → Row
block p w j ps = record { parent = p; word = w; opens = opening; sec = j; once = 0; when = 0; low = 0; high = 0; adds = none; params = ps }

-- a block that stands once, counted in slot o of the file's record
abbrev pub single : ℕ → ℕ → ℕ → List Param → Row
single p w o ps = record { parent = p; word = w; opens = opening; sec = file; once = o; when = 0; low = 0; high = 0; adds = none; params = ps }

-- a keyword that stands once, counted in slot o of the current record of section j
abbrev pub keyword : ℕ → ℕ → ℕ → ℕ → List Param → Row
keyword p w j o ps = record { parent = p; word = w; opens = plain; sec = j; once = o; when = 0; low = 0; high = 0; adds = none; params = ps }

-- the same, and only where slot s of that record holds the choice c
abbrev pub under : ℕ → ℕ → ℕ → ℕ → ℕ → ℕ → List Param → Row
under p w j o s c ps = record { parent = p; word = w; opens = plain; sec = j; once = o; when = s; low = c; high = c; adds = none; params = ps }

-- a keyword that is skipped with its parameters
abbrev pub passed : ℕ → ℕ → List Param → Row
passed p w ps = record { parent = p; word = w; opens = plain; sec = file; once = 0; when = 0; low = 0; high = 0; adds = none; params = ps }

-- a keyword that document 01 refuses here as 9
abbrev pub refusing : ℕ → ℕ → Row
refusing p w = record { parent = p; word = w; opens = outside; sec = file; once = 0; when = 0; low = 0; high = 0; adds = none; params = [] }

-- what a block needs at its end: where slot `when` of the current record of its section is from low to high (when 0: always), slot `slot` is at least `least`
pub record Need : Type 0 where
  pub block : ℕ
  pub sec : ℕ
  pub when : ℕ
  pub low : ℕ
  pub high : ℕ
  pub slot : ℕ
  pub least : ℕ

abbrev pub need : ℕ → ℕ → ℕ → ℕ → ℕ → ℕ → Need
need b j w c s n = record { block = b; sec = j; when = w; low = c; high = c; slot = s; least = n }
