-- What an accepted description is, said as its tree: a block holds keywords with their parameters, blocks inside it and skipped blocks, in any order,
-- up to its `/end` (proofs/Accepted.antt, accepted-exactly: a text is accepted exactly if it has such a tree, with the records that the tree makes).
-- Places are numbers of bytes: k where a part begins, k' the place past it; d are the records before it, d' those after it.
use Rattle.std.specs.Prelude.{ℕ, suc, ◌+◌, ◌-◌, ◌≤◌, ◌<◌, ◌≡◌, List, [], ◌∷◌, cond, true, false, ◌⊎◌, eqb}
use Rattle.text.specs.Answer as piece
use Rattle.text.specs.Answer.{given}
use Rattle.text.specs.Bytes.{same_part}
use Rattle.text.specs.Token.{next_token}
use Rattle.number.specs.Answer as number
use Rattle.number.specs.Answer.{in_run}
use Rattle.number.specs.Whole.{whole_of}
use Rattle.number.specs.Decimal.{Scaled, decimal_of}
use Rattle.convert.specs.Limit.{at_most}
use Rattle.words.specs.Kind as word
use Rattle.words.specs.Class.{class_at}
use Rattle.records.specs.Records.{most_of, count, slot, add}
use Rattle.rows.specs.Codes.{FILE, ANY, PROJECT}
use Rattle.rows.specs.Sections.{sections, table, entry, object, axis}
use Rattle.rows.specs.Slots.{own_name, own_name_past, first_held, entry_sign, entry_size, entry_text, object_type}
use Rattle.rows.specs.Row.{Param, name, string, whole, decimal, choice, new, points, alignment, nought, upper, pairs, number as number_entry, text as text_entry, plain, Row, Need}
use Rattle.rows.specs.Rows.{rows, needed, keeps}
use Rattle.grammar.specs.Move.{view, puts}
use Rattle.grammar.specs.Parameter.{decimal_in, sign_of}
use Rattle.grammar.specs.Keyword.{axes_of, levels_in}
use Rattle.grammar.specs.Read.{start}
use Rattle.tree.specs.Skipped.{Skipped}

-- the records that are read from a description
abbrev pub Records : Type 0
Records = List (List (List ℕ))

-- one of a list
abbrev pub Among : {A : Type 0} → A → List A → Type 0
Among a [] = ⊥
Among a (b ∷ bs) = (a ≡ b) ⊎ Among a bs

-- ---- the current record of a section, which is its last

-- number n of it
abbrev pub current : Records → ℕ → ℕ → ℕ
current d j n = slot d j (count d j - 1) n

-- the numbers vs written in it from slot n on
unfoldable pub written : ℕ → ℕ → List ℕ → Records → Records
written j n vs d = puts d j (count d j - 1) n vs

-- the same where there is a slot to keep them: slot 0 is none
unfoldable pub kept : ℕ → ℕ → List ℕ → Records → Records
kept j n vs d = cond (eqb n 0) d (written j n vs d)

-- one record more, which begins with the numbers vs
unfoldable pub appended : ℕ → List ℕ → Records → Records
appended j vs d = written j 0 vs (add sections d j)

-- number n of section j's current record is from low to high (n 0: always)
abbrev pub Within : Records → ℕ → ℕ → ℕ → ℕ → Type 0
Within d j n low high = (n ≡ 0) ⊎ ((low ≤ current d j n) × (current d j n ≤ high))

-- ---- tokens

-- the next token from the place k on: its kind, its first byte a and the place e past it
abbrev pub Comes : List ℕ → ℕ → piece.Kind → ℕ → ℕ → Type 0
Comes x k t a e = next_token x k ≡ given (piece.piece t a e)

-- the next token is a word of that class, up to the place e
abbrev pub Word : List ℕ → ℕ → word.Kind → ℕ → Type 0
Word x k w e = (a : ℕ) × Comes x k piece.name a e × (class_at x a e ≡ w)

-- the next token is the whole number n, which is at most h
abbrev pub Whole : List ℕ → ℕ → ℕ → ℕ → ℕ → Type 0
Whole x k h n e = (a : ℕ) × Comes x k piece.number a e × (in_run (whole_of h) x a e ≡ number.given n)

-- the next token is the decimal m
abbrev pub Decimal : List ℕ → ℕ → Scaled → ℕ → Type 0
Decimal x k m e = (a : ℕ) × Comes x k piece.number a e × (in_run decimal_of x a e ≡ number.given m)

-- ---- parameters

-- a decimal's three numbers: 1 below zero, its whole number, its power of ten
abbrev pub three : Scaled → List ℕ
three m = sign_of m ∷ m.whole ∷ m.tens ∷ []

-- no record of section j has the name from a up to e
abbrev pub Fresh : List ℕ → Records → ℕ → ℕ → ℕ → Type 0
Fresh x d j a e = (i : ℕ) → i < count d j → same_part x (slot d j i own_name) (slot d j i own_name_past) x a e ≡ false

-- no entry of the current table, which are those from its first on, has the number
abbrev pub Apart : Records → Scaled → Type 0
Apart d m = (i : ℕ) → current d table first_held ≤ i → i < count d entry → slot d entry i entry_sign ≡ sign_of m → slot d entry i entry_size ≡ m.whole → ⊥

-- One parameter at the place k, up to the place e, in the block b: its numbers go to the current record of section j.
-- Its row gives its form, by document 000; what document 01 asks of it more stands above each.
pub data Parameter (x : List ℕ) (b j : ℕ) : Param → ℕ → Records → ℕ → Records → Type 0 where
  takes_name : {s k a e : ℕ} {d : Records} → Comes x k piece.name a e → Parameter x b j (name s) k d e (kept j s (a ∷ e ∷ []) d)
  takes_string : {s k a e : ℕ} {d : Records} → Comes x k piece.string a e → Parameter x b j (string s) k d e (kept j s (a ∷ e ∷ []) d)
  takes_whole : {s l h k n e : ℕ} {d : Records} → Whole x k h n e → l ≤ n → Parameter x b j (whole s l h) k d e (kept j s (n ∷ []) d)
  takes_decimal : {s k e : ℕ} {m : Scaled} {d : Records} → Decimal x k m e → Parameter x b j (decimal s) k d e (kept j s (three m) d)
  takes_choice : {s l h k c e : ℕ} {d : Records} → Word x k (word.taken_choice c) e → l ≤ c → c ≤ h → Parameter x b j (choice s l h) k d e (kept j s (c ∷ []) d)
  -- "name twice among objects .., methods, tables or layouts each" is 6; "512 objects, 128 methods, 128 verbal tables, 64 layouts", one too many is 8
  takes_new : {h k a e : ℕ} {d : Records} → Comes x k piece.name a e → Fresh x d j a e → count d j < most_of sections j
      → Parameter x b j (new h) k d e (appended j (a ∷ e ∷ count d h ∷ b ∷ []) d)
  -- "MaxAxisPoints .. of 0 is 2", "MaxAxisPoints above 256 is 8"
  takes_points : {s k n e : ℕ} {d : Records} → Whole x k 65535 n e → 1 ≤ n → n ≤ 256 → Parameter x b j (points s) k d e (kept j s (n ∷ []) d)
  -- "Alignment words may set 1, 2, 4 or 8, else 2"
  takes_alignment : {s k n e : ℕ} {d : Records} → Whole x k 65535 n e → Among n (1 ∷ 2 ∷ 4 ∷ 8 ∷ []) → Parameter x b j (alignment s) k d e (kept j s (n ∷ []) d)
  -- "a and d must be 0"
  takes_nought : {k e : ℕ} {m : Scaled} {d : Records} → Decimal x k m e → m.whole ≡ 0 → Parameter x b j nought k d e d
  -- "lower limit above upper" is 5; the lower limit stands in the three slots before
  takes_upper : {s k e : ℕ} {m : Scaled} {d : Records} → Decimal x k m e → at_most (decimal_in (view d) j (s - 3)) m ≡ true
      → Parameter x b j (upper s) k d e (kept j s (three m) d)

-- n pairs of a verbal table: "An entry's number is whole in value, else 2; twice in a table is 6"; "1,024 verbal entries in all tables"
pub data Pairs (x : List ℕ) : ℕ → ℕ → Records → ℕ → Records → Type 0 where
  no_more : {k : ℕ} {d : Records} → Pairs x 0 k d k d
  pair : {n k e a f k' : ℕ} {m : Scaled} {d d' : Records} → Decimal x k m e → m.tens ≡ 0 → Apart d m
      → count d entry < most_of sections entry → Comes x e piece.string a f → Pairs x n f (written entry entry_text (a ∷ f ∷ []) (appended entry (sign_of m ∷ m.whole ∷ []) d)) k' d'
      → Pairs x (suc n) k d k' d'

-- the parameters of a keyword one after the other; after how many pairs there are, so many pairs
pub data Parameters (x : List ℕ) (b j : ℕ) : List Param → ℕ → Records → ℕ → Records → Type 0 where
  no_more : {k : ℕ} {d : Records} → Parameters x b j [] k d k d
  next : {q : Param} {qs : List Param} {k e k' : ℕ} {d d₁ d' : Records} → Parameter x b j q k d e d₁ → Parameters x b j qs e d₁ k' d' → Parameters x b j (q ∷ qs) k d k' d'
  many : {s t k n e k' : ℕ} {d d' : Records} → Whole x k 65535 n e → Pairs x n e (kept j s (n ∷ []) d) k' d'
      → Parameters x b j (pairs s ∷ number_entry ∷ text_entry t ∷ []) k d k' d'

-- ---- keywords

-- how often a keyword may stand: "more AXIS_DESCR than the type has (VALUE, VAL_BLK none)"; any other once
abbrev pub limit : Records → Row → ℕ
limit d r = cond (eqb r.adds axis) (axes_of (current d object object_type)) 1

-- the keyword of row r may stand: "an unused conversion word, NUMBER or AXIS_PTS_REF" is 5, "once-only keyword twice" is 6
pub record Free (d : Records) (r : Row) : Type 0 where
  pub used : Within d r.sec r.when r.low r.high
  pub seldom : (r.once ≡ 0) ⊎ (current d r.sec r.once < limit d r)

-- it gets a record where its row says so, and that it was there is counted
unfoldable pub counted : Row → Records → Records
counted r d = kept r.sec r.once ((current d r.sec r.once + 1) ∷ []) (add sections d r.adds)

-- after the keyword's word, which ends at k: it may stand in the block `home`, and its parameters follow, in the block b
pub record Stands (x : List ℕ) (home b : ℕ) (r : Row) (k : ℕ) (d : Records) (k' : ℕ) (d' : Records) : Type 0 where
  pub listed : Among r rows
  pub placed : r.parent ≡ home
  pub free : Free d r
  pub filled : Parameters x b (keeps r) r.params k (counted r d) k' d'

-- "parameter or needed keyword missing": what the block b needs is there
abbrev pub Met : Records → ℕ → Type 0
Met d b = (n : Need) → Among n needed → n.block ≡ b → Within d n.sec n.when n.low n.high → n.least ≤ current d n.sec n.slot

-- ---- blocks

-- the content of the block b from the place k on, up to the place past its `/end` and word
pub data Content (x : List ℕ) : ℕ → ℕ → Records → ℕ → Records → Type 0 where
  -- its end: what it needs is there
  closed : {b k a e k' : ℕ} {d : Records} → Met d b → Comes x k piece.end a e → Word x e (word.taken_block b) k' → Content x b k d k' d
  -- a keyword of the block with its parameters; one whose row refuses it is none of them ("BYTE_ORDER inside AXIS_DESCR is 9")
  holds_keyword : {b k e k₁ k' : ℕ} {d d₁ d' : Records} (r : Row) → r.opens ≡ plain → Word x k (word.taken_plain r.word) e → Stands x b b r e d k₁ d₁
      → Content x b k₁ d₁ k' d' → Content x b k d k' d'
  -- "keywords FORMAT, DISPLAY_IDENTIFIER, PHYS_UNIT, ASAP2_VERSION and A2ML_VERSION with their parameters; all may stand and repeat wherever an optional keyword may"
  passes_keyword : {b k e k₁ k' : ℕ} {d d₁ d' : Records} (r : Row) → Word x k (word.skipped_plain r.word) e → Stands x ANY b r e d k₁ d₁
      → Content x b k₁ d₁ k' d' → Content x b k d k' d'
  -- a block inside it, with its parameters and its content
  holds_block : {b k a e e₁ k₁ k₂ k' : ℕ} {d d₁ d₂ d' : Records} (r : Row) → Comes x k piece.begin a e → Word x e (word.taken_block r.word) e₁
      → Stands x b r.word r e₁ d k₁ d₁ → Content x r.word k₁ d₁ k₂ d₂ → Content x b k₂ d₂ k' d' → Content x b k d k' d'
  -- "Skipped whole: blocks A2ML, IF_DATA, ANNOTATION, GROUP, FUNCTION, FUNCTION_LIST, MOD_PAR, HEADER"
  skips_block : {b k a e f g c k₁ k' : ℕ} {d d' : Records} → Comes x k piece.begin a e → Comes x e piece.name f g → class_at x f g ≡ word.skipped_block c
      → Skipped x (levels_in b) f g k₁ → Content x b k₁ d k' d' → Content x b k d k' d'

-- "the two versions also before PROJECT"
pub data Versions (x : List ℕ) : ℕ → Records → ℕ → Records → Type 0 where
  no_more : {k : ℕ} {d : Records} → Versions x k d k d
  version : {k e k₁ k' : ℕ} {d d₁ d' : Records} (r : Row) → Word x k (word.skipped_plain r.word) e → Stands x FILE FILE r e d k₁ d₁
      → Versions x k₁ d₁ k' d' → Versions x k d k' d'

-- "One PROJECT": versions, PROJECT with its parameters and its content, and nothing after it but blanks and comments
pub data Description (x : List ℕ) (d : Records) : Type 0 where
  description : {k a e e₁ k₁ k₂ p : ℕ} {d₀ d₁ : Records} (r : Row) → Versions x 0 start k d₀ → Comes x k piece.begin a e → Word x e (word.taken_block PROJECT) e₁
      → r.word ≡ PROJECT → Stands x FILE PROJECT r e₁ d₀ k₁ d₁ → Content x PROJECT k₁ d₁ k₂ d → next_token x k₂ ≡ given (piece.finish p) → Description x d
