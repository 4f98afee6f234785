-- Parameters, by the branches that the code takes.
use Prim.Native.Nat.{ℕ, suc, ◌+◌, ◌-◌, ◌≤◌, ◌<◌, min}
use mathlib.Core.Path.{◌≡◌, refl, sym, ◌∙◌, ap}
use mathlib.Core.List.{List}
use mathlib.Core.Bool.{Bool, true, false, not, ◌&&◌, ◌||◌}
use native.Mathlib.Omega.{arith}
use borrow.Author.Rules.{rules}
use borrow.Author.Tests.{lt-ltb, le-ltb, le-leb, lt-leb, eq-eqb, ne_eqb}
use lib.Dec.{ltb, eqb}
use Rattle.std.specs.Prelude.{Option, Some, None, is_some}
use Rattle.text.proofs.ByteLaws.{via}
use Rattle.number.specs.Form.{has_form}
use Rattle.number.specs.Told.{scaled}
use Rattle.words.specs.Class.{class_at}
use Rattle.number.specs.declared.decimal.Decimal.{Decimal}
use Rattle.number.specs.Most.{most_entries}
use Rattle.convert.specs.Limit.{at_most}
use Rattle.records.specs.Records.{most_of}
use Rattle.records.specs.Cells.{section_in, count_in}
use Rattle.records.specs.declared.Section.{Section}
use Rattle.rows.specs.Sections.{sections, table, entry}
use Rattle.rows.specs.Slots.{first_held, entry_sign, entry_size, entry_text}
use Rattle.grammar.specs.Move.{View, view_in, current, decimal_slots, state, items, idle, writes, went, refused, moved}
use Rattle.grammar.specs.Parameter.{wrong, kind_of, slot_of, next_of, sec_of, low_of, after, keeping, taken_whole, taken_pairs, sign_of, decimal_in, has_entry, twice, new_record, taken_entry, taken_decimal, of_pairs, of_whole, of_decimal, taken_number, found_at, find, taken_new, of_choice, taken_name, after_text, taken_text, taken}
use Rattle.grammar.specs.declared.state.State.{State}
use Rattle.grammar.specs.declared.state.Act.{Act}
use Rattle.grammar.proofs.Answered.{Answered}

pub after_is : (s : State) (p : ℕ) → p ≡ next_of s → state 0 s.block p s.left ≡ after s
after_is s p q = rw q

module _ (s : State) (n x y z k : ℕ) (q : k ≡ slot_of s) where
  pub kept-none : (r : Act) → k ≡ 0 → r ≡ idle → r ≡ keeping s n x y z
  unfolding keeping
  kept-none r h p = rw (← q, eq-eqb k 0 h, p)

  pub kept-some : (j : ℕ) → (k ≡ 0 → ⊥) → j ≡ sec_of s → writes j k n x y z ≡ keeping s n x y z
  unfolding keeping
  kept-some j h p = rw (← q, ne_eqb k 0 h, p)

pub ruleset keeps = (after_is, kept-none, kept-some, rules)

module _ (n : ℕ) (x : List ℕ) (k a e : ℕ) where
  pub wrong-formed : (f : Bool) → k ≡ 2 → f ≡ has_form x a e → f ≡ true → refused n a ≡ wrong n x k a e
  unfolding wrong
  wrong-formed f h p q = rw (eq-eqb k 2 h, ← p, q)

  pub wrong-number : (f : Bool) → k ≡ 2 → f ≡ has_form x a e → f ≡ false → refused 2 a ≡ wrong n x k a e
  unfolding wrong
  wrong-number f h p q = rw (eq-eqb k 2 h, ← p, q)

  pub wrong-other : (k ≡ 2 → ⊥) → refused n a ≡ wrong n x k a e
  unfolding wrong
  wrong-other h = rw (ne_eqb k 2 h)

pub ruleset wrongs = (wrong-formed, wrong-number, wrong-other, rules)

-- ---- whole numbers

module _ (s : State) (a e n : ℕ) where
  pub whole_low : (l : ℕ) → l ≡ low_of s → n < l → refused 2 a ≡ taken_whole s a e n
  unfolding taken_whole
  whole_low l p h = rw (← p, lt-ltb n l h)

  -- kind and low are what the tables gave
  module _ (kind l : ℕ) (pk : kind ≡ kind_of s) (pl : l ≡ low_of s) (h : l ≤ n) where
    pub whole-points : (eqb kind 7 && ltb 256 n) ≡ true → refused 8 a ≡ taken_whole s a e n
    unfolding taken_whole
    whole-points q = rw (← pl, ← pk, le-ltb n l h, q)

    module _ (q : (eqb kind 7 && ltb 256 n) ≡ false) (b : Bool) (pb : b ≡ (eqb n 1 || eqb n 2 || eqb n 4 || eqb n 8)) where
      pub whole-align : (eqb kind 8 && not b) ≡ true → refused 2 a ≡ taken_whole s a e n
      unfolding taken_whole
      whole-align u = rw (← pl, ← pk, le-ltb n l h, q, ← pb, u)

      pub whole-kept : (m : Answered) (st : State) (act : Act) → (eqb kind 8 && not b) ≡ false → moved m ≡ went e st act → st ≡ after s → act ≡ keeping s 1 n 0 0 → moved m ≡ taken_whole s a e n
      unfolding taken_whole
      whole-kept m st act u p x y = rw (← pl, ← pk, le-ltb n l h, q, ← pb, u, p, x, y)

pub ruleset wholes = (whole_low, whole-points, whole-align, whole-kept, rules)

module _ (s : State) (e n : ℕ) (m : Answered) (st : State) (act : Act) (p : moved m ≡ went e st act) (y : act ≡ keeping s 1 n 0 0) where
  pub pairs-none : n ≡ 0 → st ≡ state items s.block 0 0 → moved m ≡ taken_pairs s e n
  unfolding taken_pairs
  pairs-none h x = rw (eq-eqb n 0 h, p, x, y)

  pub pairs-some : (k l : ℕ) → (n ≡ 0 → ⊥) → k ≡ next_of s → l ≡ min n 65535 → st ≡ state items s.block k l → moved m ≡ taken_pairs s e n
  unfolding taken_pairs
  pairs-some k l h q z x = rw (ne_eqb n 0 h, p, x, y, q, z)

pub ruleset pairings = (pairs-none, pairs-some, rules)

-- ---- decimals

pub decimal-current : (t : List ℕ) (j k n b : ℕ) (d : Decimal) → n ≡ count_in t (section_in sections j) → b ≡ n - 1 → scaled d ≡ decimal_slots (view_in t) j b k → scaled d ≡ decimal_in (view_in t) j k
decimal-current t j k n b d p q r = r ∙ rw (q, p)

pub ruleset decimals = (decimal-current, rules)

-- whether an entry from i on has the number is whether one of the table has
abbrev pub Having : View → ℕ → ℕ → ℕ → Type 0
Having v sign size i = has_entry (v.counts entry - i) v i sign size ≡ twice v sign size

module _ (v : View) (sign size : ℕ) where
  pub having-start : (i : ℕ) → i ≡ current v table first_held → Having v sign size i
  having-start i p = rw p

  pub having-none : (n i : ℕ) → n ≡ v.counts entry → Having v sign size i → n ≤ i → false ≡ twice v sign size
  unfolding has_entry
  having-none n i p q h = let z : v.counts entry - i ≡ 0 = omega arith in rw z at q

  module _ (n i : ℕ) (p : n ≡ v.counts entry) (q : Having v sign size i) (h : i < n) (a b : ℕ) (pa : a ≡ v.slots entry i entry_sign) (pb : b ≡ v.slots entry i entry_size) where
    look : (eqb a sign && eqb b size || has_entry (v.counts entry - (i + 1)) v (suc i) sign size) ≡ twice v sign size
    unfolding has_entry
    look = let z : v.counts entry - i ≡ suc (v.counts entry - (i + 1)) = omega arith in rw (pa, pb) (rw z at q)

    pub having-found : (eqb a sign && eqb b size) ≡ true → true ≡ twice v sign size
    having-found t = rw t at look

    pub having-on : (eqb a sign && eqb b size) ≡ false → Having v sign size (i + 1)
    having-on t = let z : suc i ≡ i + 1 = omega arith in rw (t, z) at look

pub ruleset havings = (having-start, having-none, having-found, having-on, rules)

most-entries : most_of sections entry ≡ most_entries
unfolding sections
most-entries = refl

module _ (v : View) (s : State) (a e : ℕ) (d : Decimal) where
  pub entry-broken : (d.tens ≡ 0 → ⊥) → refused 2 a ≡ taken_entry v s a e (scaled d)
  unfolding taken_entry
  entry-broken h = rw (ne_eqb d.tens 0 h)

  -- sign, b and n are what the calls gave
  module _ (t : d.tens ≡ 0) (sign : ℕ) (ps : sign ≡ sign_of (scaled d)) (b : Bool) (pb : b ≡ twice v sign d.whole) where
    pub entry-twice : b ≡ true → refused 6 a ≡ taken_entry v s a e (scaled d)
    unfolding taken_entry
    entry-twice h = rw (eq-eqb d.tens 0 t, ← ps, ← pb, h)

    module _ (f : b ≡ false) (n : ℕ) (pn : n ≡ v.counts entry) where
      pub entry-full : most_entries ≤ n → refused 8 a ≡ taken_entry v s a e (scaled d)
      unfolding taken_entry
      entry-full h = rw (eq-eqb d.tens 0 t, ← ps, ← pb, f, most-entries, ← pn, le-leb most_entries n h)

      pub entry-made : (m : Answered) (st : State) (act : Act) → n < most_entries → moved m ≡ went e st act → st ≡ after s → act ≡ new_record entry 2 sign d.whole 0 0 → moved m ≡ taken_entry v s a e (scaled d)
      unfolding taken_entry
      entry-made m st act h p x y = rw (eq-eqb d.tens 0 t, ← ps, ← pb, f, most-entries, ← pn, lt-leb most_entries n h, p, x, y)

pub ruleset entries = (entry-broken, entry-twice, entry-full, entry-made, via, rules)

module _ (v : View) (s : State) (a e : ℕ) (d : Decimal) (kind : ℕ) (pk : kind ≡ kind_of s) where
  pub decimal-entry : (m : Answered) → kind ≡ 12 → moved m ≡ taken_entry v s a e (scaled d) → moved m ≡ taken_decimal v s a e (scaled d)
  unfolding taken_decimal
  decimal-entry m h p = rw (← pk, eq-eqb kind 12 h, p)

  module _ (h : kind ≡ 12 → ⊥) where
    pub decimal-nought : (eqb kind 9 && not (eqb d.whole 0)) ≡ true → refused 9 a ≡ taken_decimal v s a e (scaled d)
    unfolding taken_decimal
    decimal-nought q = rw (← pk, ne_eqb kind 12 h, q)

    -- b is whether the limit is not below the lower one
    module _ (q : (eqb kind 9 && not (eqb d.whole 0)) ≡ false) (b : Bool) (pb : b ≡ at_most (decimal_in v (sec_of s) (slot_of s - 3)) (scaled d)) where
      pub decimal-below : (eqb kind 10 && not b) ≡ true → refused 5 a ≡ taken_decimal v s a e (scaled d)
      unfolding taken_decimal
      decimal-below u = rw (← pk, ne_eqb kind 12 h, q, ← pb, u)

      pub decimal-kept : (m : Answered) (sign : ℕ) (st : State) (act : Act) → (eqb kind 10 && not b) ≡ false → sign ≡ sign_of (scaled d) → moved m ≡ went e st act → st ≡ after s → act ≡ keeping s 3 sign d.whole d.tens → moved m ≡ taken_decimal v s a e (scaled d)
      unfolding taken_decimal
      decimal-kept m sign st act u ps p x y = rw (← pk, ne_eqb kind 12 h, q, ← pb, u, p, x, y, ps)

pub ruleset decimal-takes = (decimal-entry, decimal-nought, decimal-below, decimal-kept, rules)

-- ---- a number that was read

module _ (x : List ℕ) (v : View) (s : State) (a e kind : ℕ) (pk : kind ≡ kind_of s) (m : Answered) where
  pub number-pairs : kind ≡ 11 → moved m ≡ of_pairs x s a e → moved m ≡ taken_number x v s a e
  unfolding taken_number
  number-pairs h p = rw (← pk, eq-eqb kind 11 h, p)

  pub number-whole : (kind ≡ 11 → ⊥) → (eqb kind 3 || eqb kind 7 || eqb kind 8) ≡ true → moved m ≡ of_whole x s a e → moved m ≡ taken_number x v s a e
  unfolding taken_number
  number-whole h q p = rw (← pk, ne_eqb kind 11 h, q, p)

  pub number-decimal : (kind ≡ 11 → ⊥) → (eqb kind 3 || eqb kind 7 || eqb kind 8) ≡ false → moved m ≡ of_decimal x v s a e → moved m ≡ taken_number x v s a e
  unfolding taken_number
  number-decimal h q p = rw (← pk, ne_eqb kind 11 h, q, p)

  pub name_new : kind ≡ 6 → moved m ≡ taken_new x v s a e → moved m ≡ taken_name x v s a e
  unfolding taken_name
  name_new h p = rw (← pk, eq-eqb kind 6 h, p)

  pub name-choice : (kind ≡ 6 → ⊥) → kind ≡ 5 → moved m ≡ of_choice s a e (class_at x a e) → moved m ≡ taken_name x v s a e
  unfolding taken_name
  name-choice h g p = rw (← pk, ne_eqb kind 6 h, eq-eqb kind 5 g, p)

  pub name-kept : (st : State) (act : Act) → (kind ≡ 6 → ⊥) → (kind ≡ 5 → ⊥) → moved m ≡ went e st act → st ≡ after s → act ≡ keeping s 2 a e 0 → moved m ≡ taken_name x v s a e
  unfolding taken_name
  name-kept st act h g p u w = rw (← pk, ne_eqb kind 6 h, ne_eqb kind 5 g, p, u, w)

pub ruleset number-takes = (number-pairs, number-whole, number-decimal, rules)

pub ruleset name-takes = (name_new, name-choice, name-kept, rules)

-- ---- names

-- a record that was found has a number, plus one
found-some : (f : Option ℕ) → is_some f ≡ true → eqb (found_at f) 0 ≡ false
found-some (Some i) h = ne_eqb (suc i) 0 (λ z. omega arith)
found-some None h = cc

found-none : (f : Option ℕ) → is_some f ≡ false → found_at f ≡ 0
found-none (Some i) h = cc
found-none None h = refl

-- f is what `find` gave
module _ (x : List ℕ) (v : View) (s : State) (a e j : ℕ) (pj : j ≡ sec_of s) (f : Option ℕ) (pf : found_at f ≡ find x v j a e) where
  pub new-twice : (b : Bool) → b ≡ is_some f → b ≡ true → refused 6 a ≡ taken_new x v s a e
  unfolding taken_new
  new-twice b q h = rw (← pj, ← pf, found-some f (sym q ∙ h))

  -- c is the section, n how many records it has
  module _ (b : Bool) (q : b ≡ is_some f) (y : b ≡ false) (c : Section) (pc : c ≡ section_in sections j) (n : ℕ) (pn : n ≡ v.counts j) where
    none : find x v j a e ≡ 0
    none = sym pf ∙ found-none f (sym q ∙ y)

    most : most_of sections j ≡ c.most
    most = ap (λ (z : Section). z.most) (sym pc)

    pub new-full : c.most ≤ n → refused 8 a ≡ taken_new x v s a e
    unfolding taken_new
    new-full h = rw (← pj, none, most, ← pn, le-leb c.most n h)

    pub new-made : (m : Answered) → n < c.most → moved m ≡ went e (after s) (new_record j 4 a e (v.counts (slot_of s)) s.block) → moved m ≡ taken_new x v s a e
    unfolding taken_new
    new-made m h p = rw (← pj, none, most, ← pn, lt-leb c.most n h, p)

pub ruleset news = (new-twice, new-full, new-made, rules)

-- ---- texts

module _ (s : State) where
  module _ (a e kind : ℕ) (pk : kind ≡ kind_of s) (m : Answered) (st : State) (act : Act) (p : moved m ≡ went e st act) where
    pub text-pair : kind ≡ 13 → st ≡ after_text s → act ≡ writes entry entry_text 2 a e 0 → moved m ≡ taken_text s a e
    unfolding taken_text
    text-pair h u w = rw (← pk, eq-eqb kind 13 h, p, u, w)

    pub text-kept : (kind ≡ 13 → ⊥) → st ≡ after s → act ≡ keeping s 2 a e 0 → moved m ≡ taken_text s a e
    unfolding taken_text
    text-kept h u w = rw (← pk, ne_eqb kind 13 h, p, u, w)

pub ruleset texts = (text-pair, text-kept, rules)

-- ---- any piece

module _ (x : List ℕ) (v : View) (s : State) (k a e kind : ℕ) (pk : kind ≡ kind_of s) where
  module _ (m : Answered) (q : (eqb kind 2 || eqb kind 13) ≡ true) where
    pub taken-string : k ≡ 1 → moved m ≡ taken_text s a e → moved m ≡ taken x v s k a e
    unfolding taken
    taken-string h p = rw (← pk, q, eq-eqb k 1 h, p)

    pub taken-no-string : (k ≡ 1 → ⊥) → moved m ≡ wrong 5 x k a e → moved m ≡ taken x v s k a e
    unfolding taken
    taken-no-string h p = rw (← pk, q, ne_eqb k 1 h, p)

  module _ (q : (eqb kind 2 || eqb kind 13) ≡ false) where
    module _ (m : Answered) (u : (eqb kind 1 || eqb kind 5 || eqb kind 6) ≡ true) where
      pub taken_word : k ≡ 0 → moved m ≡ taken_name x v s a e → moved m ≡ taken x v s k a e
      unfolding taken
      taken_word h p = rw (← pk, q, u, eq-eqb k 0 h, p)

      pub taken-no-word : (k ≡ 0 → ⊥) → moved m ≡ wrong 5 x k a e → moved m ≡ taken x v s k a e
      unfolding taken
      taken-no-word h p = rw (← pk, q, u, ne_eqb k 0 h, p)

    module _ (u : (eqb kind 1 || eqb kind 5 || eqb kind 6) ≡ false) where
      pub taken-digits : (m : Answered) → k ≡ 2 → moved m ≡ taken_number x v s a e → moved m ≡ taken x v s k a e
      unfolding taken
      taken-digits m h p = rw (← pk, q, u, eq-eqb k 2 h, p)

      pub taken-no-digits : (k ≡ 2 → ⊥) → refused 5 a ≡ taken x v s k a e
      unfolding taken
      taken-no-digits h = rw (← pk, q, u, ne_eqb k 2 h)

pub ruleset takes = (taken-string, taken-no-string, taken_word, taken-no-word, taken-digits, taken-no-digits, rules)
