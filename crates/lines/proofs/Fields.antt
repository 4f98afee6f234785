-- Places of a byte, and fields by them: what the loops keep, and what each turn does.
use Prim.Native.Nat.{ℕ, zero, suc, ◌+◌, ◌-◌, ◌<◌, ◌≤◌}
use native.Mathlib.Numerals.{add-one}
use native.Mathlib.Omega.{arith}
use mathlib.Core.Path.{◌≡◌, refl, sym, ◌∙◌, ap}
use mathlib.Core.List.{List, [], ◌∷◌}
use mathlib.Core.Bool.{Bool, true, false, cond}
use borrow.Author.Tests.{eq-eqb, ne_eqb, le-ltb, ltb-false}
use borrow.Author.Rules.{rules}
use lib.Dec.{eqb, ltb}
use lib.ListN.{length, take, drop, get_or, length-drop, drop_of_length-le}
use lib.Seq.{drop-cons, drop-drop, drop-length}
use Rattle.lines.specs.Field.{before, place_from, field_count, up_to_tab, past_tab, field_of}

-- ---- the first place of a byte
low_turn : (t : Bool) (n m : ℕ) → n ≤ m → cond t 0 (suc n) ≤ suc m
low_turn true n m h = omega arith
low_turn false n m h = omega arith

before-low : (c : ℕ) (l : List ℕ) → before c l ≤ length l
unfolding before
before-low c [] = omega arith
before-low c (b ∷ l) = low_turn (eqb b c) (before c l) (length l) (before-low c l)

module _ (c : ℕ) (s : List ℕ) where
  past : (i : ℕ) → length s ≤ i → place_from c s i ≡ length s
  unfolding place_from
  past i h = rw (le-ltb i (length s) h)

  -- also at the end, before which nothing stands
  from : (i : ℕ) → i ≤ length s → place_from c s i ≡ i + before c (drop i s)
  unfolding place_from before
  from i h = go (ltb i (length s)) refl
    where
      go : (t : Bool) → ltb i (length s) ≡ t → cond t (i + before c (drop i s)) (length s) ≡ i + before c (drop i s)
      go true e = refl
      go false e = let g : length s ≤ i = ltb-false i (length s) e in rw (drop_of_length-le s g) (omega arith)

module _ (c : ℕ) (s : List ℕ) (at : ℕ) where
  module _ (i : ℕ) (q : place_from c s i ≡ place_from c s at) where
    pub place_end : length s ≤ i → length s ≡ place_from c s at
    place_end h = sym (past c s i h) ∙ q

    module _ (h : i < length s) where
      pub place_here : get_or s i 0 ≡ c → i ≡ place_from c s at
      unfolding before
      place_here e =
          let l : i ≤ length s = omega arith in
          let z : before c (drop i s) ≡ 0 = rw (drop-cons s i 0 h, eq-eqb (get_or s i 0) c e) in
          omega (arith, from c s i l, q)

      pub place-on : (get_or s i 0 ≡ c → ⊥) → place_from c s (i + 1) ≡ place_from c s at
      unfolding before
      place-on n =
          let l : i ≤ length s = omega arith in
          let g : i + 1 ≤ length s = omega arith in
          let z : before c (drop i s) ≡ suc (before c (drop (i + 1) s)) = rw (drop-cons s i 0 h, ne_eqb (get_or s i 0) c n, add-one i) in
          omega (arith, from c s i l, from c s (i + 1) g, q)

pub ruleset places = (place_end, place_here, place-on, rules)

-- ---- how many fields
pub record Tabs (s : List ℕ) (i count : ℕ) : Type 0 where
  pub same : count + field_count (drop i s) ≡ suc (field_count s)
  pub low : count ≤ i + 1

module _ (s : List ℕ) where
  pub tabs-start : Tabs s 0 1
  tabs-start = record { same = omega arith; low = omega arith }

  module _ (i count : ℕ) (q : Tabs s i count) where
    pub tabs-end : length s ≤ i → count ≡ field_count s
    unfolding field_count
    tabs-end h = let e : count + 1 ≡ suc (field_count s) = rw (drop_of_length-le s h) at q.same in omega arith

    module _ (h : i < length s) where
      pub tabs-one : (k : ℕ) → get_or s i 0 ≡ 9 → k ≡ count + 1 → Tabs s (i + 1) k
      unfolding field_count
      tabs-one k e u =
          let p : count + suc (field_count (drop (suc i) s)) ≡ suc (field_count s) = rw (drop-cons s i 0 h, eq-eqb (get_or s i 0) 9 e) at q.same in
          record { same = rw (add-one i) (omega arith); low = omega (arith, q.low) }

      pub tabs-none : (k : ℕ) → (get_or s i 0 ≡ 9 → ⊥) → k ≡ count → Tabs s (i + 1) k
      unfolding field_count
      tabs-none k e u =
          let p : count + field_count (drop (suc i) s) ≡ suc (field_count s) = rw (drop-cons s i 0 h, ne_eqb (get_or s i 0) 9 e) at q.same in
          record { same = rw (add-one i, u) p; low = omega (arith, q.low) }

pub ruleset tabs = (tabs-start, tabs-end, tabs-one, tabs-none, rules)

-- ---- fields by the places of tabs
up_turn : (t : Bool) (b n : ℕ) (l m : List ℕ) → m ≡ take n l → cond t [] (b ∷ m) ≡ take (cond t 0 (suc n)) (b ∷ l)
up_turn true b n l m e = refl
up_turn false b n l m e = ap (λ (x : List ℕ). b ∷ x) e

up_is : (l : List ℕ) → up_to_tab l ≡ take (before 9 l) l
unfolding up_to_tab before
up_is [] = refl
up_is (b ∷ l) = up_turn (eqb b 9) b (before 9 l) l (up_to_tab l) (up_is l)

past-turn : (t : Bool) (b n : ℕ) (l m : List ℕ) → m ≡ drop (suc n) l → cond t l m ≡ drop (suc (cond t 0 (suc n))) (b ∷ l)
past-turn true b n l m e = refl
past-turn false b n l m e = e

-- also where there is no tab, and nothing past it
past_is : (l : List ℕ) → past_tab l ≡ drop (suc (before 9 l)) l
unfolding past_tab before
past_is [] = refl
past_is (b ∷ l) = past-turn (eqb b 9) b (before 9 l) l (past_tab l) (past_is l)

pub field_of-none : (k : ℕ) → field_of k [] ≡ []
unfolding field_of past_tab up_to_tab
field_of-none zero = refl
field_of-none (suc k) = field_of-none k

field_next : (k : ℕ) (l : List ℕ) → 0 < k → field_of k l ≡ field_of (k - 1) (past_tab l)
unfolding field_of
field_next zero l h = absurd (omega arith)
field_next (suc k) l h = let e : suc k - 1 ≡ k = omega arith in rw e

field-first : (k : ℕ) (l : List ℕ) → k ≤ 0 → field_of k l ≡ up_to_tab l
unfolding field_of
field-first zero l h = refl
field-first (suc k) l h = absurd (omega arith)

-- past i tabs the field looked for is field k - i of the rest
pub record Left (s : List ℕ) (k at i : ℕ) : Type 0 where
  pub same : field_of (k - i) (drop at s) ≡ field_of k s
  pub low : at ≤ length s

module _ (s : List ℕ) (k : ℕ) where
  pub left-start : Left s k 0 0
  left-start = let e : k - 0 ≡ k = omega arith in record { same = rw e; low = omega arith }

  module _ (at i : ℕ) (q : Left s k at i) where
    pub left_end : k ≤ i → up_to_tab (drop at s) ≡ field_of k s
    left_end h = sym (field-first (k - i) (drop at s) (omega arith)) ∙ q.same

    module _ (tab : ℕ) (h : i < k) (p : tab ≡ place_from 9 s at) where
      on : field_of (k - (i + 1)) (drop (tab + 1) s) ≡ field_of k s
      on =
          let e : at + suc (before 9 (drop at s)) ≡ tab + 1 = omega (arith, from 9 s at q.low) in
          let d : past_tab (drop at s) ≡ drop (tab + 1) s = past_is (drop at s) ∙ drop-drop (suc (before 9 (drop at s))) at s ∙ ap (λ (n : ℕ). drop n s) e in
          let m : k - (i + 1) ≡ k - i - 1 = omega arith in
          rw (m, ← d) (sym (field_next (k - i) (drop at s) (omega arith)) ∙ q.same)

      pub left-on : tab < length s → Left s k (tab + 1) (i + 1)
      left-on g = record { same = on; low = omega arith }

      pub left-none : length s ≤ tab → up_to_tab (drop (length s) s) ≡ field_of k s
      unfolding up_to_tab
      left-none g =
          let l : length s ≤ tab + 1 = omega arith in
          let e : field_of (k - (i + 1)) [] ≡ field_of k s = rw (drop_of_length-le s l) at on in
          rw (drop-length s) (sym (field_of-none (k - (i + 1))) ∙ e)

pub ruleset starts = (left-start, left_end, left-on, left-none, rules)

-- the place of a byte at or after a place lies there or past it, and within the bytes
module _ (c : ℕ) (s : List ℕ) (a e : ℕ) (h : a ≤ length s) (p : e ≡ place_from c s a) where
  span : e ≡ a + before c (drop a s)
  span = p ∙ from c s a h

  pub span-order : a ≤ e
  span-order = omega (arith, span)

  pub span-low : e ≤ length s
  span-low = omega (arith, span, before-low c (drop a s), length-drop a s)

pub field_is : (s : List ℕ) (k a e : ℕ) → up_to_tab (drop a s) ≡ field_of k s → a ≤ length s → e ≡ place_from 9 s a → take (e - a) (drop a s) ≡ field_of k s
field_is s k a e f h p =
    let z : e - a ≡ before 9 (drop a s) = omega (arith, span 9 s a e h p) in
    rw z (sym (up_is (drop a s)) ∙ f)

pub ruleset fields = (span-order, span-low, field_is, rules)
