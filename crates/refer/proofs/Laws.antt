-- References, by the branches that the code takes.
use Prim.Native.Nat.{ℕ, suc, ◌+◌, ◌-◌, ◌≤◌, ◌<◌, min}
use mathlib.Core.Path.{◌≡◌, refl, sym, ◌∙◌, ap, subst}
use mathlib.Core.List.{List, [], ◌∷◌}
use mathlib.Core.Bool.{Bool, true, false, cond, ◌&&◌, ◌||◌}
use native.Mathlib.Omega.{arith}
use borrow.Author.Rules.{rules}
use borrow.Author.Tests.{eq-eqb, ne_eqb, lt-ltb, le-ltb, ltb-true, ltb-false}
use lib.Dec.{eqb, ltb}
use lib.ListN.{length, get_or, drop, drop_of_length-le}
use lib.Seq.{drop-cons}
use Rattle.std.specs.Prelude.{Option, Some, None, Result, Ok}
use Rattle.text.specs.declared.cursor.Refusal.{Refusal}
use Rattle.text.specs.Answer.{Answer, given, refused}
use Rattle.text.specs.Bytes.{same_part, spelt}
use Rattle.text.proofs.ByteLaws.{via}
use Rattle.rows.specs.Slots.{block_code}
use Rattle.grammar.specs.Move.{View}
use Rattle.grammar.specs.Parameter.{find, found_at}
use Rattle.refer.specs.Refer.{inner_rows, reference_rows, is_free, is_of, leads, judged_reference, failing, least_from, least_of, least_in, stopped, sooner, referred, told_reference}
use Rattle.refer.specs.declared.Row.{Row}

-- every reference leads somewhere, or a refusal
abbrev pub Told : Type 0
Told = Result (Unit {0}) Refusal

pub free-is : (x : List ℕ) (f a e : ℕ) (m q : Bool) → m ≡ same_part x a e (spelt "NO_COMPU_METHOD") 0 15 → q ≡ same_part x a e (spelt "NO_INPUT_QUANTITY") 0 17 → (eqb f 1 && m || eqb f 2 && q) ≡ is_free x f a e
unfolding is_free
free-is x f a e m q p r = rw (p, r)

pub ruleset frees = (free-is, rules)

module _ (x : List ℕ) (v : View) (r : Row) (a e : ℕ) where
  pub refer-free : is_free x r.free a e ≡ true → given tt ≡ judged_reference x v r a e
  unfolding leads
  refer-free h = rw h

  -- f is what `find` gave
  module _ (h : is_free x r.free a e ≡ false) (f : Option ℕ) (p : found_at f ≡ find x v r.target a e) where
    leads-is : (w : Option ℕ) → f ≡ w → leads x v r a e ≡ is_of v r.target r.class (found_at w)
    unfolding leads
    leads-is w y = rw h (ap (is_of v r.target r.class) (sym p ∙ ap found_at y))

    pub refer-none : f ≡ None → refused 7 a ≡ judged_reference x v r a e
    refer-none y = rw (leads-is None y)

    -- s is the class of the record that was found
    module _ (i : ℕ) (y : f ≡ Some i) (s : ℕ) (ps : s ≡ v.slots r.target i block_code) where
      pub refer-right : (eqb r.class 0 || eqb s r.class) ≡ true → given tt ≡ judged_reference x v r a e
      refer-right t = rw (leads-is (Some i) y, ← ps, t)

      pub refer-wrong : (eqb r.class 0 || eqb s r.class) ≡ false → refused 7 a ≡ judged_reference x v r a e
      refer-wrong t = rw (leads-is (Some i) y, ← ps, t)

pub ruleset refers = (refer-free, refer-none, refer-right, refer-wrong, via, rules)

-- a and e are the places of the name, and q what `refer` gave
module _ (x : List ℕ) (v : View) (r : Row) (i a e : ℕ) (pa : a ≡ v.slots r.sec i r.slot) (pe : e ≡ v.slots r.sec i (r.slot + 1)) where
  pub reference-none : e ≡ 0 → given tt ≡ stopped x (failing x v r i)
  unfolding failing
  reference-none h = rw (← pe, eq-eqb e 0 h, le-ltb (length x) (length x) (omega arith))

  module _ (h : e ≡ 0 → ⊥) where
    by-lead : (t : Bool) → leads x v r a e ≡ t → failing x v r i ≡ cond t (length x) a
    unfolding failing
    by-lead t y = rw (← pe, ← pa, ne_eqb e 0 h, y)

    pub reference-past : length x ≤ a → given tt ≡ stopped x (failing x v r i)
    reference-past l = turn (leads x v r a e) refl where
      turn : (t : Bool) → leads x v r a e ≡ t → given tt ≡ stopped x (failing x v r i)
      turn true y = rw (by-lead true y, le-ltb (length x) (length x) (omega arith))
      turn false y = rw (by-lead false y, le-ltb a (length x) l)

    pub reference-is : a < length x → (q : Told) → told_reference q ≡ judged_reference x v r a e → told_reference q ≡ stopped x (failing x v r i)
    reference-is l q p = p ∙ turn (leads x v r a e) refl where
      turn : (t : Bool) → leads x v r a e ≡ t → judged_reference x v r a e ≡ stopped x (failing x v r i)
      turn true y = rw (y, by-lead true y, le-ltb (length x) (length x) (omega arith))
      turn false y = rw (y, by-lead false y, lt-ltb a (length x) l)

pub ruleset references = (reference-none, reference-past, reference-is, rules)

-- of three it is the same which two are first compared
sooner_assoc : (a b c : Answer (Unit {0})) → sooner (sooner a b) c ≡ sooner a (sooner b c)
sooner_assoc (given u) b c = refl
sooner_assoc (refused n p) (given u) c = refl
sooner_assoc (refused n p) (refused m q) (given u) = turn (ltb q p) where
  turn : (t : Bool) → sooner (cond t (refused m q) (refused n p)) (given u) ≡ cond t (refused m q) (refused n p)
  turn true = refl
  turn false = refl
sooner_assoc (refused n p) (refused m q) (refused k r) = turn (ltb q p) (ltb r q) (ltb r p) refl refl refl where
  turn : (t u w : Bool) → ltb q p ≡ t → ltb r q ≡ u → ltb r p ≡ w → sooner (cond t (refused m q) (refused n p)) (refused k r) ≡ sooner (refused n p) (cond u (refused k r) (refused m q))
  turn true true true et eu ew = rw (eu, ew)
  turn true true false et eu ew = absurd (let z : r < p = omega (arith, ltb-true) in omega (arith, ltb-false))
  turn true false w et eu ew = rw (eu, et)
  turn false true w et eu ew = refl
  turn false false true et eu ew = absurd (let z : p ≤ r = omega (arith, ltb-false) in omega (arith, ltb-true))
  turn false false false et eu ew = rw (ew, et)

sooner_none : (a : Answer (Unit {0})) (x : List ℕ) → sooner a (stopped x (length x)) ≡ a
sooner_none (given u) x = rw (le-ltb (length x) (length x) (omega arith))
sooner_none (refused n p) x = rw (le-ltb (length x) (length x) (omega arith))

-- of two places the smaller stops sooner
both : (x : List ℕ) (p q : ℕ) → sooner (stopped x p) (stopped x q) ≡ stopped x (min p q)
both x p q = turn (ltb p (length x)) (ltb q (length x)) (ltb q p) refl refl refl where
  turn : (a b c : Bool) → ltb p (length x) ≡ a → ltb q (length x) ≡ b → ltb q p ≡ c → sooner (stopped x p) (stopped x q) ≡ stopped x (min p q)
  turn true true true ea eb ec = let z : min p q ≡ q = omega (arith, ltb-true) in rw (z, ea, eb, ec)
  turn true true false ea eb ec = let z : min p q ≡ p = omega (arith, ltb-false) in rw (z, ea, eb, ec)
  turn true false c ea eb ec = let z : min p q ≡ p = omega (arith, ltb-true, ltb-false) in rw (z, ea, eb)
  turn false true c ea eb ec = let z : min p q ≡ q = omega (arith, ltb-true, ltb-false) in rw (z, ea, eb)
  turn false false c ea eb ec = let z : length x ≤ min p q = omega (arith, ltb-false) in rw (ea, eb, le-ltb (min p q) (length x) z)

-- the first by place of the records below i, with those from i on, is that of all
pub record Lessening (x : List ℕ) (v : View) (r : Row) (i : ℕ) (first : Told) : Type 0 where
  pub within : i ≤ v.counts r.sec
  pub is : sooner (told_reference first) (stopped x (least_from (v.counts r.sec - i) x v r i)) ≡ stopped x (least_of x v r)

module _ (x : List ℕ) (v : View) (r : Row) where
  pub less-start : (u : Unit {0}) → Lessening x v r 0 (Ok u)
  less-start u = let z : v.counts r.sec - 0 ≡ v.counts r.sec = omega arith in record { within = omega arith; is = rw z }

  module _ (i n : ℕ) (first : Told) (c : n ≡ v.counts r.sec) (q : Lessening x v r i first) where
    pub less-on : (one m : Told) → i < n → told_reference one ≡ stopped x (failing x v r i) → told_reference m ≡ sooner (told_reference first) (told_reference one) → Lessening x v r (i + 1) m
    unfolding least_from
    less-on one m h p y =
        let z : v.counts r.sec - i ≡ suc (v.counts r.sec - (i + 1)) = omega arith in
        let w : suc i ≡ i + 1 = omega arith in
        let rest = stopped x (least_from (v.counts r.sec - (i + 1)) x v r (i + 1)) in
        let e : sooner (told_reference m) rest ≡ sooner (told_reference first) (sooner (stopped x (failing x v r i)) rest) = rw (y, p) (sooner_assoc (told_reference first) (stopped x (failing x v r i)) rest) in
        record { within = omega arith; is = e ∙ ap (sooner (told_reference first)) (both x (failing x v r i) (least_from (v.counts r.sec - (i + 1)) x v r (i + 1))) ∙ (rw (z, w) at q.is) }

    pub less-end : n ≤ i → told_reference first ≡ stopped x (least_of x v r)
    unfolding least_from
    less-end h =
        let z : v.counts r.sec - i ≡ 0 = omega (arith, q.within) in
        sym (sooner_none (told_reference first) x) ∙ (rw z at q.is)

pub ruleset lessenings = (less-start, less-on, less-end, rules)

-- the first of the rows before row i, with that of those from it on, is that of all
abbrev pub Reaching : List ℕ → View → ℕ → Told → Type 0
Reaching x v i first = sooner (told_reference first) (stopped x (least_in x v (drop i reference_rows))) ≡ referred x v

module _ (x : List ℕ) (v : View) where
  pub reach-start : (u : Unit {0}) → Reaching x v 0 (Ok u)
  unfolding referred
  reach-start u = refl

  row_count : length reference_rows ≡ 7
  unfolding reference_rows inner_rows
  row_count = refl

  pub reach-end : (first : Told) (i : ℕ) → Reaching x v i first → 7 ≤ i → told_reference first ≡ referred x v
  reach-end first i q h =
      let z : drop i reference_rows ≡ [] = drop_of_length-le reference_rows (omega (arith, row_count)) in
      sym (sooner_none (told_reference first) x) ∙ (rw z at q)

  -- rs are the rows, and d is any
  pub reach-on : (rs : List Row) (i : ℕ) (d : Row) (first one m : Told) → rs ≡ reference_rows → Reaching x v i first → i < 7 → told_reference one ≡ stopped x (least_of x v (get_or rs i d)) → told_reference m ≡ sooner (told_reference first) (told_reference one)
      → Reaching x v (i + 1) m
  reach-on rs i d first one m e q h p y =
      let k : suc i ≡ i + 1 = omega arith in
      let z : drop i reference_rows ≡ get_or reference_rows i d ∷ drop (i + 1) reference_rows = subst (λ (n : ℕ). drop i reference_rows ≡ get_or reference_rows i d ∷ drop n reference_rows) k (drop-cons reference_rows i d (omega (arith, row_count))) in
      let rest = stopped x (least_in x v (drop (i + 1) reference_rows)) in
      let w : told_reference one ≡ stopped x (least_of x v (get_or reference_rows i d)) = p ∙ ap (λ (l : List Row). stopped x (least_of x v (get_or l i d))) e in
      let o : sooner (told_reference one) rest ≡ stopped x (least_in x v (get_or reference_rows i d ∷ drop (i + 1) reference_rows)) =
      ap (λ k. sooner k rest) w ∙ both x (least_of x v (get_or reference_rows i d)) (least_in x v (drop (i + 1) reference_rows)) in
      ap (λ k. sooner k rest) y ∙ sooner_assoc (told_reference first) (told_reference one) rest ∙ ap (sooner (told_reference first)) o ∙ (ap (λ (l : List Row). sooner (told_reference first) (stopped x (least_in x v l))) (sym z) ∙ q)

pub ruleset reachings = (reach-start, reach-end, reach-on, rules)
