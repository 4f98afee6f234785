-- What a write judges of the element alone, by the tests that the code makes.
use mathlib.Core.Path.{◌≡◌, refl, sym, ap, ◌∙◌}
use mathlib.Core.List.{List}
use mathlib.Core.Bool.{Bool, true, false, cond, not, ◌&&◌, ◌||◌}
use mathlib.Core.Logic.{⊎_elim}
use Prim.Native.Nat.{ℕ, zero, suc, ◌+◌, ◌≤◌, ◌<◌, min}
use native.Mathlib.Nat.{not-suc-le-zero, le_of_suc-le-suc, eq-or-lt_of_le}
use native.Mathlib.Numerals.{add-one}
use native.Mathlib.Omega.{arith}
use borrow.Author.Rules.{rules}
use lib.Dec.{eqb}
use Rattle.number.specs.Answer.{Answer, given, refused}
use Rattle.cell.specs.Kind.{shape_of}
use Rattle.cell.specs.declared.kind.Shape.{Shape}
use Rattle.tables.specs.Form.{tables_in, forbidden, counter, counter_place}
use Rattle.tables.specs.Group.{group_of, bytes, place_of}
use Rattle.look.specs.Element.{past_records, shares}
use Rattle.number.specs.Below.{any_below}
use Rattle.look.specs.Calls.{Lent, checked, is_element, groups, is_counted, on_count, writable, judged_element}
use Rattle.look.specs.Steps.{refusal_of, checked_no, writable_no, element_no}
use Rattle.look.proofs.CheckLaws.{two, checked_refused, checked-passed, group-is}

-- ---- a stored count
pub counted_is : (t : List ℕ) (lo hi g k p : ℕ) (s : Shape) (b : Bool) → k ≡ counter (tables_in t) g → p ≡ counter_place (tables_in t) g → s ≡ shape_of k
    → b ≡ shares lo hi p s.bytes → (b && not (eqb k 0)) ≡ is_counted t lo hi g
unfolding is_counted
counted_is t lo hi g k p s b e f q h = rw (h, q, f, e)

or-true : (a : Bool) → (a || true) ≡ true
or-true true = refl
or-true false = refl

module _ (f : ℕ → Bool) where
  any_found : (n g : ℕ) → g < n → f g ≡ true → any_below n f ≡ true
  unfolding any_below
  any_found zero g l h = absurd (not-suc-le-zero l)
  any_found (suc n) g l h =
      ⊎_elim (λ e. let z : n ≡ g = omega arith in rw (z, h) (or-true (any_below g f))) (λ m. rw (any_found n g (le_of_suc-le-suc m) h)) (eq-or-lt_of_le l)

  any-more : (g : ℕ) → any_below g f ≡ false → f g ≡ false → any_below (g + 1) f ≡ false
  unfolding any_below
  any-more g a b = rw (add-one, a, b)

  any_none : any_below 0 f ≡ false
  unfolding any_below
  any_none = refl

-- no stored count of the groups below g has one of the bytes
pub record Clear (t : List ℕ) (lo hi g : ℕ) : Type 0 where
  pub within : g ≤ groups t
  pub clear : any_below g (is_counted t lo hi) ≡ false

module _ (t : List ℕ) (lo hi : ℕ) where
  pub clear-start : Clear t lo hi 0
  clear-start = record { within = omega arith; clear = any_none (is_counted t lo hi) }

  module _ (g n : ℕ) (p : n ≡ groups t) (c : Clear t lo hi g) where
    pub clear-more : (b : Bool) → g < n → b ≡ is_counted t lo hi g → b ≡ false → Clear t lo hi (g + 1)
    clear-more b l e h = record { within = omega arith; clear = any-more (is_counted t lo hi) g c.clear (sym e ∙ h) }

    pub on-count : (b : Bool) → g < n → b ≡ is_counted t lo hi g → b ≡ true → true ≡ on_count t lo hi
    unfolding on_count
    on-count b l e h = sym (any_found (is_counted t lo hi) (groups t) g (omega arith) (sym e ∙ h))

    pub off-count : n ≤ g → false ≡ on_count t lo hi
    unfolding on_count
    off-count l = let z : g ≡ groups t = omega (arith, c.within) in rw (← z) (sym c.clear)

pub ruleset counts = (counted_is, clear-start, clear-more, on-count, off-count, rules)

-- ---- 21 and 19
module _ (t : List ℕ) (g i : ℕ) (a : Bool) (e : a ≡ forbidden (tables_in t) g) where
  pub free-forbidden : a ≡ true → 21 ≡ writable_no t g i
  unfolding writable
  free-forbidden h = rw (← e, h)

  module _ (h : a ≡ false) (p w : ℕ) (b : Bool) (pp : p ≡ place_of (tables_in t) g i) (pw : w ≡ bytes (tables_in t) g) (f : b ≡ on_count t p (p + w)) where
    is-on : b ≡ on_count t (place_of (tables_in t) g i) (place_of (tables_in t) g i + bytes (tables_in t) g)
    is-on = f ∙ rw (pp, pw)

    pub free-count : b ≡ true → 19 ≡ writable_no t g i
    unfolding writable
    free-count k = rw (← e, h, ← is-on, k)

    pub free-is : b ≡ false → 0 ≡ writable_no t g i
    unfolding writable
    free-is k = rw (← e, h, ← is-on, k)

pub ruleset frees = (free-forbidden, free-count, free-is, rules)

two-pass : {A : Type 0} (a b : Bool) (u v : ℕ) (x : Answer A) → refusal_of (cond a (cond b (given (tt {0})) (refused (suc v))) (refused (suc u))) ≡ 0
    → x ≡ cond a (cond b x (refused (suc v))) (refused (suc u))
two-pass true true u v x h = refl
two-pass true false u v x h = absurd (omega arith)
two-pass false b u v x h = absurd (omega arith)

module _ {A : Type 0} (t : List ℕ) (g i r : ℕ) (p : r ≡ writable_no t g i) (x : Answer A) where
  free-refused : (r ≡ 0 → ⊥) → refused r ≡ writable t g i x
  unfolding writable
  free-refused h = rw p (two (not (forbidden (tables_in t) g)) (not (on_count t (place_of (tables_in t) g i) (place_of (tables_in t) g i + bytes (tables_in t) g))) 21 19 x (λ z. h (p ∙ z)))

  free-passed : r ≡ 0 → x ≡ writable t g i x
  unfolding writable
  free-passed h = two-pass (not (forbidden (tables_in t) g)) (not (on_count t (place_of (tables_in t) g i) (place_of (tables_in t) g i + bytes (tables_in t) g))) 20 18 x (sym p ∙ h)

-- ---- 20, 22, 14, 21, 19
module _ (t : List ℕ) (l : Lent) (enough : Bool) (o p i r : ℕ) (q : r ≡ checked_no t l enough) where
  no_of : (x : Answer (Unit {0})) → x ≡ checked t l enough x → refusal_of x ≡ refusal_of (checked t l enough x)
  no_of x e = ap (λ (y : Answer (Unit {0})). refusal_of y) e

  pub stand-refused : (r ≡ 0 → ⊥) → r ≡ element_no t l enough o p i
  unfolding judged_element
  stand-refused h = ap (λ (y : Answer (Unit {0})). refusal_of y) (checked_refused t l enough r q (cond (is_element (tables_in t) o p i) (writable t (group_of o p) i (given (tt {0}))) (refused 14)) h)

  module _ (h : r ≡ 0) (b : Bool) (e : b ≡ is_element (tables_in t) o p i) where
    pub stand-none : b ≡ false → 14 ≡ element_no t l enough o p i
    unfolding judged_element
    stand-none k = rw (← e, k) (no_of (refused 14) (checked-passed t l enough r q (refused 14) h))

    pub stand-is : (g n : ℕ) → b ≡ true → g ≡ min (group_of o p) past_records → n ≡ writable_no t g i → n ≡ element_no t l enough o p i
    unfolding judged_element
    stand-is g n k f w =
        w ∙ rw (group-is t o p i b g e k f, ← e, k)
        (no_of (writable t (group_of o p) i (given (tt {0}))) (checked-passed t l enough r q (writable t (group_of o p) i (given (tt {0}))) h))

pub ruleset stands = (stand-refused, stand-none, stand-is, rules)

-- ---- what the number of the refusal says of a write
pub record Stands (t : List ℕ) (l : Lent) (enough : Bool) (o p i : ℕ) : Type 0 where
  pub checks : checked_no t l enough ≡ 0
  pub element : is_element (tables_in t) o p i ≡ true
  pub frees : writable_no t (group_of o p) i ≡ 0

module _ (t : List ℕ) (l : Lent) (enough : Bool) (o p i : ℕ) where
  abbrev after_check : {A : Type 0} → ℕ → Bool → ℕ → Answer A → Answer A
  after_check zero true zero x = x
  after_check zero true (suc n) x = refused (suc n)
  after_check zero false n x = refused 14
  after_check (suc m) b n x = refused (suc m)

  -- the three judgements by their numbers
  standing_by : {A : Type 0} (x : Answer A) → judged_element t l enough o p i x ≡ after_check (checked_no t l enough) (is_element (tables_in t) o p i) (writable_no t (group_of o p) i) x
  unfolding judged_element
  standing_by {A} x = by-check (checked_no t l enough) refl
    where
      by-free : (n : ℕ) → writable_no t (group_of o p) i ≡ n → writable t (group_of o p) i x ≡ after_check 0 true n x
      by-free zero e = sym (free-passed t (group_of o p) i 0 (sym e) x refl)
      by-free (suc n) e = sym (free-refused t (group_of o p) i (suc n) (sym e) x (λ z. omega arith))

      by-element : (b : Bool) → is_element (tables_in t) o p i ≡ b → cond b (writable t (group_of o p) i x) (refused 14) ≡ after_check 0 b (writable_no t (group_of o p) i) x
      by-element true e = by-free (writable_no t (group_of o p) i) refl
      by-element false e = refl

      by-check : (m : ℕ) → checked_no t l enough ≡ m → judged_element t l enough o p i x ≡ after_check m (is_element (tables_in t) o p i) (writable_no t (group_of o p) i) x
      by-check zero e = sym (checked-passed t l enough 0 (sym e) (cond (is_element (tables_in t) o p i) (writable t (group_of o p) i x) (refused 14)) refl) ∙ by-element (is_element (tables_in t) o p i) refl
      by-check (suc m) e = sym (checked_refused t l enough (suc m) (sym e) (cond (is_element (tables_in t) o p i) (writable t (group_of o p) i x) (refused 14)) (λ z. omega arith))

  by-refused : {A : Type 0} (m : ℕ) (b : Bool) (n : ℕ) (x : Answer A) (r : ℕ) → r ≡ refusal_of (after_check m b n (given (tt {0}))) → (r ≡ 0 → ⊥) → refused r ≡ after_check m b n x
  by-refused zero true zero x r p h = absurd (h p)
  by-refused zero true (suc n) x r p h = rw p
  by-refused zero false n x r p h = rw p
  by-refused (suc m) b n x r p h = rw p

  by-passed : (m : ℕ) (b : Bool) (n : ℕ) → refusal_of (after_check m b n (given (tt {0}))) ≡ 0 → (m ≡ 0) × (b ≡ true) × (n ≡ 0)
  by-passed zero true zero h = (refl, refl, refl)
  by-passed zero true (suc n) h = absurd (omega arith)
  by-passed zero false n h = absurd (omega arith)
  by-passed (suc m) b n h = absurd (omega arith)

  module _ (r : ℕ) (q : r ≡ element_no t l enough o p i) where
    by_number : r ≡ refusal_of (after_check (checked_no t l enough) (is_element (tables_in t) o p i) (writable_no t (group_of o p) i) (given (tt {0})))
    by_number = q ∙ ap (λ (y : Answer (Unit {0})). refusal_of y) (standing_by (given (tt {0})))

    pub standing-refused : {A : Type 0} (x : Answer A) → (r ≡ 0 → ⊥) → refused r ≡ judged_element t l enough o p i x
    standing-refused x h = by-refused (checked_no t l enough) (is_element (tables_in t) o p i) (writable_no t (group_of o p) i) x r by_number h ∙ sym (standing_by x)

    pub stands-so : r ≡ 0 → Stands t l enough o p i
    stands-so h =
        let b = by-passed (checked_no t l enough) (is_element (tables_in t) o p i) (writable_no t (group_of o p) i) (sym by_number ∙ h) in
        record { checks = b.0; element = b.1; frees = b.2 }

    pub standing-passed : {A : Type 0} (x : Answer A) → r ≡ 0 → judged_element t l enough o p i x ≡ x
    standing-passed x h = let s = stands-so h in standing_by x ∙ rw (s.checks, s.element, s.frees)
