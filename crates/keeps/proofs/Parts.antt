-- A group whose 19 numbers are a part's keeps the table rule of a part; one of zeros is a part that the object does not store.
use Prim.Native.Nat.{ℕ, zero, suc, ◌+◌, ◌*◌, ◌%◌, ◌≤◌, ◌<◌, min}
use mathlib.Core.Path.{◌≡◌, refl, sym, ◌∙◌, ap}
use mathlib.Core.List.{[], ◌∷◌}
use mathlib.Core.Bool.{true, false, not, ◌&&◌, ◌||◌}
use mathlib.Core.Logic.{◌⊎◌, inl, inr}
use native.Mathlib.Omega.{arith}
use borrow.Author.Tests.{le-leb, eq-eqb, ne_eqb, lt-ltb, le-ltb, leb-true}
use lib.Dec.{eqb, leb}
use lib.ListN.{get_or, replicate}
use Rattle.number.specs.Decimal.{Scaled}
use Rattle.number.specs.Most.{most_points}
use Rattle.cell.specs.Kind.{shape_of, is_type}
use Rattle.cell.specs.Mask.{mask_rule}
use Rattle.convert.specs.Limit.{at_most}
use Rattle.tables.specs.Form.{group_section, method_section, Tables, kind, place, x, y, wide, high, walk, method_of, mask, counter, counter_place, limit}
use Rattle.tables.specs.Group.{elements, bytes}
use Rattle.tables.specs.Rule.{inside_rule, is_no_part, points_rule, counter_rule, axis_rule, values_rule, limits_rule, bytes_rule, role_rule, part_rule, group_rule}
use Rattle.tables.proofs.All.{left, all_of}
use Rattle.build.specs.Build.{flag}
use Rattle.keeps.proofs.Bits.{and, or_left, or_right, flag-least, flag-back}

-- a code of a data type is not 0
typed : (k : ℕ) → is_type k ≡ true → k ≡ 0 → ⊥
unfolding is_type
typed k h e = let l : 1 ≤ k = leb-true 1 k (left (leb 1 k) (leb k 6) h) in omega arith

zeros : (n k : ℕ) → ◌≡◌ {A = ℕ} (get_or (replicate n 0) k 0) 0
zeros zero k = refl
zeros (suc n) zero = refl
zeros (suc n) (suc k) = zeros n k

module _ (T : Tables) (g m : ℕ) where
  -- zeros
  module _ (h : (k : ℕ) → T.slots group_section g k ≡ get_or (replicate 19 0) k 0) where
    none-slot : (k : ℕ) → T.slots group_section g k ≡ 0
    none-slot k = h k ∙ zeros 19 k

    pub none-keeps : group_rule T g m ≡ true
    unfolding group_rule is_no_part
    none-keeps = rw (eq-eqb (kind T g) 0 (none-slot 0)) (all_of 19 (λ k. eqb (T.slots group_section g k) 0) (λ k l. eq-eqb (T.slots group_section g k) 0 (none-slot k)))

    pub none-stored : not (eqb (kind T g) 0) ≡ false
    none-stored = rw (none-slot 0)

    pub none-elements : elements T g ≡ 0
    none-elements = rw (none-slot 3) (omega arith)

  -- data type, byte order, place, points, walk, method, mask, writing forbidden, limits, stored count
  module _ (k o p cx cy w q z f : ℕ) (a b c d e r : ℕ) (ck cp : ℕ)
      (h : (j : ℕ) → T.slots group_section g j ≡ get_or (k ∷ o ∷ p ∷ cx ∷ cy ∷ cx ∷ cy ∷ w ∷ q ∷ z ∷ f ∷ a ∷ b ∷ c ∷ d ∷ e ∷ r ∷ ck ∷ cp ∷ []) j 0) where
    -- what a part's numbers keep
    pub record Fine : Type 0 where
      pub type : is_type k ≡ true
      pub order : o ≤ 1
      pub some_x : 1 ≤ cx
      pub few_x : cx ≤ most_points
      pub some_y : 1 ≤ cy
      pub few_y : cy ≤ most_points
      pub bytes_in : p + (shape_of k).bytes * (cx * cy) ≤ m
      pub role : role_rule T g m ≡ true
      pub its_method : q ≤ T.counts method_section
      pub only : f ≤ 1
      pub limits : limits_rule T g ≡ true

    pub x-is : cx ≤ most_points → x T g ≡ cx
    x-is l = omega (arith, h 3)

    pub y-is : cy ≤ most_points → y T g ≡ cy
    y-is l = omega (arith, h 4)

    pub part-elements : cx ≤ most_points → cy ≤ most_points → elements T g ≡ cx * cy
    part-elements l n = rw (x-is l, y-is n)

    points_kept : 1 ≤ cx → cx ≤ most_points → 1 ≤ cy → cy ≤ most_points → points_rule T g ≡ true
    unfolding points_rule
    points_kept ox l oy n =
        and (and (and (and (and (le-leb 1 (x T g) (omega (arith, h 3))) (le-leb (x T g) most_points (omega (arith, h 3)))) (le-leb 1 (y T g) (omega (arith, h 4)))) (le-leb (y T g) most_points (omega (arith, h 4))))
        (eq-eqb (wide T g) (x T g) (omega (arith, h 3, h 5)))) (eq-eqb (high T g) (y T g) (omega (arith, h 4, h 6)))

    bytes-kept : cx ≤ most_points → cy ≤ most_points → p + (shape_of k).bytes * (cx * cy) ≤ m → bytes_rule T g m ≡ true
    unfolding bytes_rule inside_rule
    bytes-kept l n i =
        let u : wide T g ≡ cx = omega (arith, h 5) in
        let v : high T g ≡ cy = omega (arith, h 6) in
        let s : place T g ≤ p = omega (arith, h 2) in
        let t : bytes T g ≡ (shape_of k).bytes = ap (λ (n : ℕ). (shape_of n).bytes) (h 0) in
        let e₂ : bytes T g * (wide T g * high T g) ≡ (shape_of k).bytes * (cx * cy) = cc in
        le-leb (place T g + bytes T g * (wide T g * high T g)) m (omega arith)

    pub part-keeps : Fine → group_rule T g m ≡ true
    unfolding group_rule part_rule
    part-keeps t =
        let n : is_type (kind T g) ≡ true = rw (h 0) t.type in
        rw (ne_eqb (kind T g) 0 (λ s. typed k t.type (sym (h 0) ∙ s)))
        (and (and (and (and (and (and (and n (le-leb (T.slots group_section g 1) 1 (omega (arith, h 1, t.order)))) (points_kept t.some_x t.few_x t.some_y t.few_y)) (bytes-kept t.few_x t.few_y t.bytes_in)) t.role)
        (le-leb (method_of T g) (T.counts method_section) (omega (arith, h 8, t.its_method)))) (le-leb (T.slots group_section g 10) 1 (omega (arith, h 10, t.only)))) t.limits)

    pub part-stored : is_type k ≡ true → not (eqb (kind T g) 0) ≡ true
    part-stored t = rw (ne_eqb (kind T g) 0 (λ s. typed k t (sym (h 0) ∙ s)))

    -- the limits are the decimals whose numbers stand there
    pub limits-keep : (s u : Scaled) → a ≡ flag s.negative → b ≡ s.whole → c ≡ s.tens → d ≡ flag u.negative → e ≡ u.whole → r ≡ u.tens
        → s.tens ≤ 7 → u.tens ≤ 7 → at_most s u ≡ true → limits_rule T g ≡ true
    unfolding limits_rule
    limits-keep s u ea eb ec ed ee er ls lu t =
        let lower : limit T g 11 ≡ s = λ i. record { negative = (ap (λ n. eqb n 1) (h 11 ∙ ea) ∙ flag-back s.negative) i; whole = (h 12 ∙ eb) i; tens = low i } in
        let upper : limit T g 14 ≡ u = λ i. record { negative = (ap (λ n. eqb n 1) (h 14 ∙ ed) ∙ flag-back u.negative) i; whole = (h 15 ∙ ee) i; tens = up i } in
        and (and (le-leb (T.slots group_section g 11) 1 (omega (arith, h 11, flag-least s.negative))) (le-leb (T.slots group_section g 14) 1 (omega (arith, h 14, flag-least u.negative)))) (rw (lower, upper) t)
      where
        low : min (T.slots group_section g 13) 7 ≡ s.tens
        low = omega (arith, h 13)

        up : min (T.slots group_section g 16) 7 ≡ u.tens
        up = omega (arith, h 16)

    -- an axis
    counter-keeps : ((ck ≡ 0) × (cp ≡ 0)) ⊎ ((is_type ck ≡ true) × (cp + (shape_of ck).bytes ≤ m)) → counter_rule T g m ≡ true
    unfolding counter_rule inside_rule
    counter-keeps (inl n) = or_left (is_type (counter T g) && leb (counter_place T g + (shape_of (counter T g)).bytes) m) (and (eq-eqb (counter T g) 0 (h 17 ∙ n.0)) (eq-eqb (T.slots group_section g 18) 0 (h 18 ∙ n.1)))
    counter-keeps (inr n) =
        let s : counter_place T g ≤ cp = omega (arith, h 18) in
        or_right (eqb (counter T g) 0 && eqb (T.slots group_section g 18) 0) (let t : (is_type ck && leb (counter_place T g + (shape_of ck).bytes) m) ≡ true = and n.0 (le-leb (counter_place T g + (shape_of ck).bytes) m (omega (arith, n.1))) in let u : (is_type (counter T g) && leb (counter_place T g + (shape_of (counter T g)).bytes) m) ≡ true = rw (h 17) t in u)

    pub axis-keeps : g % 3 < 2 → cx ≤ 256 → cy ≡ 1 → w ≤ 1 → z ≡ 0 → ((ck ≡ 0) × (cp ≡ 0)) ⊎ ((is_type ck ≡ true) × (cp + (shape_of ck).bytes ≤ m)) → role_rule T g m ≡ true
    unfolding role_rule axis_rule
    axis-keeps l lx ey lw ez n =
        rw (lt-ltb (g % 3) 2 l)
        (and (and (and (and (le-leb (x T g) 256 (omega (arith, h 3))) (eq-eqb (y T g) 1 (omega (arith, h 4)))) (le-leb (walk T g) 1 (omega (arith, h 7)))) (eq-eqb (mask T g) 0 (h 9 ∙ ez))) (counter-keeps n))

    -- values
    walk-keeps : (w ≡ 0) ⊎ (w ≡ 2) → (eqb (walk T g) 0 || eqb (walk T g) 2) ≡ true
    walk-keeps (inl s) = or_left (eqb (walk T g) 2) (eq-eqb (walk T g) 0 (h 7 ∙ s))
    walk-keeps (inr s) = or_right (eqb (walk T g) 0) (eq-eqb (walk T g) 2 (h 7 ∙ s))

    pub values-keep : 2 ≤ g % 3 → (w ≡ 0) ⊎ (w ≡ 2) → (eqb z 0 || mask_rule (shape_of k) z) ≡ true → ck ≡ 0 → cp ≡ 0 → role_rule T g m ≡ true
    unfolding role_rule values_rule
    values-keep l s t ek ep =
        let u : (eqb (mask T g) 0 || mask_rule (shape_of (kind T g)) (mask T g)) ≡ true = rw (h 9, h 0) t in
        rw (le-ltb (g % 3) 2 l) (and (and (and (walk-keeps s) u) (eq-eqb (counter T g) 0 (h 17 ∙ ek))) (eq-eqb (T.slots group_section g 18) 0 (h 18 ∙ ep)))
