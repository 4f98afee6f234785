-- THE SECOND DEMAND, "or is refused", with document 02's addition: a physical write that is 16 asks for a value outside the limits, or what it would store is.
use Prim.Native.Nat.{ℕ, zero, suc, ◌+◌}
use mathlib.Core.Path.{◌≡◌, refl, sym, ap, ap₂, ◌∙◌}
use mathlib.Core.List.{List, [], ◌∷◌}
use mathlib.Core.Bool.{Bool, true, false, cond, not, ◌&&◌}
use mathlib.Core.Logic.{inl, inr}
use native.Mathlib.Omega.{arith}
use lib.IntN.{ℤ}
use Rattle.number.specs.Answer.{Answer, given, refused}
use Rattle.number.specs.Decimal.{Scaled, decimal_of}
use Rattle.cell.specs.Kind.{shape_of}
use Rattle.cell.specs.Raw.{fits_raw}
use Rattle.cell.specs.declared.kind.Shape.{Shape}
use Rattle.cell.proofs.Types.{clash}
use Rattle.convert.specs.declared.method.Coefficients.{Coefficients}
use Rattle.convert.specs.Limit.{within_limits}
use Rattle.convert.specs.Fraction.{Value, none, number, text, fraction_of}
use Rattle.convert.specs.Edition.{halves_of}
use Rattle.convert.specs.Asked.{and_then, or_refused, asked_of, nearest_raw, fitting_raw, rounded_raw, value_within, means_within, asked_raw}
use Rattle.convert.specs.Told.{held}
use Rattle.convert.proofs.Laws.{Numbered, numbered-or, numbered-then, numbered-form, numbered-near}
use Rattle.tables.specs.Form.{lower_cell, upper_cell, Tables, tables_in, edition, kind, mask, forbidden, limit}
use Rattle.tables.specs.Group.{group_of, bytes, place_of}
use Rattle.look.specs.Calls.{Lent, lent_by, is_element, Kept, has_room, physical_text, request, on_count, asks_by, is_tab_verb, wanted_raw, writable, judged_element, judged_request, afterwards, writing, written_to}
use Rattle.look.specs.Steps.{element_no}
use Rattle.look.proofs.Numbers.{OneOf, RefusedBy, given-numbers, unless-numbers, checked-numbers}
use Rattle.wanted.proofs.StandLaws.{standing-refused, standing-passed}
use Rattle.list.proofs.Writes.{never, same-refused}
use Rattle.demands.specs.Nearest.{InLimits, OutsideLimits, is_asked, is_stored}

-- a value within the limits, as a line holds it
held-within : (lower upper : Scaled) (v : Value) → InLimits lower upper (held v) → value_within lower upper v ≡ true
held-within lower upper none h = let z = h.is_number in absurd (omega arith)
held-within lower upper (number n d) h = ap₂ ◌&&◌ h.from_lower h.to_upper
held-within lower upper (text a b) h = let z = h.is_number in absurd (omega arith)

module _ (edition : ℕ) (lower upper : Scaled) (k : Coefficients) (t : Shape) (m : ℕ) (s : List ℕ) where
  -- neither form, nor raw number, nor type and mask are 16
  abbrev Other : ℕ → Type 0
  Other n = n ≡ 16 → ⊥

  fitting-16 : (d : Scaled) → fitting_raw t m (nearest_raw (halves_of edition) k d) ≡ refused 16 → ⊥
  fitting-16 d h =
      numbered-then Other (nearest_raw (halves_of edition) k d) (λ z. or_refused 18 (fits_raw t m z) z) (numbered-near Other (λ e. omega arith) (halves_of edition) k d)
      (λ z. numbered-or Other 18 (fits_raw t m z) z (λ e. omega arith)) 16 h refl

  asked-16 : (a : Answer Scaled) → asked_of s ≡ a → Numbered Other a
      → and_then a (λ d. and_then (or_refused 16 (within_limits lower upper d) d) (λ d. fitting_raw t m (nearest_raw (halves_of edition) k d))) ≡ refused 16 → OutsideLimits edition lower upper k t m s
  asked-16 (refused n) e f h = absurd (f n refl (same-refused n 16 h))
  asked-16 (given d) e f h = go (within_limits lower upper d) refl h
    where
      go : (b : Bool) → within_limits lower upper d ≡ b → and_then (or_refused 16 b d) (λ d. fitting_raw t m (nearest_raw (halves_of edition) k d)) ≡ refused 16 → OutsideLimits edition lower upper k t m s
      go true w g = absurd (fitting-16 d g)
      go false w g = is_asked d e w

  rounded-16 : rounded_raw (halves_of edition) lower upper k t m s ≡ refused 16 → OutsideLimits edition lower upper k t m s
  unfolding rounded_raw asked_of
  rounded-16 h = asked-16 (asked_of s) refl (numbered-form Other (λ e. omega arith) (decimal_of s)) h

  stored-16 : (z : ℤ) → rounded_raw (halves_of edition) lower upper k t m s ≡ given z → or_refused 16 (means_within lower upper k z) z ≡ refused 16 → OutsideLimits edition lower upper k t m s
  unfolding means_within
  stored-16 z e = go (means_within lower upper k z) refl
    where
      go : (b : Bool) → value_within lower upper (fraction_of k z) ≡ b → or_refused 16 b z ≡ refused 16 → OutsideLimits edition lower upper k t m s
      go true w h = absurd (never 16 z (sym h))
      go false w h = is_stored z e (λ i. clash (sym (held-within lower upper (fraction_of k z) i) ∙ w))

  pub limits-16 : asked_raw (halves_of edition) lower upper k t m s ≡ refused 16 → OutsideLimits edition lower upper k t m s
  unfolding asked_raw
  limits-16 h = go (rounded_raw (halves_of edition) lower upper k t m s) refl h
    where
      go : (a : Answer ℤ) → rounded_raw (halves_of edition) lower upper k t m s ≡ a → and_then a (λ z. or_refused 16 (means_within lower upper k z) z) ≡ refused 16 → OutsideLimits edition lower upper k t m s
      go (given z) e g = stored-16 z e g
      go (refused n) e g = rounded-16 (e ∙ g)

-- ---- the call

-- what an element of group g is asked by
abbrev pub OutsideIn : Tables → ℕ → List ℕ → Type 0
OutsideIn T g = OutsideLimits (edition T) (limit T g lower_cell) (limit T g upper_cell) (asks_by T g) (shape_of (kind T g)) (mask T g)

wanted-16 : (T : Tables) (g : ℕ) (s : List ℕ) → wanted_raw T g (physical_text s) ≡ refused 16 → OutsideIn T g s
wanted-16 T g s = go (is_tab_verb T g)
  where
    go : (b : Bool) → cond (not b) (asked_raw (halves_of (edition T)) (limit T g lower_cell) (limit T g upper_cell) (asks_by T g) (shape_of (kind T g)) (mask T g) s) (refused 15) ≡ refused 16 → OutsideIn T g s
    go true h = let e = same-refused 15 16 h in absurd (omega arith)
    go false h = limits-16 (edition T) (limit T g lower_cell) (limit T g upper_cell) (asks_by T g) (shape_of (kind T g)) (mask T g) s h

-- "20, 22, 14, 21, 19": what is judged of an element is not 16
element-numbers : (t : List ℕ) (l : Lent) (enough : Bool) (o p i : ℕ) → RefusedBy (20 ∷ 22 ∷ 14 ∷ 21 ∷ 19 ∷ []) (judged_element t l enough o p i (given (tt {0})))
unfolding judged_element writable
element-numbers t l enough o p i =
    let T = tables_in t in
    let g = group_of o p in
    checked-numbers t l enough (14 ∷ 21 ∷ 19 ∷ []) _
    (unless-numbers (is_element T o p i) 14 (21 ∷ 19 ∷ []) _
    (unless-numbers (not (forbidden T g)) 21 (19 ∷ []) _
    (unless-numbers (not (on_count t (place_of T g i) (place_of T g i + bytes T g))) 19 [] _ (given-numbers [] (tt {0})))))

not_16 : OneOf (20 ∷ 22 ∷ 14 ∷ 21 ∷ 19 ∷ []) 16 → ⊥
not_16 (inl h) = omega arith
not_16 (inr (inl h)) = omega arith
not_16 (inr (inr (inl h))) = omega arith
not_16 (inr (inr (inr (inl h)))) = omega arith
not_16 (inr (inr (inr (inr (inl h))))) = omega arith
not_16 (inr (inr (inr (inr (inr h))))) = h

judged-16 : (t : List ℕ) (l : Lent) (enough : Bool) (o p i : ℕ) (s : List ℕ) → judged_request t l enough (request o p i (physical_text s)) ≡ refused 16 → OutsideIn (tables_in t) (group_of o p) s
unfolding judged_request
judged-16 t l enough o p i s h = go (element_no t l enough o p i) refl
  where
    go : (r : ℕ) → element_no t l enough o p i ≡ r → OutsideIn (tables_in t) (group_of o p) s
    go zero e = wanted-16 (tables_in t) (group_of o p) s (sym (standing-passed t l enough o p i 0 (sym e) (wanted_raw (tables_in t) (group_of o p) (physical_text s)) refl) ∙ h)
    go (suc r) e =
        let n : suc r ≡ 16 = same-refused (suc r) 16 (standing-refused t l enough o p i (suc r) (sym e) (wanted_raw (tables_in t) (group_of o p) (physical_text s)) (λ y. omega arith) ∙ h) in
        let q = element-numbers t l enough o p i (suc r) (sym (standing-refused t l enough o p i (suc r) (sym e) (given (tt {0})) (λ y. omega arith))) in
        absurd (not_16 (rw n at q))

-- a physical write that is 16
pub sixteen : (t : List ℕ) (n base : ℕ) (k : Kept) (o p i : ℕ) (s : List ℕ) → (writing t n base k (request o p i (physical_text s))).answer ≡ refused 16 → OutsideIn (tables_in t) (group_of o p) s
unfolding writing
sixteen t n base k o p i s h = go (judged_request t (lent_by n base k) (has_room t k) (request o p i (physical_text s))) refl h
  where
    go : (a : Answer ℤ) → judged_request t (lent_by n base k) (has_room t k) (request o p i (physical_text s)) ≡ a → (afterwards a k (written_to t (group_of o p) i k)).answer ≡ refused 16
        → OutsideIn (tables_in t) (group_of o p) s
    go (given z) e g = absurd (never 16 (tt {0}) (sym g))
    go (refused m) e g = judged-16 t (lent_by n base k) (has_room t k) o p i s (e ∙ ap refused (same-refused m 16 g))
