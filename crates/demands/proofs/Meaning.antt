-- THE SECOND DEMAND: "its physical value is the exact fraction or text, or none", and "a physical write stores the whole number nearest to what the
-- conversion asks, by the edition's rule on halves, or is refused".
use Prim.Native.Nat.{ℕ, zero, suc, ◌-◌, ◌%◌, ◌^◌, ◌<◌}
use mathlib.Core.Path.{◌≡◌, refl, sym, ap, ◌∙◌, subst}
use mathlib.Core.List.{List}
use mathlib.Core.Bool.{Bool, true, false, cond, not, ◌&&◌}
use mathlib.Core.Logic.{◌↔◌}
use native.Mathlib.Omega.{arith}
use borrow.Author.Tests.{eqb-false}
use lib.Dec.{eqb}
use lib.IntN.{ℤ, pos, negsuc, nat_abs, ◌-ℤ◌, ◌*ℤ◌}
use lib.ListN.{get_or}
use Rattle.number.specs.Answer.{Answer, given, refused}
use Rattle.number.specs.Decimal.{Scaled}
use Rattle.cell.specs.Kind.{shape_of}
use Rattle.cell.proofs.Shapes.{bytes_le}
use Rattle.cell.proofs.Laws.{raw-small}
use Rattle.convert.specs.declared.method.Coefficients.{Coefficients}
use Rattle.convert.specs.Whole.{all_small}
use Rattle.number.specs.Signed.{signed_of}
use Rattle.convert.specs.Method.{identical_of, same_products, sound_method}
use Rattle.convert.specs.Fraction.{none, turned, fraction, fraction_of}
use Rattle.convert.specs.Round.{Halves, away, to_even, nearest, raw_for}
use Rattle.convert.specs.Edition.{edition_one, edition_two, halves_of}
use Rattle.convert.specs.Asked.{nearest_raw, means_within, asked_raw}
use Rattle.convert.specs.Told.{held}
use Rattle.convert.proofs.Laws.{fraction-exact, stored-near, Stores, asked-stores, means-number}
use Rattle.convert.proofs.EditionLaws.{one-is-away, two-is-even}
use Rattle.convert.proofs.Rounds.{half-away, half-even, quotient-none, quotient_is}
use Rattle.tables.specs.Form.{method_section, conversion_cell, table_cell, lower_cell, upper_cell, Tables, tables_in, edition, kind, first, mask, method_of, limit, coefficients}
use Rattle.tables.specs.Group.{group_of, place_of}
use Rattle.tables.specs.Rule.{is_verbal, is_fraction, signs_rule, word_rule, fraction_rule, method_rule, keeps_rule}
use Rattle.tables.proofs.All.{left, three, all-at}
use Rattle.tables.proofs.Reading.{rule-facts, method-below}
use Rattle.look.specs.Element.{means_by, means, raw_in}
use Rattle.look.specs.Calls.{Kept, groups, has_room, lent_by, reading, reading_of, physical_text, request, asks_by, is_tab_verb, wanted_raw, judged_request, writing}
use Rattle.list.proofs.Writes.{never, same-given, accepted, refused-answer}
use Rattle.demands.proofs.Runs.{reads-back}
use Rattle.demands.proofs.Numbers.{asked-exact}
use Rattle.demands.specs.Nearest.{dividend_at, divisor_at, twice_off, InLimits, Nearest}

-- ---- the value

-- a raw number of an image of bytes is below 2^32 in size
raw-is-small : (t image : List ℕ) (g i : ℕ) → ((j : ℕ) → get_or image j 0 < 256) → nat_abs (raw_in (tables_in t) image g i) < 2 ^ 32
unfolding raw_in
raw-is-small t image g i b = raw-small (first (tables_in t) g) (place_of (tables_in t) g i) (shape_of (kind (tables_in t) g)) (mask (tables_in t) g) image (bytes_le (kind (tables_in t) g)) b

-- a method that is not verbal has coefficients that are small
fraction-small : (T : Tables) (m : ℕ) → method_rule T m ≡ true → is_verbal (T.slots method_section m conversion_cell) ≡ false → all_small (coefficients T m) ≡ true
unfolding method_rule fraction_rule sound_method
fraction-small T m h v =
    let r : fraction_rule T m ≡ true = rw v at h in
    let a = is_fraction (T.slots method_section m conversion_cell) && signs_rule T m in
    let w = word_rule (T.slots method_section m conversion_cell) (coefficients T m) in
    let s = three a (sound_method (coefficients T m)) w (left (a && sound_method (coefficients T m) && w) (eqb (T.slots method_section m table_cell) 0) r) in
    left (all_small (coefficients T m)) (not (same_products (coefficients T m))) s.1

-- "IDENTICAL and NO_COMPU_METHOD are 1, 0, 0, 1", any other has its method's: what a raw number means under a method that is not verbal
plain-means : (T : Tables) (g : ℕ) (z : ℤ) → is_tab_verb T g ≡ false → means T g z ≡ fraction_of (asks_by T g) z
unfolding means means_by asks_by is_tab_verb
plain-means T g z = go (eqb (method_of T g) 0)
  where
    go : (b : Bool) → (not b && is_verbal (T.slots method_section (method_of T g - 1) conversion_cell)) ≡ false
        → cond b (fraction_of identical_of z) (means_by T (method_of T g - 1) z) ≡ fraction_of (cond b identical_of (coefficients T (method_of T g - 1))) z
    go true w = refl
    go false w = rw w

module _ (n m : ℕ) (t : List ℕ) (rule : keeps_rule n m t ≡ true) (g : ℕ) (below : g < groups t) where
  plain-small : is_tab_verb (tables_in t) g ≡ false → all_small (asks_by (tables_in t) g) ≡ true
  unfolding asks_by is_tab_verb all_small
  plain-small v = go (eqb (method_of (tables_in t) g) 0) refl v
    where
      go : (b : Bool) → eqb (method_of (tables_in t) g) 0 ≡ b → (not b && is_verbal ((tables_in t).slots method_section (method_of (tables_in t) g - 1) conversion_cell)) ≡ false
          → all_small (cond b identical_of (coefficients (tables_in t) (method_of (tables_in t) g - 1))) ≡ true
      go true e w = refl
      go false e w =
          let l : method_of (tables_in t) g - 1 < (tables_in t).counts method_section =
          (let o : method_of (tables_in t) g ≡ 0 → ⊥ = eqb-false (method_of (tables_in t) g) 0 e in omega (arith, method-below n m t rule g below)) in
          fraction-small (tables_in t) (method_of (tables_in t) g - 1) (all-at ((tables_in t).counts method_section) (method_rule (tables_in t)) (rule-facts n m t rule).of_methods (method_of (tables_in t) g - 1) l) w

  -- "P = (f·INT − c)/(b − e·INT), both signs turned if the divisor is negative, not cancelled": what a raw number of the image means under a method that is not verbal
  pub value-exact : is_tab_verb (tables_in t) g ≡ false → (image : List ℕ) → ((j : ℕ) → get_or image j 0 < 256) → (i : ℕ)
      → means (tables_in t) g (raw_in (tables_in t) image g i) ≡ fraction (asks_by (tables_in t) g) (raw_in (tables_in t) image g i)
  value-exact v image b i =
      plain-means (tables_in t) g (raw_in (tables_in t) image g i) v
      ∙ fraction-exact (asks_by (tables_in t) g) (raw_in (tables_in t) image g i) (plain-small v) (raw-is-small t image g i b)

-- "Divisor 0: no value.", and a value for any other
turned_none : (p d : ℤ) → (turned p d ≡ none) ↔ (d ≡ pos 0)
turned_none p (pos zero) = (λ h. refl, λ h. refl)
turned_none p (pos (suc d)) = (λ h. let z : ◌≡◌ {A = ℕ} 0 1 = cc in absurd (omega arith), λ h. let z : ◌≡◌ {A = ℕ} (suc d) 0 = cc in absurd (omega arith))
turned_none p (negsuc d) = (λ h. let z : ◌≡◌ {A = ℕ} 0 1 = cc in absurd (omega arith), λ h. let z : ◌≡◌ {A = ℕ} 0 1 = cc in absurd (omega arith))

pub none-exactly : (k : Coefficients) (z : ℤ) → (fraction k z ≡ none) ↔ (k.b -ℤ k.e *ℤ z ≡ pos 0)
unfolding fraction
none-exactly k z = turned_none (k.f *ℤ z -ℤ k.c) (k.b -ℤ k.e *ℤ z)

-- ---- a physical write

-- the judgement on the text is that on the asked value
wants-asked : (T : Tables) (g : ℕ) (s : List ℕ) (z : ℤ) → wanted_raw T g (physical_text s) ≡ given z
    → Stores (halves_of (edition T)) (limit T g lower_cell) (limit T g upper_cell) (asks_by T g) (shape_of (kind T g)) (mask T g) s z
wants-asked T g s z = go (is_tab_verb T g)
  where
    go : (b : Bool) → cond (not b) (asked_raw (halves_of (edition T)) (limit T g lower_cell) (limit T g upper_cell) (asks_by T g) (shape_of (kind T g)) (mask T g) s) (refused 15) ≡ given z
        → Stores (halves_of (edition T)) (limit T g lower_cell) (limit T g upper_cell) (asks_by T g) (shape_of (kind T g)) (mask T g) s z
    go true h = absurd (never 15 z h)
    go false h = asked-stores (halves_of (edition T)) (limit T g lower_cell) (limit T g upper_cell) (asks_by T g) (shape_of (kind T g)) (mask T g) s z h

-- the nearest raw number is a rounded quotient
nearest-raw : (up : Halves) (k : Coefficients) (p : Scaled) (z : ℤ) → nearest_raw up k p ≡ given z → raw_for up k (signed_of p.negative p.whole) (pos (10 ^ p.tens)) ≡ given z
unfolding nearest_raw
nearest-raw up k p z = go (all_small k)
  where
    go : (b : Bool) → cond b (raw_for up k (signed_of p.negative p.whole) (pos (10 ^ p.tens))) (refused 17) ≡ given z → raw_for up k (signed_of p.negative p.whole) (pos (10 ^ p.tens)) ≡ given z
    go true h = h
    go false h = absurd (never 17 z h)

module _ (up : Halves) (k : Coefficients) (p : Scaled) (z : ℤ) (h : raw_for up k (signed_of p.negative p.whole) (pos (10 ^ p.tens)) ≡ given z) where
  some-divisor : divisor_at k p ≡ pos 0 → ⊥
  unfolding raw_for
  some-divisor e = never 17 z (quotient-none up (dividend_at k p) (divisor_at k p) e ∙ h)

  is-nearest : nearest up (dividend_at k p) (divisor_at k p) ≡ z
  unfolding raw_for
  is-nearest = same-given (nearest up (dividend_at k p) (divisor_at k p)) z (quotient_is up (dividend_at k p) (divisor_at k p) some-divisor ∙ h)

-- half a step from the quotient: by the edition's rule
module _ (e : ℕ) (k : Coefficients) (p : Scaled) (z : ℤ) (h : raw_for (halves_of e) k (signed_of p.negative p.whole) (pos (10 ^ p.tens)) ≡ given z) where
  by-rule : (up : Halves) → halves_of e ≡ up → nearest up (dividend_at k p) (divisor_at k p) ≡ z
  by-rule up y = ap (λ (u : Halves). nearest u (dividend_at k p) (divisor_at k p)) (sym y) ∙ is-nearest (halves_of e) k p z h

  goes-away : e ≡ edition_one → twice_off k p z ≡ nat_abs (divisor_at k p) → nat_abs (dividend_at k p) < nat_abs (z *ℤ divisor_at k p)
  goes-away y =
      subst (λ (w : ℤ). twice_off k p w ≡ nat_abs (divisor_at k p) → nat_abs (dividend_at k p) < nat_abs (w *ℤ divisor_at k p)) (by-rule away (ap halves_of y ∙ one-is-away))
      (half-away (dividend_at k p) (divisor_at k p) (some-divisor (halves_of e) k p z h))

  goes-even : e ≡ edition_two → twice_off k p z ≡ nat_abs (divisor_at k p) → nat_abs z % 2 ≡ 0
  goes-even y =
      subst (λ (w : ℤ). twice_off k p w ≡ nat_abs (divisor_at k p) → nat_abs w % 2 ≡ 0) (by-rule to_even (ap halves_of y ∙ two-is-even))
      (half-even (dividend_at k p) (divisor_at k p) (some-divisor (halves_of e) k p z h))

-- what is stored means a number within the limits: by its fraction, and by what a line then holds
in-limits : (lower upper : Scaled) (k : Coefficients) (z : ℤ) → means_within lower upper k z ≡ true → InLimits lower upper (held (fraction_of k z))
in-limits lower upper k z h =
    let m = means-number lower upper k z h in
    rw m.is (record { is_number = refl; from_lower = m.low; to_upper = m.high })

fraction-limited : (lower upper : Scaled) (k : Coefficients) (z : ℤ) → means_within lower upper k z ≡ true → InLimits lower upper (held (fraction k z))
fraction-limited lower upper k z h = rw (means-number lower upper k z h).exact at (in-limits lower upper k z h)

-- what an element of group g is asked by
abbrev pub NearestIn : Tables → ℕ → List ℕ → ℤ → Type 0
NearestIn T g = Nearest (edition T) (limit T g lower_cell) (limit T g upper_cell) (asks_by T g) (shape_of (kind T g)) (mask T g)

stores-so : (T : Tables) (g : ℕ) (s : List ℕ) (z : ℤ) → wanted_raw T g (physical_text s) ≡ given z → NearestIn T g s z
stores-so T g s z h =
    let a = wants-asked T g s z h in
    let r = nearest-raw (halves_of (edition T)) (asks_by T g) a.asked z a.near in
    record {
      asked = a.asked;
      form = a.form;
      exact = asked-exact s a.asked a.form;
      within = a.within;
      some = some-divisor (halves_of (edition T)) (asks_by T g) a.asked z r;
      near = stored-near (halves_of (edition T)) (asks_by T g) (signed_of a.asked.negative a.asked.whole) (pos (10 ^ a.asked.tens)) z r;
      away = goes-away (edition T) (asks_by T g) a.asked z r;
      even = goes-even (edition T) (asks_by T g) a.asked z r;
      fits = a.fits;
      means = fraction-limited (limit T g lower_cell) (limit T g upper_cell) (asks_by T g) z a.means;
    }

-- "15: .. physical write under TAB_VERB"
plain-asked : (T : Tables) (g : ℕ) (s : List ℕ) (z : ℤ) → wanted_raw T g (physical_text s) ≡ given z → is_tab_verb T g ≡ false
plain-asked T g s z = go (is_tab_verb T g)
  where
    go : (b : Bool) → cond (not b) (asked_raw (halves_of (edition T)) (limit T g lower_cell) (limit T g upper_cell) (asks_by T g) (shape_of (kind T g)) (mask T g) s) (refused 15) ≡ given z → b ≡ false
    go true h = absurd (never 15 z h)
    go false h = refl

means-limited : (T : Tables) (g : ℕ) (s : List ℕ) (z : ℤ) → wanted_raw T g (physical_text s) ≡ given z → InLimits (limit T g lower_cell) (limit T g upper_cell) (held (means T g z))
means-limited T g s z h =
    rw (plain-means T g z (plain-asked T g s z h)) (in-limits (limit T g lower_cell) (limit T g upper_cell) (asks_by T g) z (wants-asked T g s z h).means)

-- an accepted physical write of the text s to element i of part p of object o: a number nearest to what s asks is stored, under a conversion that is not verbal, and
-- the element then reads as that, within its limits
pub record WritesNearest (t : List ℕ) (n base : ℕ) (k : Kept) (o p i : ℕ) (s : List ℕ) : Type 0 where
  pub raw : ℤ
  pub plain : is_tab_verb (tables_in t) (group_of o p) ≡ false
  pub nearest : NearestIn (tables_in t) (group_of o p) s raw
  pub limited : InLimits (limit (tables_in t) (group_of o p) lower_cell) (limit (tables_in t) (group_of o p) upper_cell) (held (means (tables_in t) (group_of o p) raw))
  pub read_back : reading t (writing t n base k (request o p i (physical_text s))).left.image (lent_by n base (writing t n base k (request o p i (physical_text s))).left) o p i
      ≡ given (reading_of (tables_in t) (group_of o p) raw)

pub writes-nearest : (t : List ℕ) (n base : ℕ) (k : Kept) (o p i : ℕ) (s : List ℕ) → ((j : ℕ) → get_or k.image j 0 < 256)
    → (writing t n base k (request o p i (physical_text s))).answer ≡ given tt → WritesNearest t n base k o p i s
writes-nearest t n base k o p i s b h = go (judged_request t (lent_by n base k) (has_room t k) (request o p i (physical_text s))) refl
  where
    go : (a : Answer ℤ) → judged_request t (lent_by n base k) (has_room t k) (request o p i (physical_text s)) ≡ a → WritesNearest t n base k o p i s
    go (given z) e =
        let w = (accepted t (lent_by n base k) (has_room t k) (request o p i (physical_text s)) z e).wants in
        record {
          raw = z;
          plain = plain-asked (tables_in t) (group_of o p) s z w;
          nearest = stores-so (tables_in t) (group_of o p) s z w;
          limited = means-limited (tables_in t) (group_of o p) s z w;
          read_back = reads-back t n base k (request o p i (physical_text s)) z e b;
        }
    go (refused c) e = absurd (never c (tt {0}) (sym (refused-answer t n base k (request o p i (physical_text s)) c e) ∙ h))
