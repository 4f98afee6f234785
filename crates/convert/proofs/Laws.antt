-- THE LAWS of the conversions, about the definitions that the contracts name.
use mathlib.Core.Path.{◌≡◌, refl, sym, ap, ap₂, subst, ◌∙◌}
use mathlib.Core.Bool.{Bool, true, false, cond, ◌&&◌}
use mathlib.Core.List.{List}
use Prim.Native.Nat.{ℕ, zero, suc, ◌+◌, ◌*◌, ◌-◌, ◌%◌, ◌^◌, ◌≤◌, ◌<◌}
use native.Mathlib.Nat.{mul_assoc, eq_of_mul-eq-mul_right, mul-mod_left, pow-suc, pow-le-pow_right}
use native.Mathlib.Omega.{arith}
use borrow.Author.Tests.{lt-ltb, leb-true, leb-false, eq-eqb}
use lib.Dec.{leb, ltb, lit<, lit≤}
use lib.IntN.{ℤ, pos, negsuc, neg_ℤ, nat_abs, ◌+ℤ◌, ◌-ℤ◌, ◌*ℤ◌, neg_ℤ-neg_ℤ, neg_ℤ-+ℤ}
use lib.Pow.{pow-add}
use Rattle.number.specs.Answer.{Answer, given, refused}
use Rattle.number.specs.Decimal.{Scaled, decimal_of}
use Rattle.cell.specs.declared.kind.Shape.{Shape}
use Rattle.cell.specs.Raw.{fits_raw}
use Rattle.cell.proofs.Types.{clash}
use Rattle.convert.specs.declared.method.Coefficients.{Coefficients}
use Rattle.number.specs.Signed.{signed_of}
use Rattle.convert.specs.Whole.{eq_z, all_small}
use Rattle.convert.specs.Limit.{within_limits, at_most_fraction, fraction_at_most}
use Rattle.convert.specs.Method.{same_products}
use Rattle.convert.specs.Fraction.{Value, none, number, text, turned, fraction, fraction_of}
use Rattle.convert.specs.Round.{Halves, nearest, rounded_quotient, raw_for}
use Rattle.convert.specs.Asked.{and_then, or_refused, as_decimal, asked_of, nearest_raw, fitting_raw, rounded_raw, value_within, means_within, asked_raw}
use Rattle.convert.proofs.Wholes.{left-true, right-true}
use Rattle.convert.proofs.Rounds.{within-half, met, quotient_is}
use Rattle.convert.proofs.Ring.{mul-neg, equal, N, D, Δ, over-is, under-is}

-- THE COMMON POWER OF TEN is the smallest: a number n over 10^tens, where no smaller power does, is whole times 10^t only from t = tens on.
pub smallest-power : (n tens t q : ℕ) → (n % 10 ≡ 0 → ⊥) → n * 10 ^ t ≡ q * 10 ^ tens → tens ≤ t
smallest-power n tens t q h e = go (leb tens t) refl
  where
    go : (b : Bool) → leb tens t ≡ b → tens ≤ t
    go true y = leb-true tens t y
    go false y =
        let l = leb-false tens t y in
        let j : tens ≡ suc (tens - suc t) + t = omega arith in
        let r = 10 ^ (tens - suc t) in
        let o : 0 < 10 ^ t = omega (arith, pow-le-pow_right (lit< {m = 0} {n = 10} tt) {i = 0} {j = t} (omega arith)) in
        let p : 10 ^ tens ≡ r * 10 * 10 ^ t = ap (λ (m : ℕ). 10 ^ m) j ∙ pow-add 10 (suc (tens - suc t)) t ∙ ap (λ (m : ℕ). m * 10 ^ t) (pow-suc 10 (tens - suc t)) in
        let g : n ≡ q * (r * 10) = eq_of_mul-eq-mul_right (10 ^ t) o n (q * (r * 10)) (e ∙ ap (λ (m : ℕ). q * m) p ∙ sym (mul_assoc q (r * 10) (10 ^ t))) in
        absurd (h (ap (λ (m : ℕ). m % 10) (g ∙ sym (mul_assoc q r 10)) ∙ mul-mod_left (q * r) 10))

-- COEFFICIENTS OF A METHOD AND A RAW NUMBER OF AN ELEMENT show the fraction itself.
pub fraction-exact : (k : Coefficients) (i : ℤ) → all_small k ≡ true → nat_abs i < 2 ^ 32 → fraction_of k i ≡ fraction k i
unfolding fraction_of
fraction-exact k i s h = rw (s, lt-ltb (nat_abs i) (2 ^ 32) h)

-- ---- the number that is stored
module _ (up : Halves) (k : Coefficients) (p q : ℤ) where
  abbrev over : ℤ
  over = k.b *ℤ p +ℤ k.c *ℤ q

  abbrev under : ℤ
  under = k.e *ℤ p +ℤ k.f *ℤ q

  -- 17 ONLY WHERE e·P + f = 0
  pub none_only : (n : ℕ) → raw_for up k p q ≡ refused n → under ≡ pos 0
  unfolding raw_for
  none_only n h = go under refl h
    where
      go : (d : ℤ) → under ≡ d → rounded_quotient up over d ≡ refused n → under ≡ pos 0
      go (pos zero) e r = e
      go (pos (suc d)) e r = let z : ◌≡◌ {A = ℕ} 0 1 = cc in absurd (omega arith)
      go (negsuc d) e r = let z : ◌≡◌ {A = ℕ} 0 1 = cc in absurd (omega arith)

  -- THE STORED NUMBER is the nearest: within half a step of the exact quotient.
  pub stored-near : (z : ℤ) → raw_for up k p q ≡ given z → 2 * nat_abs (z *ℤ under -ℤ over) ≤ nat_abs under
  unfolding raw_for
  stored-near z h = go under refl h
    where
      near : (d : ℤ) → (d ≡ pos 0 → ⊥) → rounded_quotient up over d ≡ given z → 2 * nat_abs (z *ℤ d -ℤ over) ≤ nat_abs d
      near d n r =
          let e : nearest up over d ≡ z = let y = quotient_is up over d n in cc in
          subst (λ (x : ℤ). 2 * nat_abs (x *ℤ d -ℤ over) ≤ nat_abs d) e (within-half up over d n)

      go : (d : ℤ) → under ≡ d → rounded_quotient up over d ≡ given z → 2 * nat_abs (z *ℤ d -ℤ over) ≤ nat_abs d
      go (pos zero) e r = let x : ◌≡◌ {A = ℕ} 0 1 = cc in absurd (omega arith)
      go (pos (suc d)) e r = near (pos (suc d)) (λ y. let x : ◌≡◌ {A = ℕ} (suc d) 0 = cc in omega arith) r
      go (negsuc d) e r = near (negsuc d) (λ y. let x : ◌≡◌ {A = ℕ} 0 1 = cc in omega arith) r

eq_z-same : (z : ℤ) → eq_z z z ≡ true
eq_z-same (pos n) = eq-eqb n n refl
eq_z-same (negsuc n) = eq-eqb n n refl

-- WHAT IS SHOWN STORES THE SAME NUMBER: the value of a raw number, asked for, stores that raw number, by any rule on halves.
module _ (up : Halves) (k : Coefficients) (i : ℤ) (s : same_products k ≡ false) where
  abbrev n₀ : ℤ
  n₀ = N k.b k.c k.e k.f i

  abbrev d₀ : ℤ
  d₀ = D k.b k.c k.e k.f i

  abbrev δ : ℤ
  δ = Δ k.b k.c k.e k.f i

  δ-some : δ ≡ pos 0 → ⊥
  δ-some h =
      let e : k.b *ℤ k.f ≡ k.c *ℤ k.e = equal (k.b *ℤ k.f) (k.c *ℤ k.e) h in
      clash (sym (eq_z-same (k.c *ℤ k.e)) ∙ sym (ap (λ (x : ℤ). eq_z x (k.c *ℤ k.e)) e) ∙ s)

  minus-some : neg_ℤ δ ≡ pos 0 → ⊥
  minus-some h = δ-some (sym (neg_ℤ-neg_ℤ δ) ∙ ap neg_ℤ h)

  -- both signs turned, the quotient is the same
  turn : (x y : ℤ) → x *ℤ neg_ℤ n₀ +ℤ y *ℤ neg_ℤ d₀ ≡ neg_ℤ (x *ℤ n₀ +ℤ y *ℤ d₀)
  turn x y = ap₂ ◌+ℤ◌ (mul-neg x n₀) (mul-neg y d₀) ∙ sym (neg_ℤ-+ℤ (x *ℤ n₀) (y *ℤ d₀))

  exact : (x y δ₀ : ℤ) → (δ₀ ≡ pos 0 → ⊥) → k.b *ℤ x +ℤ k.c *ℤ y ≡ i *ℤ δ₀ → k.e *ℤ x +ℤ k.f *ℤ y ≡ δ₀ → raw_for up k x y ≡ given i
  unfolding raw_for
  exact x y δ₀ h p q = ap₂ (rounded_quotient up) p q ∙ sym (quotient_is up (i *ℤ δ₀) δ₀ h) ∙ ap given (met up i δ₀ h)

  plain : raw_for up k n₀ d₀ ≡ given i
  plain = exact n₀ d₀ δ δ-some (over-is k.b k.c k.e k.f i) (under-is k.b k.c k.e k.f i)

  turned-over : raw_for up k (neg_ℤ n₀) (neg_ℤ d₀) ≡ given i
  turned-over =
      exact (neg_ℤ n₀) (neg_ℤ d₀) (neg_ℤ δ) minus-some
      (turn k.b k.c ∙ ap neg_ℤ (over-is k.b k.c k.e k.f i) ∙ sym (mul-neg i δ))
      (turn k.e k.f ∙ ap neg_ℤ (under-is k.b k.c k.e k.f i))

  pub shown-stored : (p q : ℤ) → fraction k i ≡ number p q → raw_for up k p q ≡ given i
  unfolding fraction
  shown-stored p q h = go d₀ refl h
    where
      go : (d : ℤ) → d₀ ≡ d → turned n₀ d ≡ number p q → raw_for up k p q ≡ given i
      go (pos zero) e r = let z : ◌≡◌ {A = ℕ} 0 1 = cc in absurd (omega arith)
      go (pos (suc d)) e r =
          let x : n₀ ≡ p = cc in
          let y : d₀ ≡ q = cc in
          ap₂ (raw_for up k) (sym x) (sym y) ∙ plain
      go (negsuc d) e r =
          let x : neg_ℤ n₀ ≡ p = cc in
          let m : pos (suc d) ≡ q = cc in
          let y : neg_ℤ d₀ ≡ q = ap neg_ℤ e ∙ m in
          ap₂ (raw_for up k) (sym x) (sym y) ∙ turned-over

-- ---- a physical write that is not refused: its value has the form, lies within the limits, the nearest raw number fits, and means a number within them
pub record Stores (up : Halves) (lower upper : Scaled) (k : Coefficients) (t : Shape) (mask : ℕ) (s : List ℕ) (z : ℤ) : Type 0 where
  pub asked : Scaled
  pub form : asked_of s ≡ given asked
  pub within : within_limits lower upper asked ≡ true
  pub near : nearest_raw up k asked ≡ given z
  pub fits : fits_raw t mask z ≡ true
  pub means : means_within lower upper k z ≡ true

-- the judgements one by one
gave : {A B : Type 0} (a : Answer A) (f : A → Answer B) (z : B) → and_then a f ≡ given z → (x : A) × (a ≡ given x) × (f x ≡ given z)
gave (given x) f z h = (x, refl, h)
gave (refused n) f z h = let y : ◌≡◌ {A = ℕ} 0 1 = cc in absurd (omega arith)

good : {A : Type 0} (n : ℕ) (b : Bool) (a x : A) → or_refused n b a ≡ given x → (b ≡ true) × (a ≡ x)
good n true a x h = (refl, cc)
good n false a x h = let y : ◌≡◌ {A = ℕ} 0 1 = cc in absurd (omega arith)

module _ (up : Halves) (lower upper : Scaled) (k : Coefficients) (t : Shape) (mask : ℕ) (s : List ℕ) (z : ℤ) where
  -- of the rounded number
  rounded-stores : rounded_raw up lower upper k t mask s ≡ given z → means_within lower upper k z ≡ true → Stores up lower upper k t mask s z
  unfolding rounded_raw
  rounded-stores h m =
      let a = gave (asked_of s) (λ d. and_then (or_refused 16 (within_limits lower upper d) d) (λ d. fitting_raw t mask (nearest_raw up k d))) z h in
      let b = gave (or_refused 16 (within_limits lower upper a.0) a.0) (λ d. fitting_raw t mask (nearest_raw up k d)) z a.2 in
      let w = good 16 (within_limits lower upper a.0) a.0 b.0 b.1 in
      let c = gave (nearest_raw up k b.0) (λ y. or_refused 18 (fits_raw t mask y) y) z b.2 in
      let f = good 18 (fits_raw t mask c.0) c.0 z c.2 in
      record {
        asked = a.0;
        form = a.1;
        within = w.0;
        near = ap (nearest_raw up k) w.1 ∙ c.1 ∙ ap given f.1;
        fits = ap (fits_raw t mask) (sym f.1) ∙ f.0;
        means = m;
      }

  pub asked-stores : asked_raw up lower upper k t mask s ≡ given z → Stores up lower upper k t mask s z
  unfolding asked_raw
  asked-stores h =
      let a = gave (rounded_raw up lower upper k t mask s) (λ y. or_refused 16 (means_within lower upper k y) y) z h in
      let m = good 16 (means_within lower upper k a.0) a.0 z a.2 in
      rounded-stores (a.1 ∙ ap given m.1) (ap (means_within lower upper k) (sym m.1) ∙ m.0)

-- WHAT IS STORED means the fraction itself, which lies within the limits.
pub record MeansNumber (lower upper : Scaled) (k : Coefficients) (z : ℤ) : Type 0 where
  pub n : ℤ
  pub d : ℤ
  pub exact : fraction_of k z ≡ fraction k z
  pub is : fraction_of k z ≡ number n d
  pub low : at_most_fraction lower n d ≡ true
  pub high : fraction_at_most n d upper ≡ true

-- a number within the limits
value-number : (lower upper : Scaled) (v : Value) → value_within lower upper v ≡ true
    → (n : ℤ) × (d : ℤ) × (v ≡ number n d) × (at_most_fraction lower n d ≡ true) × (fraction_at_most n d upper ≡ true)
value-number lower upper none h = clash (sym h)
value-number lower upper (number n d) h =
    (n, d, refl, left-true (at_most_fraction lower n d) (fraction_at_most n d upper) h, right-true (at_most_fraction lower n d) (fraction_at_most n d upper) h)
value-number lower upper (text a b) h = clash (sym h)

-- coefficients or a raw number that mean nothing mean no number
guard-exact : (lower upper : Scaled) (b : Bool) (v : Value) → value_within lower upper (cond b v none) ≡ true → cond b v none ≡ v
guard-exact lower upper true v h = refl
guard-exact lower upper false v h = clash (sym h)

pub means-number : (lower upper : Scaled) (k : Coefficients) (z : ℤ) → means_within lower upper k z ≡ true → MeansNumber lower upper k z
unfolding means_within fraction_of
means-number lower upper k z h =
    let m = value-number lower upper (fraction_of k z) h in
    record { n = m.0; d = m.1; exact = guard-exact lower upper (all_small k && ltb (nat_abs z) (2 ^ 32)) (fraction k z) h; is = m.2; low = m.3; high = m.4 }

-- ---- a physical write's refusal is 15, 16, 17 or 18
-- an answer that refuses by numbers of which P holds, and by no other
abbrev pub Numbered : (ℕ → Type 0) → {A : Type 0} → Answer A → Type 0
Numbered P a = (n : ℕ) → a ≡ refused n → P n

module _ (P : ℕ → Type 0) where
  numbered-given : {A : Type 0} (x : A) → Numbered P (given x)
  numbered-given x n h = let y : ◌≡◌ {A = ℕ} 0 1 = cc in absurd (omega arith)

  numbered-refused : {A : Type 0} (k : ℕ) → P k → Numbered P {A = A} (refused k)
  numbered-refused k p n h = let e : k ≡ n = cc in subst P e p

  pub numbered-or : {A : Type 0} (k : ℕ) (b : Bool) (x : A) → P k → Numbered P (or_refused k b x)
  numbered-or k true x p = numbered-given x
  numbered-or k false x p = numbered-refused k p

  pub numbered-then : {A B : Type 0} (a : Answer A) (f : A → Answer B) → Numbered P a → ((x : A) → Numbered P (f x)) → Numbered P (and_then a f)
  numbered-then (given x) f p q = q x
  numbered-then (refused k) f p q = λ n h. p n (let e : k ≡ n = cc in ap refused e)

  -- the form is 15
  pub numbered-form : P 15 → (a : Answer Scaled) → Numbered P (as_decimal a)
  numbered-form p (given d) = numbered-or 15 (leb d.whole 1000000000) d p
  numbered-form p (refused k) = numbered-refused 15 p

  -- no raw value is 17
  numbered-quotient : P 17 → (up : Halves) (n d : ℤ) → Numbered P (rounded_quotient up n d)
  numbered-quotient p up n (pos zero) = numbered-refused 17 p
  numbered-quotient p up n (pos (suc d)) = numbered-given (nearest up n (pos (suc d)))
  numbered-quotient p up n (negsuc d) = numbered-given (nearest up n (negsuc d))

  pub numbered-near : P 17 → (up : Halves) (k : Coefficients) (d : Scaled) → Numbered P (nearest_raw up k d)
  unfolding nearest_raw raw_for
  numbered-near h up k d = go (all_small k) (signed_of d.negative d.whole) (pos (10 ^ d.tens))
    where
      go : (b : Bool) (p q : ℤ) → Numbered P (cond b (rounded_quotient up (k.b *ℤ p +ℤ k.c *ℤ q) (k.e *ℤ p +ℤ k.f *ℤ q)) (refused 17))
      go true p q = numbered-quotient h up (k.b *ℤ p +ℤ k.c *ℤ q) (k.e *ℤ p +ℤ k.f *ℤ q)
      go false p q = numbered-refused 17 h

-- document 01's four numbers
abbrev pub AskedNumber : ℕ → Type 0
AskedNumber n = (15 ≤ n) × (n ≤ 18)

module _ (up : Halves) (lower upper : Scaled) (k : Coefficients) (t : Shape) (mask : ℕ) (s : List ℕ) where
  numbered-rounded : Numbered AskedNumber (rounded_raw up lower upper k t mask s)
  unfolding rounded_raw asked_of
  numbered-rounded =
      numbered-then AskedNumber _ _ (numbered-form AskedNumber (lit≤ tt, lit≤ tt) (decimal_of s)) (λ d.
      numbered-then AskedNumber _ _ (numbered-or AskedNumber 16 (within_limits lower upper d) d (lit≤ tt, lit≤ tt)) (λ d.
      numbered-then AskedNumber _ _ (numbered-near AskedNumber (lit≤ tt, lit≤ tt) up k d) (λ z.
      numbered-or AskedNumber 18 (fits_raw t mask z) z (lit≤ tt, lit≤ tt))))

  -- A REFUSED PHYSICAL WRITE has one of document 01's four numbers: 15, 16, 17, 18.
  pub asked-numbers : Numbered AskedNumber (asked_raw up lower upper k t mask s)
  unfolding asked_raw
  asked-numbers = numbered-then AskedNumber _ _ numbered-rounded (λ z. numbered-or AskedNumber 16 (means_within lower upper k z) z (lit≤ tt, lit≤ tt))
