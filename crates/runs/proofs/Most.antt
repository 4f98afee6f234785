-- A number with a digit more against the greatest: the greatest's quotient and remainder by the base tell, with no further division.
use Rattle.std.proofs.Common.{ℕ, zero, suc, ◌+◌, ◌*◌, ◌/◌, ◌%◌, ◌≡◌, ◌≤◌, ◌<◌, ap, refl, sym, arith, Bool, true, false}
use mathlib.Core.Bool.{true≢false}
use Rattle.std.specs.Prelude.{◌&&◌, ◌||◌, eqb, ltb}
use Rattle.std.proofs.lemmas.Bool.{eqb-true, eqb-false, ltb-true, ltb-false}
use Rattle.std.proofs.Math.Nat.{div-add-mod, mul_comm, mul-le-mul_right, mod-lt, suc-mul}

module _ (most base n d : ℕ) (l : d < base) where
  whole : most / base * base + most % base ≡ most
  whole = let c : most / base * base ≡ base * (most / base) = mul_comm (most / base) base in omega (arith, c, div-add-mod most base)

  rest : most % base < base
  rest = mod-lt most (omega (arith, l))

  past-quotient : most / base < n → most < n * base + d
  past-quotient h =
      let m : suc (most / base) * base ≤ n * base = mul-le-mul_right base h in
      omega (arith, whole, rest, m, suc-mul (most / base) base)

  below-quotient : n < most / base → n * base + d ≤ most
  below-quotient h =
      let m : suc n * base ≤ most / base * base = mul-le-mul_right base h in
      omega (arith, whole, m, suc-mul n base, l)

  past-remainder : most / base ≡ n → most % base < d → most < n * base + d
  past-remainder e h = let m : most / base * base ≡ n * base = ap (λ x. x * base) e in omega (arith, whole, m, h)

  at-quotient : most / base ≡ n → d ≤ most % base → n * base + d ≤ most
  at-quotient e h = let m : most / base * base ≡ n * base = ap (λ x. x * base) e in omega (arith, whole, m, h)

  pub past-most : (ltb (most / base) n || (eqb (most / base) n && ltb (most % base) d)) ≡ true → most < n * base + d
  past-most = go (ltb (most / base) n) (eqb (most / base) n) (ltb (most % base) d) refl refl refl
    where
      go : (a e f : Bool) → ltb (most / base) n ≡ a → eqb (most / base) n ≡ e → ltb (most % base) d ≡ f → (a || (e && f)) ≡ true → most < n * base + d
      go true e f p q r h = past-quotient (ltb-true (most / base) n p)
      go false true true p q r h = past-remainder (eqb-true (most / base) n q) (ltb-true (most % base) d r)
      go false true false p q r h = absurd (true≢false (sym h))
      go false false f p q r h = absurd (true≢false (sym h))

  pub within-most : (ltb (most / base) n || (eqb (most / base) n && ltb (most % base) d)) ≡ false → n * base + d ≤ most
  within-most = go (ltb (most / base) n) (eqb (most / base) n) (ltb (most % base) d) refl refl refl
    where
      go : (a e f : Bool) → ltb (most / base) n ≡ a → eqb (most / base) n ≡ e → ltb (most % base) d ≡ f → (a || (e && f)) ≡ false → n * base + d ≤ most
      go true e f p q r h = absurd (true≢false h)
      go false true true p q r h = absurd (true≢false h)
      go false true false p q r h = at-quotient (eqb-true (most / base) n q) (ltb-false (most % base) d r)
      go false false f p q r h = below-quotient (omega (arith, ltb-false (most / base) n p, eqb-false (most / base) n q))
