-- Both forms of a number meet in one reading: the whole number over the smallest power of ten is the only one.
use Prim.Native.Nat.{ℕ, zero, suc, ◌+◌, ◌*◌, ◌%◌, ◌^◌, ◌<◌}
use native.Mathlib.Nat.{mul-mod_left}
use native.Mathlib.Omega.{arith}
use mathlib.Core.Path.{◌≡◌, refl, sym, ◌∙◌, ap}
use mathlib.Core.List.{List}
use Rattle.number.specs.Answer.{given}
use Rattle.number.specs.Decimal.{Scaled, decimal_of}
use Rattle.number.specs.Exact.{digits_number, tens_up, tens_down, Exact, SameNumber}
use Rattle.number.specs.Told.{tenths}
use Rattle.number.proofs.Tens.{ten-last, ten-none, ten-sum}
use Rattle.number.proofs.Exponents.{decimal-exact}

ten-cancel : (x y k : ℕ) → x * 10 ^ k ≡ y * 10 ^ k → x ≡ y
ten-cancel x y zero e = sym (ten-none x) ∙ e ∙ ten-none y
ten-cancel x y (suc k) e = let f : x * 10 ^ k * 10 ≡ y * 10 ^ k * 10 = sym (ten-last x k) ∙ e ∙ ten-last y k in ten-cancel x y k (omega arith)

ten-split : (n a b c d : ℕ) → a + b ≡ c + d → n * 10 ^ a * 10 ^ b ≡ n * 10 ^ c * 10 ^ d
ten-split n a b c d e = sym (ten-sum n a b) ∙ ap (λ (k : ℕ). n * 10 ^ k) e ∙ ten-sum n c d

no_last : (x y b : ℕ) → x * 10 ^ suc b ≡ y * 10 ^ 0 → (y % 10 ≡ 0 → ⊥) → ⊥
no_last x y b e h =
    let f : y ≡ x * 10 ^ b * 10 = sym (sym (ten-last x b) ∙ e ∙ ten-none y) in
    h (ap (λ (n : ℕ). n % 10) f ∙ mul-mod_left (x * 10 ^ b) 10)

-- x over 10^a is y over 10^b, and neither power could be smaller
least-same : (x y a b : ℕ) → (0 < a → x % 10 ≡ 0 → ⊥) → (0 < b → y % 10 ≡ 0 → ⊥) → x * 10 ^ b ≡ y * 10 ^ a → (a ≡ b) × (x ≡ y)
least-same x y zero zero g h e = (refl, sym (ten-none x) ∙ e ∙ ten-none y)
least-same x y zero (suc b) g h e = absurd (no_last x y b e (h (omega arith)))
least-same x y (suc a) zero g h e = absurd (no_last y x a (sym e) (g (omega arith)))
least-same x y (suc a) (suc b) g h e =
    let f : x * 10 ^ b * 10 ≡ y * 10 ^ a * 10 = sym (ten-last x b) ∙ e ∙ ten-last y a in
    let r = least-same x y a b (λ l. g (omega arith)) (λ l. h (omega arith)) (omega arith) in
    (ap suc r.0, r.1)

module _ (s r : List ℕ) (d e : Scaled) (p : Exact s d) (q : Exact r e) (same : SameNumber s r) where
  values : d.whole * 10 ^ e.tens ≡ e.whole * 10 ^ d.tens
  values =
      let a = tens_down s in
      let b = tens_down r in
      let u = tens_up s in
      let v = tens_up r in
      let m = digits_number s in
      let n = digits_number r in
      ten-cancel (d.whole * 10 ^ e.tens) (e.whole * 10 ^ d.tens) (a + b)
      (ten-split d.whole e.tens (a + b) a (b + e.tens) (omega arith)
      ∙ ap (λ (x : ℕ). x * 10 ^ (b + e.tens)) p.value
      ∙ ten-split m (u + d.tens) (b + e.tens) (u + b) (d.tens + e.tens) (omega arith)
      ∙ ap (λ (x : ℕ). x * 10 ^ (d.tens + e.tens)) same.value
      ∙ ten-split n (v + a) (d.tens + e.tens) (v + e.tens) (a + d.tens) (omega arith)
      ∙ ap (λ (x : ℕ). x * 10 ^ (a + d.tens)) (sym q.value)
      ∙ ten-split e.whole b (a + d.tens) d.tens (a + b) (omega arith))

  pub exact_one : d ≡ e
  exact_one =
      let l = least-same d.whole e.whole d.tens e.tens p.least q.least values in
      let sign : d.negative ≡ e.negative = p.sign ∙ same.sign ∙ sym q.sign in
      let f : tenths d.negative d.whole d.tens ≡ tenths e.negative e.whole e.tens = rw (sign, l.1, l.0) in
      f

-- two runs that are read and write the same number, with an exponent or without, are read as the same decimal
pub one-reading : (s r : List ℕ) (d e : Scaled) → given d ≡ decimal_of s → given e ≡ decimal_of r → SameNumber s r → d ≡ e
one-reading s r d e p q = exact_one s r d e (decimal-exact s d p) (decimal-exact r e q)
