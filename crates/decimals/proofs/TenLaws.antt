-- Multiplying by ten up to ten digits, and numbers with more than ten digits that count.
use Prim.Native.Nat.{ℕ, zero, suc, ◌+◌, ◌*◌, ◌-◌, ◌%◌, ◌^◌, ◌<◌, ◌≤◌}
use native.Mathlib.Omega.{arith}
use mathlib.Core.Path.{◌≡◌, refl, sym, ◌∙◌, ap, subst}
use mathlib.Core.Bool.{Bool, true, false, cond}
use borrow.Author.Tests.{le-leb, lt-leb, leb-false, ne_eqb}
use borrow.Author.Rules.{rules}
use lib.Dec.{leb}
use mir.Syntax.{w64}
use mir.Val.{Fits}
use Rattle.number.specs.Answer.{Answer, refused}
use Rattle.number.specs.Decimal.{Scaled, most_whole, lowest, judged_decimal}
use Rattle.number.proofs.Forms.{judged-wide}
use Rattle.number.proofs.Tens.{ten-more, ten-last, ten-none, ten-grows, ten-sum, lowest-drop, lowest-up, lowest-down}
use Rattle.decimals.specs.Inner.{capped, Wide}

-- what the loop keeps
pub record Raising (m p n k : ℕ) : Type 0 where
  pub same : n * 10 ^ k ≡ m * 10 ^ p
  pub most : n ≤ most_whole

module _ (m p : ℕ) where
  pub raise-start : m ≤ most_whole → Raising m p m (p - 0)
  raise-start h = let e : p - 0 ≡ p = omega arith in record { same = rw e refl; most = h }

  more : (n k : ℕ) → Raising m p n k → n ≤ 999999999 → 0 < k → Raising m p (n * 10) (k - 1)
  more n zero q h g = absurd (omega arith)
  more n (suc k) q h g = let e : suc k - 1 ≡ k = omega arith in record { same = rw e (sym (ten-more n k) ∙ q.same); most = omega arith }

  over : (n k : ℕ) → Raising m p n k → 999999999 < n → 0 < k → 10000000000 ≡ capped (m * 10 ^ p)
  unfolding capped
  over n zero q h g = absurd (omega arith)
  over n (suc k) q h g =
      let l : most_whole < m * 10 ^ p = omega (arith, ten-grows (n * 10) k, ten-more n k, q.same) in
      rw (lt-leb (m * 10 ^ p) most_whole l)

  end : (n k : ℕ) → Raising m p n k → k ≤ 0 → n ≡ capped (m * 10 ^ p)
  unfolding capped
  end n zero q h = let e : m * 10 ^ p ≡ n = sym q.same ∙ ten-none n in rw (e, le-leb n most_whole q.most)
  end n (suc k) q h = absurd (omega arith)

  -- i zeros are there
  module _ (n i : ℕ) (q : Raising m p n (p - i)) where
    pub raise-on : n ≤ 999999999 → i < p → Raising m p (n * 10) (p - (i + 1))
    raise-on h g = let e : p - (i + 1) ≡ p - i - 1 = omega arith in rw e (more n (p - i) q h (omega arith))

    pub raise-over : 999999999 < n → i < p → 10000000000 ≡ capped (m * 10 ^ p)
    raise-over h g = over n (p - i) q h (omega arith)

    pub raise-end : p ≤ i → n ≡ capped (m * 10 ^ p)
    raise-end h = end n (p - i) q (omega arith)

  pub raise-fits : (n : ℕ) → n ≤ 999999999 → Fits w64 (n * 10)
  raise-fits n h = record { fits = omega arith }

pub ruleset raises = (raise-start, raise-on, raise-over, raise-end, raise-fits, rules)

-- a capped number is judged as the number
capped-turn : (neg b : Bool) (n : ℕ) → leb n most_whole ≡ b → judged_decimal (lowest neg (cond b n 10000000000) 0) ≡ judged_decimal (lowest neg n 0)
unfolding lowest
capped-turn neg true n e = refl
capped-turn neg false n e = sym (judged-wide (lowest neg 10000000000 0) (omega arith)) ∙ judged-wide (lowest neg n 0) (leb-false n most_whole e)

module _ (neg : Bool) (m p t : ℕ) (r : Answer Scaled) where
  pub settle-up : (w : ℕ) → t ≤ p → w ≡ capped (m * 10 ^ (p - t)) → r ≡ judged_decimal (lowest neg w 0) → r ≡ judged_decimal (lowest neg (m * 10 ^ p) t)
  unfolding capped
  settle-up w h e q =
      let n = m * 10 ^ (p - t) in
      q ∙ ap (λ (x : ℕ). judged_decimal (lowest neg x 0)) e ∙ capped-turn neg (leb n most_whole) n refl ∙ ap judged_decimal (lowest-up neg m t p h)

  pub settle-down : p < t → r ≡ judged_decimal (lowest neg m (t - p)) → r ≡ judged_decimal (lowest neg (m * 10 ^ p) t)
  settle-down h q = q ∙ ap judged_decimal (lowest-down neg m t p h)

pub ruleset settles = (settle-up, settle-down, rules)

-- a number with more than ten digits that count is refused wherever the point goes
wide_low : (neg : Bool) (v p t : ℕ) → (v % 10 ≡ 0 → ⊥) → v ≤ (lowest neg (v * 10 ^ p) t).whole
unfolding lowest
wide_low neg v p zero h = ten-grows v p
wide_low neg v zero (suc t) h = rw (ten-none v, ne_eqb (v % 10) 0 h) (omega arith)
wide_low neg v (suc p) (suc t) h =
    let e : lowest neg (v * 10 ^ suc p) (suc t) ≡ lowest neg (v * 10 ^ p) t = ap (λ (x : ℕ). lowest neg x (suc t)) (ten-last v p) ∙ lowest-drop neg (v * 10 ^ p) t in
    subst (λ (d : Scaled). v ≤ d.whole) (sym e) (wide_low neg v p t h)

pub wide-refused : (neg : Bool) (n t : ℕ) → Wide n → refused 2 ≡ judged_decimal (lowest neg n t)
wide-refused neg n t w =
    let l = wide_low neg w.kept w.zeros t w.last in
    judged-wide (lowest neg (w.kept * 10 ^ w.zeros) t) (omega (arith, l, w.wide)) ∙ ap (λ (x : ℕ). judged_decimal (lowest neg x t)) (sym w.is)

pub wide-raised : (n k : ℕ) → Wide n → Wide (n * 10 ^ k)
wide-raised n k w =
    record { kept = w.kept; zeros = w.zeros + k; is = ap (λ (x : ℕ). x * 10 ^ k) w.is ∙ sym (ten-sum w.kept w.zeros k); last = w.last; wide = w.wide }
