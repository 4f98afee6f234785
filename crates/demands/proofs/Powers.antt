-- THE SECOND DEMAND: what the coefficients of RAT_FUNC and LINEAR are.
--     rat-func-whole     RAT_FUNC's four stand over the smallest common power of ten
--     linear-is          LINEAR's over the larger of its two
use Prim.Native.Nat.{ℕ, zero, suc, ◌+◌, ◌*◌, ◌-◌, ◌^◌, ◌≤◌, max}
use mathlib.Core.Path.{◌≡◌, refl, sym, ◌∙◌, ap, subst}
use mathlib.Core.Bool.{Bool, true, false, cond, ◌&&◌}
use native.Mathlib.Omega.{arith}
use native.Mathlib.Nat.{mul_assoc}
use lib.IntN.{ℤ}
use lib.Pow.{pow-add}
use Rattle.number.specs.Answer.{given, refused}
use Rattle.number.specs.Decimal.{Scaled}
use Rattle.convert.specs.Limit.{formed}
use Rattle.convert.specs.Method.{sound_method, judged_method, times_ten, common, rat_func_at, rat_func, linear_at, linear_of}
use Rattle.convert.specs.declared.method.Coefficients.{Coefficients}
use Rattle.convert.proofs.Laws.{smallest-power}
use Rattle.list.proofs.Writes.{never, same-given}
use Rattle.demands.specs.Powers.{Lowest, Times, MadeWhole}

judged-is : (k c : Coefficients) → judged_method k ≡ given c → c ≡ k
unfolding judged_method
judged-is k c = go (sound_method k)
  where
    go : (b : Bool) → cond b (given k) (refused 10) ≡ given c → c ≡ k
    go true h = sym (same-given k c h)
    go false h = absurd (never 10 c h)

formed-is : (t : Bool) (k c : Coefficients) → cond t (judged_method k) (refused 10) ≡ given c → c ≡ k
formed-is true k c h = judged-is k c h
formed-is false k c h = absurd (never 10 c h)

-- a decimal times a power of ten from its own on
times-from : (d : Scaled) (t : ℕ) → d.tens ≤ t → Times t d (times_ten t d)
times-from d t l =
    let e : t ≡ (t - d.tens) + d.tens = omega arith in
    record {
      size = d.whole * 10 ^ (t - d.tens);
      whole = mul_assoc d.whole (10 ^ (t - d.tens)) (10 ^ d.tens) ∙ ap (λ (n : ℕ). d.whole * n) (sym (pow-add 10 (t - d.tens) d.tens)) ∙ ap (λ (n : ℕ). d.whole * 10 ^ n) (sym e);
      is = refl;
    }

least-power : (d : Scaled) (n t : ℕ) (z : ℤ) → d.tens ≡ n → Lowest d → Times t d z → n ≤ t
least-power d zero t z e l w = omega arith
least-power d (suc n) t z e l w = let h = smallest-power d.whole d.tens t w.size (l (omega arith)) (sym w.whole) in omega arith

made-whole : (b c e f : Scaled) → MadeWhole b c e f (rat_func_at (common b c e f) b c e f)
made-whole b c e f = record {
  power = common b c e f;
  b_whole = times-from b (common b c e f) (omega arith);
  c_whole = times-from c (common b c e f) (omega arith);
  e_whole = times-from e (common b c e f) (omega arith);
  f_whole = times-from f (common b c e f) (omega arith);
  smallest = λ lb lc le lf t z wb wc we wf.
      omega (arith, least-power b b.tens t z.b refl lb wb, least-power c c.tens t z.c refl lc wc, least-power e e.tens t z.e refl le we, least-power f f.tens t z.f refl lf wf);
}

-- "RAT_FUNC .. The four others are made whole at the smallest common power of ten."
pub rat-func-whole : (b c e f : Scaled) (k : Coefficients) → rat_func b c e f ≡ given k → MadeWhole b c e f k
unfolding rat_func
rat-func-whole b c e f k h =
    subst (MadeWhole b c e f) (sym (formed-is (formed b && formed c && formed e && formed f) (rat_func_at (common b c e f) b c e f) k h)) (made-whole b c e f)

-- "LINEAR, PHYS = a·INT + b, has b, c, e, f of 10^t, −B, 0, A, where A and B are a and b times 10^t."
pub linear-is : (a b : Scaled) (k : Coefficients) → linear_of a b ≡ given k → k ≡ linear_at (max a.tens b.tens) a b
unfolding linear_of
linear-is a b k h = formed-is (formed a && formed b) (linear_at (max a.tens b.tens) a b) k h
