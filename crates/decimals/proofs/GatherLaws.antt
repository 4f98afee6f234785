-- Digits of any number: one more of them, and what the loop over them keeps.
use Prim.Native.Nat.{ℕ, zero, suc, ◌+◌, ◌*◌, ◌%◌, ◌^◌, ◌<◌, ◌≤◌, max}
use native.Mathlib.Numerals.{add-one}
use native.Mathlib.Omega.{arith}
use mathlib.Core.Path.{◌≡◌, refl, sym, ◌∙◌, ap, subst}
use mathlib.Core.List.{List, [], ◌∷◌}
use mathlib.Core.Bool.{Bool, true, false}
use borrow.Author.Tests.{ltb-true, leb-true, leb-false}
use borrow.Author.Rules.{rules}
use lib.Dec.{ltb, leb}
use lib.ListN.{length, get_or}
use mir.Syntax.{w64}
use mir.Val.{Fits}
use Rattle.number.specs.Digits.{digit_of, leading, value_on, all_digits}
use Rattle.number.specs.Decimal.{most_whole}
use Rattle.number.proofs.Bytes.{left, lead-on, lead-stop, lead-end, value-more}
use Rattle.number.proofs.Laws.{both, first-digits}
use Rattle.number.proofs.Tens.{ten-none, ten-last, ten-grows}
use Rattle.decimals.specs.Inner.{Wide, Full, Kept, KeptDigits}
use Rattle.decimals.specs.declared.gather.Part.{Part}

-- one digit more after more than ten that count
wide-digit : (n d : ℕ) → d < 10 → Wide n → Wide (n * 10 + d)
wide-digit n zero h w =
    let z : n * 10 + 0 ≡ n * 10 = omega arith in
    record { kept = w.kept; zeros = suc w.zeros; is = z ∙ ap (λ (x : ℕ). x * 10) w.is ∙ sym (ten-last w.kept w.zeros); last = w.last; wide = w.wide }
wide-digit n (suc d) h w =
    let v : most_whole < n = omega (arith, w.wide, w.is, ten-grows w.kept w.zeros) in
    record { kept = n * 10 + suc d; zeros = 0; is = sym (ten-none (n * 10 + suc d)); last = λ e. omega arith; wide = omega arith }

pub wide-more : (n : ℕ) (ds : List ℕ) → all_digits 10 ds ≡ true → Wide n → Wide (value_on 10 n ds)
unfolding value_on all_digits
wide-more n [] h w = w
wide-more n (b ∷ ds) h w =
    let p = both (ltb (digit_of b) 10) (all_digits 10 ds) h in
    wide-more (n * 10 + digit_of b) ds p.1 (wide-digit n (digit_of b) (ltb-true (digit_of b) 10 p.0) w)

-- one digit more, as `added` answers it
module _ (p : Part) (d : ℕ) (l : d < 10) where
  no-zeros : (m z : ℕ) → (0 < z → 999999999 < m) → m ≤ 999999999 → z ≡ 0
  no-zeros m zero h g = refl
  no-zeros m (suc k) h g = absurd (omega (arith, h (omega arith)))

  pub add-short : Full p → p.m ≤ 999999999 → Kept (p.m * 10 ^ p.z * 10 + d) p.z (record { m = p.m * 10 + d; z = 0 })
  add-short f h =
      let e : p.m * 10 ^ p.z ≡ p.m = ap (λ (k : ℕ). p.m * 10 ^ k) (no-zeros p.m p.z f h) ∙ ten-none p.m in
      record {
        same = ten-none (p.m * 10 + d) ∙ ap (λ (x : ℕ). x * 10 + d) (sym e);
        most = omega arith;
        few = omega arith;
        full = λ a. absurd (omega arith);
      }

  module _ (g : 999999999 < p.m) where
    pub add-zero : p.m ≤ most_whole → d ≡ 0 → Kept (p.m * 10 ^ p.z * 10 + d) p.z (record { m = p.m; z = p.z + 1 })
    add-zero h e =
        let o : p.m * 10 ^ p.z * 10 + d ≡ p.m * 10 ^ p.z * 10 = omega arith in
        record { same = rw (add-one p.z) (ten-last p.m p.z) ∙ sym o; most = h; few = omega arith; full = λ a. g }

    pub add-over : (d ≡ 0 → ⊥) → Wide (p.m * 10 ^ p.z * 10 + d)
    add-over e =
        let n = p.m * 10 ^ p.z * 10 + d in
        let y : n % 10 ≡ 0 → ⊥ = λ u. e (omega arith) in
        let v : most_whole < n = omega (arith, ten-grows p.m p.z) in
        record { kept = n; zeros = 0; is = sym (ten-none n); last = y; wide = v }

pub ten-fits : (m : ℕ) → m ≤ 999999999 → Fits w64 (m * 10)
ten-fits m h = record { fits = omega arith }

pub sum_fits : (m d : ℕ) → m ≤ 999999999 → d < 10 → Fits w64 (m * 10 + d)
sum_fits m d h g = record { fits = omega arith }

pub ruleset adds = (add-short, add-zero, add-over, ten-fits, sum_fits, rules)

-- what the loop keeps, and what each turn does
pub record Gathering (s : List ℕ) (at n i : ℕ) (p : Part) : Type 0 where
  pub place : i + length (leading (left s i)) ≡ at + length (leading (left s at))
  pub value : value_on 10 (p.m * 10 ^ p.z) (leading (left s i)) ≡ value_on 10 n (leading (left s at))
  pub most : p.m ≤ most_whole
  pub full : Full p
  pub few : p.z ≤ i

module _ (s : List ℕ) (at : ℕ) where
  module _ (n i : ℕ) (p : Part) (q : Gathering s at n i p) where
    gather-ends : leading (left s i) ≡ [] → KeptDigits s at n (record { end = i; part = p })
    unfolding value_on
    gather-ends e =
        record {
          place = omega (arith, q.place, ap length e);
          value = rw e at q.value;
          most = q.most;
          full = q.full;
          few = q.few;
        }

    pub gather-end : i ≤ length s → length s ≤ i → KeptDigits s at n (record { end = length s; part = p })
    gather-end g h = let e : i ≡ length s = omega arith in rw (← e) (gather-ends (lead-end s i h))

    -- at may stand past the end
    pub gather-past : (m : ℕ) → (at ≤ length s → i ≤ length s) → length s ≤ i → m ≡ max at (length s) → KeptDigits s at n (record { end = m; part = p })
    gather-past m near h e = by-place (leb at (length s)) refl
      where
        by-place : (b : Bool) → leb at (length s) ≡ b → KeptDigits s at n (record { end = m; part = p })
        by-place true t =
            let u : at ≤ length s = leb-true at (length s) t in
            let d : m ≡ length s = omega (arith, e, u) in
            rw d (gather-end (near u) h)
        by-place false t =
            let o : length s < at = leb-false at (length s) t in
            let z : leading (left s at) ≡ [] = lead-end s at (omega (arith, o)) in
            let y : leading (left s i) ≡ [] = lead-end s i h in
            let d : m ≡ i = omega (arith, e, o, q.place, ap length z, ap length y) in
            rw d (gather-ends y)

    module _ (d : ℕ) (e : d ≡ digit_of (get_or s i 0)) (h : i < length s) where
      pub gather-stop : 10 ≤ d → KeptDigits s at n (record { end = i; part = p })
      gather-stop l = gather-ends (lead-stop s i d e h l)

      module _ (l : d < 10) where
        onto : value_on 10 (p.m * 10 ^ p.z * 10 + d) (leading (left s (i + 1))) ≡ value_on 10 n (leading (left s at))
        onto = sym (ap (value_on 10 (p.m * 10 ^ p.z)) (lead-on s i d e h l) ∙ value-more 10 (p.m * 10 ^ p.z) d (get_or s i 0) (leading (left s (i + 1))) e) ∙ q.value

        pub gather-over : Wide (p.m * 10 ^ p.z * 10 + d) → Wide (value_on 10 n (leading (left s at)))
        gather-over w = subst Wide onto (wide-more (p.m * 10 ^ p.z * 10 + d) (leading (left s (i + 1))) (first-digits (left s (i + 1))) w)

        pub gather-on : (r : Part) → Kept (p.m * 10 ^ p.z * 10 + d) p.z r → Gathering s at n (i + 1) r
        gather-on r a =
            record {
              place = omega (arith, q.place, ap length (lead-on s i d e h l));
              value = ap (λ (x : ℕ). value_on 10 x (leading (left s (i + 1)))) a.same ∙ onto;
              most = a.most;
              full = a.full;
              few = omega (arith, a.few, q.few);
            }
