-- Coefficients, four whole numbers and four decimals made whole: the code's branches as laws, gathered in three rulesets.
use mathlib.Core.Path.{◌≡◌, refl, sym, ap, ap₂, ◌∙◌}
use mathlib.Core.Bool.{Bool, true, false, not, ◌&&◌}
use Prim.Native.Nat.{ℕ, ◌*◌, ◌-◌, ◌≤◌, ◌^◌, max}
use native.Mathlib.Nat.{mul-le-mul}
use native.Mathlib.Omega.{arith}
use borrow.Author.Rules.{rules}
use lib.Dec.{leb, eqb}
use lib.IntN.{ℤ, pos, nat_abs, ◌*ℤ◌, ◌-ℤ◌}
use mir.Syntax.{w64}
use mir.Val.{SFits, to_z, of_z}
use Rattle.number.specs.Answer.{Answer, given, refused}
use Rattle.number.specs.Told.{scaled}
use Rattle.number.specs.declared.decimal.Decimal.{Decimal}
use Rattle.cell.proofs.Signed.{Is, back, is-fits, is-back, is_read, is_mul, is-turn}
use Rattle.convert.specs.declared.method.Coefficients.{Coefficients}
use Rattle.number.specs.Signed.{signed_of}
use Rattle.convert.specs.Whole.{all_small, Small}
use Rattle.convert.specs.Limit.{formed}
use Rattle.convert.specs.Method.{same_products, sound_method, judged_method, times_ten, common, four, rat_func_at, rat_func, linear_at, linear_of}
use Rattle.convert.proofs.Wholes.{is-equal, sized, abs-signed, left-true, right-true, small-told, product-fits}
use Rattle.convert.proofs.Limits.{formed-facts, ten-le, ten-is, ten-fits}
use Rattle.convert.proofs.LimitLaws.{formed-is}

-- ---- four whole numbers: b, c, e and f are their sizes
pub small_is : (k : Coefficients) (b c e f : ℕ) → b ≡ nat_abs (back k.b) → c ≡ nat_abs (back k.c) → e ≡ nat_abs (back k.e) → f ≡ nat_abs (back k.f)
    → SFits w64 k.b → SFits w64 k.c → SFits w64 k.e → SFits w64 k.f
    → (leb b 1000000000 && leb c 1000000000 && leb e 1000000000 && leb f 1000000000) ≡ all_small k
unfolding all_small
small_is k b c e f p q r s fb fc fe ff =
    λ i.
    leb (sized k.b fb.sfits p i) 1000000000 && leb (sized k.c fc.sfits q i) 1000000000
    && leb (sized k.e fe.sfits r i) 1000000000 && leb (sized k.f ff.sfits s i) 1000000000

pub products-same : (k : Coefficients) → Small k → eqb (of_z w64 (back k.b *ℤ back k.f)) (of_z w64 (back k.c *ℤ back k.e)) ≡ same_products k
products-same k s = is-equal (is_mul (is_read k.b s.b tt) (is_read k.f s.f tt)) (is_mul (is_read k.c s.c tt) (is_read k.e s.e tt)) tt tt

module _ (k : Coefficients) (b : Bool) (e : b ≡ all_small k) where
  pub sound-is : (r : Bool) → b ≡ true → r ≡ same_products k → not r ≡ sound_method k
  unfolding sound_method
  sound-is r y h = rw (sym e ∙ y) (ap not h)

  pub sound-not : b ≡ false → false ≡ sound_method k
  unfolding sound_method
  sound-not y = rw (sym e ∙ y)

module _ (k : Coefficients) (b : Bool) (e : b ≡ sound_method k) where
  pub judged-is : b ≡ true → given k ≡ judged_method k
  unfolding judged_method
  judged-is y = rw (sym e ∙ y)

  pub judged-not : b ≡ false → refused 10 ≡ judged_method k
  unfolding judged_method
  judged-not y = rw (sym e ∙ y)

-- ---- a decimal made whole: y is what the machine reads back of z
pub made-is : (b : Bool) (n : ℕ) (y z : ℤ) → z ≡ signed_of b n → y ≡ z → y ≡ signed_of b n
made-is b n y z p q = q ∙ p

pub made-whole-size : (d : Decimal) → formed (scaled d) ≡ true → d.whole ≤ 9999999999
made-whole-size d h = (formed-facts (scaled d) h).whole_most

-- it has at most 16 digits
made-small : (t : ℕ) (d : Decimal) → formed (scaled d) ≡ true → t ≤ 6 → nat_abs (times_ten t (scaled d)) ≤ 9999999999000000
made-small t d h l =
    let p : 10 ^ (t - d.tens) ≤ 1000000 = ten-le (t - d.tens) (omega arith) in
    let m = mul-le-mul (formed-facts (scaled d) h).whole_most p in
    rw (abs-signed d.negative (d.whole * 10 ^ (t - d.tens))) (omega (arith, m))

-- four equal numbers
fours : {b c e f b' c' e' f' : ℤ} → b ≡ b' → c ≡ c' → e ≡ e' → f ≡ f' → four b c e f ≡ four b' c' e' f'
fours p q r s = λ i. four (p i) (q i) (r i) (s i)

-- ---- the larger of two powers
pub larger-left : (x m n t : ℕ) → t ≡ max m n → x ≤ m → x ≤ t
larger-left x m n t e h = omega arith

pub larger-right : (x m n t : ℕ) → t ≡ max m n → x ≤ n → x ≤ t
larger-right x m n t e h = omega arith

most : (d : Decimal) → formed (scaled d) ≡ true → d.tens ≤ 6
most d h = (formed-facts (scaled d) h).tens_most

larger-most : (x y t : ℕ) → t ≡ max x y → x ≤ 6 → y ≤ 6 → t ≤ 6
larger-most x y t e h k = omega arith

-- ---- four decimals that have the form, d one of them
module _ (d : Decimal) (w x y z : Bool) (h : (w && x && y && z) ≡ true) where
  three : (w && x && y) ≡ true
  three = left-true (w && x && y) z h

  two : (w && x) ≡ true
  two = left-true (w && x) y three

  pub first-formed : w ≡ formed (scaled d) → formed (scaled d) ≡ true
  first-formed e = sym e ∙ left-true w x two

  pub second-formed : x ≡ formed (scaled d) → formed (scaled d) ≡ true
  second-formed e = sym e ∙ right-true w x two

  pub third-formed : y ≡ formed (scaled d) → formed (scaled d) ≡ true
  third-formed e = sym e ∙ right-true (w && x) y three

  pub fourth-formed : z ≡ formed (scaled d) → formed (scaled d) ≡ true
  fourth-formed e = sym e ∙ right-true (w && x && y) z h

-- ---- RAT_FUNC
module _ (b c e f : Decimal) (w x y z : Bool) where
  module _ (h : (w && x && y && z) ≡ true) (ew : w ≡ formed (scaled b)) (ex : x ≡ formed (scaled c)) (ey : y ≡ formed (scaled e)) (ez : z ≡ formed (scaled f))
      (m n t : ℕ) (em : m ≡ max b.tens c.tens) (en : n ≡ max e.tens f.tens) (et : t ≡ max m n) where
    pub four-most : t ≤ 6
    four-most =
        larger-most m n t et
        (larger-most b.tens c.tens m em (most b (first-formed b w x y z h ew)) (most c (second-formed c w x y z h ex)))
        (larger-most e.tens f.tens n en (most e (third-formed e w x y z h ey)) (most f (fourth-formed f w x y z h ez)))

    -- v is the answer, and p to s are what the machine reads back of the four made whole, p' to s'
    pub rat-func-is : (p q r s p' q' r' s' : ℤ) (v : Answer Coefficients) → v ≡ judged_method (four p q r s)
        → p' ≡ times_ten t (scaled b) → q' ≡ times_ten t (scaled c) → r' ≡ times_ten t (scaled e) → s' ≡ times_ten t (scaled f)
        → p ≡ p' → q ≡ q' → r ≡ r' → s ≡ s'
        → v ≡ rat_func (scaled b) (scaled c) (scaled e) (scaled f)
    unfolding rat_func
    rat-func-is p q r s p' q' r' s' v ev eb ec ee ef kp kq kr ks =
        let k : t ≡ common (scaled b) (scaled c) (scaled e) (scaled f) = et ∙ ap₂ max em en in
        let g : (formed (scaled b) && formed (scaled c) && formed (scaled e) && formed (scaled f)) ≡ true = (λ i. sym ew i && sym ex i && sym ey i && sym ez i) ∙ h in
        ev ∙ rw g
        (ap judged_method (fours (kp ∙ eb) (kq ∙ ec) (kr ∙ ee) (ks ∙ ef)) ∙ ap (λ (u : ℕ). judged_method (rat_func_at u (scaled b) (scaled c) (scaled e) (scaled f))) k)

  pub rat-func-not : (w && x && y && z) ≡ false → w ≡ formed (scaled b) → x ≡ formed (scaled c) → y ≡ formed (scaled e) → z ≡ formed (scaled f)
      → refused 10 ≡ rat_func (scaled b) (scaled c) (scaled e) (scaled f)
  unfolding rat_func
  rat-func-not h ew ex ey ez =
      let g : (formed (scaled b) && formed (scaled c) && formed (scaled e) && formed (scaled f)) ≡ false = (λ i. sym ew i && sym ex i && sym ey i && sym ez i) ∙ h in
      rw g

-- ---- LINEAR
module _ (a b : Decimal) (x y : Bool) where
  module _ (h : (x && y) ≡ true) (ex : x ≡ formed (scaled a)) (ey : y ≡ formed (scaled b)) (t : ℕ) (et : t ≡ max a.tens b.tens) where
    pub two-most : t ≤ 6
    two-most = larger-most a.tens b.tens t et (most a (sym ex ∙ left-true x y h)) (most b (sym ey ∙ right-true x y h))

    -- q is what the machine reads back of b made whole, q'
    module _ (q q' : ℤ) (kq : q ≡ q') (eq : q' ≡ times_ten t (scaled b)) where
      offset : Is q (times_ten t (scaled b)) 9999999999000000
      offset = record { same = kq ∙ eq; size = made-small t b (sym ey ∙ right-true x y h) two-most }

      pub offset-fits : SFits w64 (pos 0 -ℤ q)
      offset-fits = is-fits (is-turn offset) tt

      -- v is the answer, r is 10^t, and s is what the machine reads back of a made whole, s'
      pub linear-is : (r : ℕ) (s s' : ℤ) (v : Answer Coefficients) → v ≡ judged_method (four (to_z w64 r) (back (pos 0 -ℤ q)) (pos 0) s)
          → r ≡ 10 ^ t → s ≡ s' → s' ≡ times_ten t (scaled a) → v ≡ linear_of (scaled a) (scaled b)
      unfolding linear_of
      linear-is r s s' v ev er ks es =
          ev ∙ rw (sym ex ∙ left-true x y h, sym ey ∙ right-true x y h)
          (ap judged_method (fours (ten-is t r er two-most).same (is-back (is-turn offset) tt).same refl (ks ∙ es)) ∙ ap (λ (u : ℕ). judged_method (linear_at u (scaled a) (scaled b))) et)

  pub linear-not : (x && y) ≡ false → x ≡ formed (scaled a) → y ≡ formed (scaled b) → refused 10 ≡ linear_of (scaled a) (scaled b)
  unfolding linear_of
  linear-not h ex ey = let g : (formed (scaled a) && formed (scaled b)) ≡ false = ap₂ ◌&&◌ (sym ex) (sym ey) ∙ h in rw g

pub ruleset coefficients = (small-told, product-fits, small_is, products-same, sound-is, sound-not, judged-is, judged-not, made-is, made-whole-size, rules)

pub ruleset rat-funcs = (first-formed, second-formed, third-formed, fourth-formed, larger-left, larger-right, four-most, rat-func-is, rat-func-not, rules)

pub ruleset linears = (formed-is, left-true, right-true, larger-left, larger-right, ten-fits, two-most, offset-fits, linear-is, linear-not, rules)
