-- Two decimals compared: the code's branches as laws, which `search limits` applies.
use mathlib.Core.Path.{◌≡◌, sym, ap₂, ◌∙◌}
use mathlib.Core.Bool.{Bool, true, false, ◌&&◌}
use Prim.Native.Nat.{◌*◌, ◌^◌, ◌≤◌}
use borrow.Author.Rules.{rules}
use lib.IntN.{ℤ}
use lib.Signed.{le_z}
use Rattle.number.specs.Told.{scaled}
use Rattle.number.specs.declared.decimal.Decimal.{Decimal}
use Rattle.number.specs.Signed.{signed_of}
use Rattle.convert.specs.Limit.{formed, at_most}
use Rattle.convert.proofs.Wholes.{left-true, right-true}
use Rattle.convert.proofs.Limits.{formed-facts}

-- ---- a decimal that has the form
module _ (d : Decimal) (x : Bool) (e : x ≡ formed (scaled d)) (h : x ≡ true) where
  pub formed-is : formed (scaled d) ≡ true
  formed-is = sym e ∙ h

  pub formed-whole : d.whole ≤ 9999999999
  formed-whole = (formed-facts (scaled d) formed-is).whole_most

  pub formed-tens : d.tens ≤ 6
  formed-tens = (formed-facts (scaled d) formed-is).tens_most

-- ---- two decimals: v and w are what the machine reads back of p and q
module _ (a b : Decimal) (x y : Bool) (ex : x ≡ formed (scaled a)) (ey : y ≡ formed (scaled b)) where
  pub at-most-is : (p q v w : ℤ) → (x && y) ≡ true → p ≡ signed_of a.negative (a.whole * 10 ^ b.tens) → q ≡ signed_of b.negative (b.whole * 10 ^ a.tens) → v ≡ p → w ≡ q
      → le_z v w ≡ at_most (scaled a) (scaled b)
  unfolding at_most
  at-most-is p q v w h ep eq ev ew = rw (sym ex ∙ left-true x y h, sym ey ∙ right-true x y h) (ap₂ le_z (ev ∙ ep) (ew ∙ eq))

  pub at-most-not : (x && y) ≡ false → false ≡ at_most (scaled a) (scaled b)
  unfolding at_most
  at-most-not h = let e : (formed (scaled a) && formed (scaled b)) ≡ false = ap₂ ◌&&◌ (sym ex) (sym ey) ∙ h in rw e

pub ruleset limits = (formed-is, formed-whole, formed-tens, at-most-is, at-most-not, left-true, right-true, rules)
