-- The table rule for an object's parts, by the branches that the code takes. Each call's result is a variable with its equation.
use Prim.Native.Nat.{ℕ, ◌+◌, ◌*◌}
use mathlib.Core.Path.{◌≡◌, refl}
use mathlib.Core.Bool.{Bool, true, false, not, ◌&&◌}
use native.Mathlib.Omega.{arith}
use borrow.Author.Rules.{rules}
use borrow.Author.Tests.{ne_eqb}
use lib.Dec.{eqb}
use Rattle.rows.specs.Codes.{AXIS-PTS, MEASUREMENT, VALUE, VAL-BLK, CURVE, MAP}
use Rattle.tables.specs.Form.{group_section, Tables, kind, x, y}
use Rattle.tables.specs.Rule.{axis_pts_rule, block_rule, value_rule, measurement_rule, curve_rule, map_rule, parts_rule}

twice-not : (b : Bool) → not (not b) ≡ b
twice-not true = refl
twice-not false = refl

-- a, b and c are the data types of the object's x points, y points and values
module _ (T : Tables) (i : ℕ) where
  pub axis-pts-is : (a b c : ℕ) → a ≡ kind T (i * 3) → b ≡ kind T (i * 3 + 1) → c ≡ kind T (i * 3 + 2)
      → (not (eqb a 0) && eqb b 0 && eqb c 0) ≡ axis_pts_rule T i
  unfolding axis_pts_rule
  axis-pts-is a b c p q r = let z : i * 3 + 0 ≡ i * 3 = omega arith in rw (z, twice-not (eqb (kind T (i * 3 + 1)) 0), twice-not (eqb (kind T (i * 3 + 2)) 0), p, q, r)

  pub block-is : (a b c n : ℕ) → a ≡ kind T (i * 3) → b ≡ kind T (i * 3 + 1) → c ≡ kind T (i * 3 + 2) → n ≡ y T (i * 3 + 2)
      → (eqb a 0 && eqb b 0 && not (eqb c 0) && eqb n 1) ≡ block_rule T i
  unfolding block_rule
  block-is a b c n p q r s = let z : i * 3 + 0 ≡ i * 3 = omega arith in rw (z, twice-not (eqb (kind T (i * 3)) 0), twice-not (eqb (kind T (i * 3 + 1)) 0), p, q, r, s)

  pub value-is : (n : ℕ) (r : Bool) → r ≡ block_rule T i → n ≡ x T (i * 3 + 2) → (r && eqb n 1) ≡ value_rule T i
  unfolding value_rule
  value-is n r p q = rw (p, q)

  pub measurement-is : (f : ℕ) (r : Bool) → r ≡ value_rule T i → f ≡ T.slots group_section (i * 3 + 2) 10 → (r && eqb f 1) ≡ measurement_rule T i
  unfolding measurement_rule
  measurement-is f r p q = rw (p, q)

  pub curve-is : (b c n : ℕ) → b ≡ kind T (i * 3 + 1) → c ≡ kind T (i * 3 + 2) → n ≡ y T (i * 3 + 2) → (eqb b 0 && not (eqb c 0) && eqb n 1) ≡ curve_rule T i
  unfolding curve_rule
  curve-is b c n p q r = rw (p, q, r, twice-not)

  pub map_is : (c : ℕ) → c ≡ kind T (i * 3 + 2) → not (eqb c 0) ≡ map_rule T i
  unfolding map_rule
  map_is c p = rw p

  -- by what the object is
  module _ (k : ℕ) (r : Bool) where
    pub parts-axis-pts : k ≡ AXIS-PTS → r ≡ axis_pts_rule T i → r ≡ parts_rule T i k
    unfolding parts_rule
    parts-axis-pts e p = rw (e, p)

    pub parts-measurement : k ≡ MEASUREMENT → r ≡ measurement_rule T i → r ≡ parts_rule T i k
    unfolding parts_rule
    parts-measurement e p = rw (e, p)

    pub parts-value : k ≡ VALUE → r ≡ value_rule T i → r ≡ parts_rule T i k
    unfolding parts_rule
    parts-value e p = rw (e, p)

    pub parts-block : k ≡ VAL-BLK → r ≡ block_rule T i → r ≡ parts_rule T i k
    unfolding parts_rule
    parts-block e p = rw (e, p)

    pub parts-curve : k ≡ CURVE → r ≡ curve_rule T i → r ≡ parts_rule T i k
    unfolding parts_rule
    parts-curve e p = rw (e, p)

    pub parts-map : k ≡ MAP → r ≡ map_rule T i → r ≡ parts_rule T i k
    unfolding parts_rule
    parts-map e p = rw (e, p)

  pub parts_none : (k : ℕ) → (k ≡ AXIS-PTS → ⊥) → (k ≡ MEASUREMENT → ⊥) → (k ≡ VALUE → ⊥) → (k ≡ VAL-BLK → ⊥) → (k ≡ CURVE → ⊥) → (k ≡ MAP → ⊥) → false ≡ parts_rule T i k
  unfolding parts_rule
  parts_none k a b c d e f =
      rw (ne_eqb k AXIS-PTS a, ne_eqb k MEASUREMENT b, ne_eqb k VALUE c, ne_eqb k VAL-BLK d, ne_eqb k CURVE e, ne_eqb k MAP f)

pub ruleset parts = (axis-pts-is, block-is, value-is, measurement-is, curve-is, map_is, parts-axis-pts, parts-measurement, parts-value, parts-block, parts-curve, parts-map, parts_none, rules)
