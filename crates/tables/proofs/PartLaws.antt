-- The table rule for one record, by the branches that the code takes. Each call's result is a variable with its equation.
use Prim.Native.Nat.{ℕ, ◌+◌, ◌*◌, ◌%◌, ◌≤◌, ◌<◌}
use mathlib.Core.Path.{◌≡◌}
use mathlib.Core.Bool.{Bool, ◌&&◌, ◌||◌}
use native.Mathlib.Omega.{arith}
use native.Mathlib.Nat.{mul-le-mul, add-zero}
use borrow.Author.Rules.{rules}
use borrow.Author.Tests.{le-ltb, lt-ltb, eq-eqb, ne_eqb}
use lib.Dec.{eqb, leb}
use Rattle.number.specs.Told.{scaled}
use Rattle.number.specs.declared.decimal.Decimal.{Decimal}
use Rattle.number.specs.Most.{most_elements, most_points}
use Rattle.cell.specs.Kind.{shape_of, is_type}
use Rattle.cell.specs.Mask.{mask_rule}
use Rattle.cell.proofs.Shapes.{bytes_le}
use Rattle.convert.specs.Edition.{is_edition}
use Rattle.convert.specs.Limit.{at_most}
use Rattle.convert.specs.Method.{sound_method}
use Rattle.convert.specs.declared.method.Coefficients.{Coefficients}
use Rattle.tables.specs.Form.{head_section, object_section, group_section, method_section, table_section, entry_section, Tables, past_points, edition, total, kind, place, x, y, wide, high, walk, method_of, mask, counter, counter_place, limit, coefficients}
use Rattle.number.specs.Below.{sum_below, all_below}
use Rattle.tables.specs.Group.{elements, bytes}
use Rattle.tables.specs.Rule.{is_fraction, text_rule, inside_rule, word_rule, parts_rule, object_rule, is_no_part, points_rule, counter_rule, axis_rule, values_rule, limits_rule, bytes_rule, role_rule, part_rule, group_rule, verbal_rule, signs_rule, fraction_rule, method_rule, table_rule, entry_rule, head_rule, ruled}

module _ (T : Tables) where
  pub object-is : (n i a b k : ℕ) (r s : Bool) → a ≡ T.slots object_section i 0 → b ≡ T.slots object_section i 1 → k ≡ T.slots object_section i 2 → r ≡ text_rule n a b → s ≡ parts_rule T i k
      → (r && s) ≡ object_rule T n i
  unfolding object_rule
  object-is n i a b k r s p q e u v = rw (u, v, p, q, e)

  module _ (g : ℕ) where
    pub none_is : (r : Bool) → r ≡ all_below 19 (λ k. eqb (T.slots group_section g (k + 0)) 0) → r ≡ is_no_part T g
    unfolding is_no_part
    none_is r p = rw p (simp add-zero)

    pub points-are : (a b c d : ℕ) → a ≡ x T g → b ≡ y T g → c ≡ wide T g → d ≡ high T g
        → (leb 1 a && leb a most_points && leb 1 b && leb b most_points && eqb c a && eqb d b) ≡ points_rule T g
    unfolding points_rule
    points-are a b c d p q r s = rw (p, q, r, s)

    pub counter-is : (m k v p h : ℕ) (i z : Bool) → k ≡ counter T g → v ≡ T.slots group_section g 18 → p ≡ counter_place T g → h ≡ (shape_of k).bytes
        → i ≡ inside_rule m p h → z ≡ is_type k → (eqb k 0 && eqb v 0 || z && i) ≡ counter_rule T g m
    unfolding counter_rule
    counter-is m k v p h i z a b c d e f = rw (e, f, d, a, b, c)

    pub axis-is : (m a b w k : ℕ) (r : Bool) → a ≡ x T g → b ≡ y T g → w ≡ walk T g → k ≡ mask T g → r ≡ counter_rule T g m
        → (leb a 256 && eqb b 1 && leb w 1 && eqb k 0 && r) ≡ axis_rule T g m
    unfolding axis_rule
    axis-is m a b w k r p q e u v = rw (p, q, e, u, v)

    pub values-are : (w k d n v : ℕ) (f : Bool) → w ≡ walk T g → k ≡ mask T g → d ≡ kind T g → f ≡ mask_rule (shape_of d) k → n ≡ counter T g → v ≡ T.slots group_section g 18
        → ((eqb w 0 || eqb w 2) && (eqb k 0 || f) && eqb n 0 && eqb v 0) ≡ values_rule T g
    unfolding values_rule
    values-are w k d n v f p q e u a b = rw (u, p, q, e, a, b)

    pub limits-are : (a b : ℕ) (l u : Decimal) (r : Bool) → a ≡ T.slots group_section g 11 → b ≡ T.slots group_section g 14 → scaled l ≡ limit T g 11 → scaled u ≡ limit T g 14
        → r ≡ at_most (scaled l) (scaled u) → (leb a 1 && leb b 1 && r) ≡ limits_rule T g
    unfolding limits_rule
    limits-are a b l u r p q e f v = rw (p, q, v, e, f)

    pub bytes-are : (m h a b s : ℕ) (r : Bool) → h ≡ bytes T g → a ≡ wide T g → b ≡ high T g → s ≡ place T g → r ≡ inside_rule m s (h * (a * b)) → r ≡ bytes_rule T g m
    unfolding bytes_rule
    bytes-are m h a b s r p e f u v = rw (v, p, e, f, u)

    pub role-axis : (m : ℕ) (r : Bool) → g % 3 < 2 → r ≡ axis_rule T g m → r ≡ role_rule T g m
    unfolding role_rule
    role-axis m r h p = rw (p, lt-ltb (g % 3) 2 h)

    pub role-values : (m : ℕ) (r : Bool) → 2 ≤ g % 3 → r ≡ values_rule T g → r ≡ role_rule T g m
    unfolding role_rule
    role-values m r h p = rw (p, le-ltb (g % 3) 2 h)

    pub part-is : (m k o e n f : ℕ) (z p b s l : Bool) → k ≡ kind T g → z ≡ is_type k → o ≡ T.slots group_section g 1 → p ≡ points_rule T g → b ≡ bytes_rule T g m → s ≡ role_rule T g m
        → e ≡ method_of T g → n ≡ T.counts method_section → f ≡ T.slots group_section g 10 → l ≡ limits_rule T g
        → (z && leb o 1 && p && b && s && leb e n && leb f 1 && l) ≡ part_rule T g m
    unfolding part_rule
    part-is m k o e n f z p b s l e1 e2 e3 e4 e5 e6 e7 e8 e9 e10 = rw (e2, e1, e3, e4, e5, e6, e7, e8, e9, e10)

    pub group-none : (m k : ℕ) (r : Bool) → k ≡ kind T g → k ≡ 0 → r ≡ is_no_part T g → r ≡ group_rule T g m
    unfolding group_rule
    group-none m k r p h q = rw (q, ← p, h)

    pub group-part : (m k : ℕ) (r : Bool) → k ≡ kind T g → (k ≡ 0 → ⊥) → r ≡ part_rule T g m → r ≡ group_rule T g m
    unfolding group_rule
    group-part m k r p h q = rw (q, ← p, ne_eqb k 0 h)

  module _ (i : ℕ) where
    pub verbal-is : (a n : ℕ) (r : Bool) → r ≡ all_below 8 (λ k. eqb (T.slots method_section i (k + 1)) 0) → a ≡ T.slots method_section i 9 → n ≡ T.counts table_section
        → (r && leb 1 a && leb a n) ≡ verbal_rule T i
    unfolding verbal_rule
    verbal-is a n r p q e = rw (p, q, e)

    pub signs-are : (b c e f : ℕ) → b ≡ T.slots method_section i 1 → c ≡ T.slots method_section i 3 → e ≡ T.slots method_section i 5 → f ≡ T.slots method_section i 7
        → (leb b 1 && leb c 1 && leb e 1 && leb f 1) ≡ signs_rule T i
    unfolding signs_rule
    signs-are b c e f p q r s = rw (p, q, r, s)

    pub fraction-is : (k a : ℕ) (z s u w : Bool) (c : Coefficients) → k ≡ T.slots method_section i 0 → z ≡ is_fraction k → s ≡ signs_rule T i → c ≡ coefficients T i → u ≡ sound_method c
        → w ≡ word_rule k c → a ≡ T.slots method_section i 9 → (z && s && u && w && eqb a 0) ≡ fraction_rule T i
    unfolding fraction_rule
    fraction-is k a z s u w c e1 e2 e3 e4 e5 e6 e7 = rw (e2, e6, e1, e3, e5, e4, e7)

    pub method-verbal : (k : ℕ) (r : Bool) → k ≡ T.slots method_section i 0 → k ≡ 22 → r ≡ verbal_rule T i → r ≡ method_rule T i
    unfolding method_rule
    method-verbal k r p h q = rw (q, ← p, eq-eqb k 22 h)

    pub method-fraction : (k : ℕ) (r : Bool) → k ≡ T.slots method_section i 0 → (k ≡ 22 → ⊥) → r ≡ fraction_rule T i → r ≡ method_rule T i
    unfolding method_rule
    method-fraction k r p h q = rw (q, ← p, ne_eqb k 22 h)

    pub table_is : (n a b c d e : ℕ) (r s : Bool) → a ≡ T.slots table_section i 0 → b ≡ T.slots table_section i 1 → c ≡ T.counts entry_section → r ≡ leb (a + b) c
        → d ≡ T.slots table_section i 2 → e ≡ T.slots table_section i 3 → s ≡ text_rule n d e → (r && s) ≡ table_rule T n i
    unfolding table_rule
    table_is n a b c d e r s e1 e2 e3 e4 e5 e6 e7 = rw (e4, e7, e1, e2, e3, e5, e6)

    pub entry-is : (n a d e : ℕ) (s : Bool) → a ≡ T.slots entry_section i 0 → d ≡ T.slots entry_section i 2 → e ≡ T.slots entry_section i 3 → s ≡ text_rule n d e → (leb a 1 && s) ≡ entry_rule T n i
    unfolding entry_rule
    entry-is n a d e s e1 e2 e3 e4 = rw (e4, e1, e2, e3)

  pub head-is : (h a b c s n k : ℕ) (v : Bool) → h ≡ T.counts head_section → a ≡ edition T → v ≡ is_edition a → b ≡ T.slots head_section 0 1 → c ≡ total T → s ≡ sum_below (T.counts group_section) (elements T)
      → n ≡ T.counts group_section → k ≡ T.counts object_section → (eqb h 1 && v && eqb b 0 && eqb c s && leb c most_elements && eqb n (k * 3)) ≡ head_rule T
  unfolding head_rule
  head-is h a b c s n k v e1 e2 e8 e3 e4 e5 e6 e7 = rw (e5, e8, e1, e2, e3, e4, e6, e7)

  pub ruled-is : (n m : ℕ) (h o g c a e : Bool) → h ≡ head_rule T → o ≡ all_below (T.counts object_section) (object_rule T n) → g ≡ all_below (T.counts group_section) (λ i. group_rule T i m)
      → c ≡ all_below (T.counts method_section) (method_rule T) → a ≡ all_below (T.counts table_section) (table_rule T n) → e ≡ all_below (T.counts entry_section) (entry_rule T n)
      → (h && o && g && c && a && e) ≡ ruled T n m
  unfolding ruled
  ruled-is n m h o g c a e e1 e2 e3 e4 e5 e6 = rw (e1, e2, e3, e4, e5, e6)

-- the room of a part, and its bytes
pub room_most : (T : Tables) (g a b : ℕ) → a ≡ wide T g → b ≡ high T g → a * b ≤ past_points * past_points
room_most T g a b p q =
    let c : a ≤ past_points = rw p (omega arith) in
    let d : b ≤ past_points = rw q (omega arith) in
    mul-le-mul {n₂ = past_points} {m₂ = past_points} c d

pub bytes_most : (T : Tables) (g a b h : ℕ) → a ≡ wide T g → b ≡ high T g → h ≡ bytes T g → h * (a * b) ≤ 4 * (past_points * past_points)
bytes_most T g a b h p q e =
    let c : h ≤ 4 = rw e (bytes_le (kind T g)) in
    mul-le-mul {n₂ = 4} {m₂ = past_points * past_points} c (room_most T g a b p q)

pub ruleset records = (object-is, none_is, points-are, counter-is, axis-is, values-are, limits-are, bytes-are, role-axis, role-values, part-is, group-none, group-part, verbal-is, signs-are, fraction-is, method-verbal, method-fraction, table_is, entry-is, head-is, ruled-is, rules)
