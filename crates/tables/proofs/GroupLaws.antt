-- The numbers of groups and methods and the place of an element, by the branches that the code takes.
use Prim.Native.Nat.{ℕ, ◌+◌, ◌-◌, ◌*◌, ◌/◌, ◌%◌, ◌^◌, ◌≤◌, ◌<◌, min}
use mathlib.Core.Path.{◌≡◌, refl}
use mathlib.Core.List.{List}
use mathlib.Core.Bool.{Bool, true, false, not, and-false}
use native.Mathlib.Omega.{arith}
use native.Mathlib.Nat.{mul-le-mul, mod-le, div-le_self}
use borrow.Author.Rules.{rules}
use borrow.Author.Tests.{le-ltb, eq-eqb, ne_eqb}
use mir.Syntax.{w64}
use mir.Val.{Fits}
use lib.Dec.{eqb}
use lib.IntN.{ℤ}
use Rattle.number.specs.Decimal.{Scaled}
use Rattle.number.specs.Signed.{signed_of, most_signed}
use Rattle.number.proofs.Signs.{under-most}
use Rattle.convert.specs.declared.method.Coefficients.{Coefficients}
use Rattle.cell.specs.Kind.{shape_of}
use Rattle.cell.proofs.Shapes.{bytes_le}
use Rattle.records.specs.Cells.{section_in, slot_in}
use Rattle.tables.specs.Form.{table_sections, group_section, method_section, Tables, tables_in, past_points, past_coefficient, kind, first, place, x, y, wide, high, walk, mask, forbidden, limit, coefficient, coefficients}
use Rattle.tables.specs.Group.{position, elements, bytes, place_of, storage_of, IsReachable, place_by}
use Rattle.tables.specs.declared.group.Storage.{Storage}

module _ (t : List ℕ) (g : ℕ) where
  pub first-is : (v : ℕ) → v ≡ slot_in t (section_in table_sections group_section) g 1 → eqb v 1 ≡ first (tables_in t) g
  first-is v p = rw p

  pub forbidden-is : (v : ℕ) → v ≡ slot_in t (section_in table_sections group_section) g 10 → not (eqb v 0) ≡ forbidden (tables_in t) g
  forbidden-is v p = rw p

  -- past a record's numbers there is nothing
  slot-past : (k : ℕ) → 19 ≤ k → slot_in t (section_in table_sections group_section) g k ≡ 0
  unfolding slot_in table_sections
  slot-past k h = rw (le-ltb k 19 h, and-false)

  pub limit-past : (k : ℕ) → 19 ≤ k → ◌≡◌ {A = Scaled} (record { negative = false; whole = 0; tens = 0 }) (limit (tables_in t) g k)
  limit-past k h = rw (slot-past k h, slot-past (k + 1) (omega arith), slot-past (k + 2) (omega arith))

  pub limit_is : (k s w p q : ℕ) → s ≡ slot_in t (section_in table_sections group_section) g k → w ≡ slot_in t (section_in table_sections group_section) g (k + 1)
      → p ≡ slot_in t (section_in table_sections group_section) g (k + 2) → q ≡ min p 7 → ◌≡◌ {A = Scaled} (record { negative = eqb s 1; whole = w; tens = q }) (limit (tables_in t) g k)
  limit_is k s w p q a b c d = rw (a, b, d, c)

pub ruleset fields = (first-is, forbidden-is, limit-past, limit_is, rules)

-- ---- how many

few-points : (u : ℕ) → min u past_points ≤ past_points
few-points u = omega arith

-- no group has more elements than this, and their number fits
pub elements-most : (T : Tables) (g : ℕ) → elements T g ≤ past_points * past_points
elements-most T g = mul-le-mul (few-points (T.slots group_section g 3)) (few-points (T.slots group_section g 4))

module _ (T : Tables) (g a b : ℕ) (p : a ≡ x T g) (q : b ≡ y T g) where
  pub elements-fit : Fits w64 (a * b)
  elements-fit = rw (p, q) (record { fits = omega (arith, elements-most T g) })

  pub elements-are : a * b ≡ elements T g
  elements-are = rw (p, q)

pub bytes-is : (T : Tables) (g k r : ℕ) → k ≡ kind T g → r ≡ (shape_of k).bytes → r ≡ bytes T g
bytes-is T g k r p q = rw (q, p)

pub stored_is : (T : Tables) (g k : ℕ) (f : Bool) (p a b c d w m : ℕ) → k ≡ kind T g → f ≡ first T g → p ≡ place T g → a ≡ x T g → b ≡ y T g → c ≡ wide T g → d ≡ high T g → w ≡ walk T g → m ≡ mask T g
    → ◌≡◌ {A = Storage} (record { kind = k; first = f; place = p; x = a; y = b; wide = c; high = d; walk = w; mask = m }) (storage_of T g)
stored_is T g k f p a b c d w m ek ef ep ea eb ec ed ew em = rw (ek, ef, ep, ea, eb, ec, ed, ew, em)

pub ruleset many = (elements-fit, elements-are, bytes-is, rules)

-- ---- where

-- a product of an index's point and a room
small_product : (i a k : ℕ) → a ≤ i → i < 2 ^ 40 → k < 2 ^ 17 → a * k ≤ 2 ^ 40 * 2 ^ 17
small_product i a k h p q = mul-le-mul {n₂ = 2 ^ 40} {m₂ = 2 ^ 17} (omega arith) (omega arith)

module _ (w x wide high i : ℕ) where
  -- a and b are the x and the y point of i
  module _ (a b : ℕ) (p : a ≡ i % x) (q : b ≡ i / x) where
    pub at-y-fastest : w ≡ 2 → a * high + b ≡ position w x wide high i
    unfolding position
    at-y-fastest h = rw (eq-eqb w 2 h, p, q)

    pub at_listed : (w ≡ 2 → ⊥) → (w ≡ 1 → ⊥) → b * wide + a ≡ position w x wide high i
    unfolding position
    at_listed h l = rw (ne_eqb w 2 h, ne_eqb w 1 l, p, q)

    pub column_fits : i < 2 ^ 40 → high < 2 ^ 17 → a * high + b ≤ 2 ^ 58
    column_fits h l =
        let c : a ≤ i = rw p (mod-le i x) in
        let d : b ≤ i = rw q (div-le_self i x) in
        omega (arith, small_product i a high c h l)

    pub row_fits : i < 2 ^ 40 → wide < 2 ^ 17 → b * wide + a ≤ 2 ^ 58
    row_fits h l =
        let c : a ≤ i = rw p (mod-le i x) in
        let d : b ≤ i = rw q (div-le_self i x) in
        omega (arith, small_product i b wide d h l)

  -- v is x - 1 - i
  pub at_last : (u v : ℕ) → u ≡ x - 1 → v ≡ u - i → w ≡ 1 → v ≡ position w x wide high i
  unfolding position
  at_last u v p q h = rw (q, p, h)

  -- every position is small enough for the code
  pub position-small : i < 2 ^ 40 → x < 2 ^ 32 → wide < 2 ^ 17 → high < 2 ^ 17 → position w x wide high i ≤ 2 ^ 58
  unfolding position
  position-small hi hx hw hh = by-walk (eqb w 2) (eqb w 1) refl refl where
    by-walk : (c d : Bool) → eqb w 2 ≡ c → eqb w 1 ≡ d → position w x wide high i ≤ 2 ^ 58
    by-walk true d p q = rw p (column_fits (i % x) (i / x) refl refl hi hh)
    by-walk false true p q = rw (p, q) (omega arith)
    by-walk false false p q = rw (p, q) (row_fits (i % x) (i / x) refl refl hi hw)

pub ruleset positions = (at-y-fastest, at_listed, at_last, rules)

-- an element's bytes times its position
pub place-fits : (k w a c d i at h : ℕ) → at ≡ position w a c d i → h ≡ (shape_of k).bytes → i < 2 ^ 40 → a < 2 ^ 32 → c < 2 ^ 17 → d < 2 ^ 17 → h * at ≤ 2 ^ 60
place-fits k w a c d i at h pt ph hi ha hc hd =
    let l : h ≤ 4 = rw ph (bytes_le k) in
    mul-le-mul {n₂ = 4} {m₂ = 2 ^ 58} l (rw pt (position-small w a c d i hi ha hc hd))

pub place_is : (T : Tables) (g i : ℕ) (s : Storage) (r : ℕ) → s ≡ storage_of T g → r ≡ place_by s i → r ≡ place_of T g i
unfolding place_of
place_is T g i s r p q = rw (q, p)

pub stored-wide : (T : Tables) (g : ℕ) (s : Storage) → s ≡ storage_of T g → s.wide ≤ past_points
stored-wide T g s p = rw p (omega arith)

pub stored-high : (T : Tables) (g : ℕ) (s : Storage) → s ≡ storage_of T g → s.high ≤ past_points
stored-high T g s p = rw p (omega arith)

-- every index below 2^40 can be reached in every group
pub stored-reachable : (T : Tables) (g i : ℕ) (s : Storage) → s ≡ storage_of T g → i < 2 ^ 40 → IsReachable s i
stored-reachable T g i s p h = ((stored-wide T g s p, stored-high T g s p), h)

pub ruleset stores = (stored_is, stored-wide, stored-high, place_is, rules)

-- ---- methods

-- a coefficient's size has room for either sign
pub size-signed : (z n : ℕ) (negative : Bool) → n ≡ min z past_coefficient → n ≤ most_signed negative
size-signed z n negative e = under-most n negative (rw e (omega arith))

module _ (t : List ℕ) (m : ℕ) where
  pub coefficient-is : (k s z : ℕ) (r : ℤ) (n : ℕ) → s ≡ slot_in t (section_in table_sections method_section) m k → z ≡ slot_in t (section_in table_sections method_section) m (k + 1)
      → n ≡ min z past_coefficient → r ≡ signed_of (eqb s 1) n → r ≡ coefficient (tables_in t) m k
  coefficient-is k s z r n a b c d = rw (d, c, a, b)

  pub coefficients-are : (b c e f : ℤ) → b ≡ coefficient (tables_in t) m 1 → c ≡ coefficient (tables_in t) m 3 → e ≡ coefficient (tables_in t) m 5 → f ≡ coefficient (tables_in t) m 7
      → ◌≡◌ {A = Coefficients} (record { b = b; c = c; e = e; f = f }) (coefficients (tables_in t) m)
  coefficients-are b c e f p q r s = rw (p, q, r, s)

pub ruleset methods = (size-signed, coefficient-is, coefficients-are, rules)
