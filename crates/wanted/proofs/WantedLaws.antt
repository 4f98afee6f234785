-- The raw number that a write wants, by the tests that the code makes.
use mathlib.Core.Path.{◌≡◌, ◌∙◌}
use mathlib.Core.List.{List}
use mathlib.Core.Bool.{Bool, true, false}
use Prim.Native.Nat.{ℕ}
use borrow.Author.Rules.{rules}
use lib.IntN.{ℤ}
use Rattle.number.specs.Answer.{Answer, given, refused}
use Rattle.number.specs.Decimal.{Scaled}
use Rattle.cell.specs.Kind.{shape_of}
use Rattle.cell.specs.Raw.{fits_raw, written}
use Rattle.convert.specs.Asked.{rounded_raw, asked_raw}
use Rattle.convert.specs.Edition.{halves_of}
use Rattle.convert.specs.declared.method.Coefficients.{Coefficients}
use Rattle.tables.specs.Form.{tables_in, edition, kind, first, mask, limit}
use Rattle.tables.specs.Group.{place_of}
use Rattle.look.specs.Calls.{raw_number, physical_text, asks_by, is_tab_verb, wanted_raw, stored}

module _ (t : List ℕ) (g k m : ℕ) (pk : k ≡ kind (tables_in t) g) (pm : m ≡ mask (tables_in t) g) where
  -- y is what the machine reads back of z
  pub raw-fits : (z y : ℤ) (b : Bool) → b ≡ fits_raw (shape_of k) m y → y ≡ z → b ≡ true → given y ≡ wanted_raw (tables_in t) g (raw_number z)
  raw-fits z y b e h q = rw (← pk, ← pm, ← h, ← e, q)

  pub raw-unfit : (z y : ℤ) (b : Bool) → b ≡ fits_raw (shape_of k) m y → y ≡ z → b ≡ false → refused 18 ≡ wanted_raw (tables_in t) g (raw_number z)
  raw-unfit z y b e h q = rw (← pk, ← pm, ← h, ← e, q)

  pub asked_is : (s : List ℕ) (b : Bool) (e : ℕ) (lo up : Scaled) (f : Coefficients) (a : Answer ℤ) → b ≡ is_tab_verb (tables_in t) g → b ≡ false
      → lo ≡ limit (tables_in t) g 11 → up ≡ limit (tables_in t) g 14 → f ≡ asks_by (tables_in t) g → e ≡ edition (tables_in t) → a ≡ asked_raw (halves_of e) lo up f (shape_of k) m s
      → a ≡ wanted_raw (tables_in t) g (physical_text s)
  asked_is s b e lo up f a v q pl pu pf pe h = h ∙ rw (pl, pu, pf, pe, pk, pm, ← v, q)

  pub rounded-is : (s : List ℕ) (e : ℕ) (lo up : Scaled) (f : Coefficients) (a : Answer ℤ) → e ≡ edition (tables_in t) → lo ≡ limit (tables_in t) g 11 → up ≡ limit (tables_in t) g 14 → f ≡ asks_by (tables_in t) g
      → a ≡ rounded_raw (halves_of e) lo up f (shape_of k) m s → a ≡ rounded_raw (halves_of (edition (tables_in t))) (limit (tables_in t) g 11) (limit (tables_in t) g 14) (asks_by (tables_in t) g) (shape_of (kind (tables_in t) g)) (mask (tables_in t) g) s
  rounded-is s e lo up f a pe pl pu pf h = h ∙ rw (pe, pl, pu, pf, pk, pm)

pub asked-text : (t : List ℕ) (g : ℕ) (s : List ℕ) (b : Bool) → b ≡ is_tab_verb (tables_in t) g → b ≡ true → refused 15 ≡ wanted_raw (tables_in t) g (physical_text s)
asked-text t g s b e q = rw (← e, q)

pub ruleset wants = (raw-fits, raw-unfit, asked_is, rounded-is, asked-text, rules)

-- ---- the bytes of an accepted write; y is what the machine reads back of z
pub store-raw-is : (t image image' : List ℕ) (g i p k m : ℕ) (b : Bool) (z y : ℤ) → image' ≡ written b p (shape_of k) m y image → y ≡ z
    → p ≡ place_of (tables_in t) g i → k ≡ kind (tables_in t) g → b ≡ first (tables_in t) g → m ≡ mask (tables_in t) g → image' ≡ stored t g i image z
unfolding stored
store-raw-is t image image' g i p k m b z y e h pp pk pb pm = e ∙ rw (h, pp, pk, pb, pm)

pub ruleset stores = (store-raw-is, rules)
