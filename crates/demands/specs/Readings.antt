-- What the call that reads an element of an accepted load answers.
use Rattle.std.specs.Prelude.{ℕ, ◌-◌, ◌≡◌, List}
use Rattle.cell.specs.Kind.{shape_of}
use Rattle.cell.specs.Raw.{raw_at}
use Rattle.convert.specs.Fraction.{Value}
use Rattle.convert.specs.Shown.{shown}
use Rattle.convert.specs.Told.{held}
use Rattle.grammar.specs.Move.{View}
use Rattle.place.specs.declared.order.Layout.{Layout}
use Rattle.place.specs.declared.walk.Places.{Places}
use Rattle.objects.specs.Object.{first_of}
use Rattle.keeps.specs.Stands.{Part, type_of}
use Rattle.look.specs.Calls.{Reading}
use Rattle.demands.specs.Standing.{part_mask, conversion_from, conversion_past, element_at}
use Rattle.demands.specs.Value.{ValueBy}

-- r is what element j of part p reads as, of object i of the description x, which stands at the places at by the layout l in an image at a base address
pub record ReadsAs (x : List ℕ) (v : View) (i : ℕ) (image : List ℕ) (base : ℕ) (l : Layout) (at : Places) (p : Part) (j : ℕ) (r : Reading) : Type 0 where
  -- the number at the element's address: of its data type, in the object's byte order, under its mask
  pub raw : r.raw ≡ raw_at (first_of v i) (element_at x v i l at p j - base) (shape_of (type_of l p)) (part_mask x v i p) image
  -- "its physical value is the exact fraction or text, or none", as a line holds it and as it is shown
  pub value : Value
  pub by : ValueBy x v (conversion_from x v i p) (conversion_past x v i p) r.raw value
  pub is_held : r.value ≡ held value
  pub is_shown : r.display ≡ shown value
