-- What a load accepts: the text is read, and then each rule holds of every record, with no word of the order in which a load judges them
-- (proofs/Exactly.antt). Which texts are read, the crate `tree` says.
use Rattle.std.specs.Prelude.{ℕ, ◌+◌, ◌≤◌, ◌<◌, ◌≡◌, List, true}
use Rattle.text.specs.Answer.{given}
use Rattle.number.specs.Form.{is_given}
use Rattle.number.specs.Most.{most_elements}
use Rattle.records.specs.Records.{count, slot}
use Rattle.rows.specs.Sections.{method, object}
use Rattle.grammar.specs.Move.{view}
use Rattle.grammar.specs.Read.{read}
use Rattle.refer.specs.Refer.{reference_rows, leads}
use Rattle.refer.specs.declared.Row.{Row}
use Rattle.tree.specs.Tree.{Among}
use Rattle.methods.specs.Methods.{coefficients}
use Rattle.place.specs.Judge.{all_inside}
use Rattle.place.specs.Walk.{placement}
use Rattle.objects.specs.Object.{layout_of, ground_of, need_of, mask_fits, places_of, elements_of}
use Rattle.number.specs.Below.{sum_below}
use Rattle.tables.specs.declared.setting.Setting.{Setting}
use Rattle.build.specs.Build.{built}

-- how many elements all objects have
abbrev pub all_elements : List ℕ → ℕ → List ℕ → List (List (List ℕ)) → ℕ
all_elements image base x d = sum_below (count d object) (elements_of image base x (view d))

-- the records d, read from the description x, keep the rules of the stages after the text, with an image at a base address
pub record Accepted (image : List ℕ) (base : ℕ) (x : List ℕ) (d : List (List (List ℕ))) : Type 0 where
  -- "a reference that leads nowhere stops the load": each that is there, its place past the last byte not 0, leads somewhere
  pub references : (r : Row) → Among r reference_rows → (i : ℕ) → i < count d r.sec → (slot d r.sec i (r.slot + 1) ≡ 0 → ⊥)
      → leads x (view d) r (slot d r.sec i r.slot) (slot d r.sec i (r.slot + 1)) ≡ true
  -- "then conversions": every method has its coefficients
  pub conversions : (i : ℕ) → i < count d method → is_given (coefficients (view d) i) ≡ true
  -- "mask breaks its rule" (11)
  pub masks : (i : ℕ) → i < count d object → mask_fits x (view d) i ≡ true
  -- "each object's layout (11) .. counts (12, 13)": every part has its place
  pub places : (i : ℕ) → i < count d object → is_given (placement (ground_of x (view d) base i) (need_of image base x (view d) i) image (layout_of x (view d) i)) ≡ true
  -- "element bytes (12)"
  pub bytes : (i : ℕ) → i < count d object → all_inside image base (need_of image base x (view d) i) (layout_of x (view d) i) (places_of image base x (view d) i) ≡ true
  -- "4,096 elements in all objects"
  pub elements : all_elements image base x d ≤ most_elements

-- the description x is read and accepted, and D are the tables' records of it
pub record Taken (image : List ℕ) (setting : Setting) (x : List ℕ) (D : List (List (List ℕ))) : Type 0 where
  pub records : List (List (List ℕ))
  pub is_read : read x ≡ given records
  pub accepted : Accepted image setting.base x records
  pub is_built : D ≡ built image setting x (view records) (all_elements image setting.base x records)
