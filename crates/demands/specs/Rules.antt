-- What a load asks for, in all: what is lent, the text, and what the text says of the image.
use Rattle.std.specs.Prelude.{ℕ, ◌+◌, ◌*◌, ◌^◌, ◌≤◌, ◌<◌, ◌≡◌, List, true, false, ◌⊎◌, length}
use Rattle.number.specs.Most.{most_elements}
use Rattle.records.specs.Records.{count, slot}
use Rattle.rows.specs.Sections.{method, object}
use Rattle.rows.specs.Slots.{bit_mask_seen, bit_mask}
use Rattle.grammar.specs.Move.{View, view}
use Rattle.cell.specs.Kind.{shape_of}
use Rattle.cell.specs.declared.kind.Shape.{Shape}
use Rattle.convert.specs.Edition.{edition_one, edition_two}
use Rattle.tables.specs.declared.setting.Setting.{Setting}
use Rattle.refer.specs.Refer.{reference_rows}
use Rattle.refer.specs.declared.Row.{Row}
use Rattle.place.specs.declared.walk.Places.{Places}
use Rattle.objects.specs.Object.{layout_of, ground_of, need_of}
use Rattle.tree.specs.Tree.{Among, Records, Description}
use Rattle.keeps.specs.Accepted.{all_elements}
use Rattle.keeps.specs.Stands.{Part, needed, address_of, type_of, across_of, down_of}
use Rattle.demands.specs.Leads.{Leads}
use Rattle.demands.specs.Conversions.{MethodKeeps}
use Rattle.demands.specs.Placed.{ObjectPlaced}

-- "At most 16 MiB of description, 1 MiB of image, base address plus image length 2^32"; "A table is too short (20) below its full capacity":
-- the tables take 36,617 cells, the work of a load 42,578. "The load takes the edition, 1 or 2"
pub record Fits (x image : List ℕ) (setting : Setting) (tables work : List ℕ) : Type 0 where
  pub text_fits : length x ≤ 2 ^ 24
  pub image_fits : length image ≤ 2 ^ 20
  pub ends_below : setting.base + length image ≤ 2 ^ 32
  pub tables_fit : 36617 ≤ length tables
  pub work_fits : 42578 ≤ length work
  pub an_edition : (setting.edition ≡ edition_one) ⊎ (setting.edition ≡ edition_two)

-- "BIT_MASK: unsigned types only, not zero, within the type."
pub record MaskKeeps (t : Shape) (mask : ℕ) : Type 0 where
  pub unsigned : t.signed ≡ false
  pub some : 0 < mask
  pub inside : mask < 256 ^ t.bytes

-- object i keeps the rules with the image at its base address
pub record ObjectKeeps (image : List ℕ) (base : ℕ) (x : List ℕ) (v : View) (i : ℕ) : Type 0 where
  -- where it has a mask, the mask keeps its rule
  pub mask : (v.slots object i bit_mask_seen ≡ 0 → ⊥) → MaskKeeps (shape_of (layout_of x v i).values.kind) (v.slots object i bit_mask)
  -- its layout places its parts (11), and stored counts are read from the image (12, 13)
  pub places : Places
  pub placed : ObjectPlaced (ground_of x v base i) (need_of image base x v i) image places (layout_of x v i)
  -- "a byte outside the image" (12): every part's elements are inside
  pub bytes : (p : Part) → needed (need_of image base x v i) p ≡ true
      → (base ≤ address_of places p) × (address_of places p + (shape_of (type_of (layout_of x v i) p)).bytes * (across_of places p * down_of places p) ≤ base + length image)

-- "A description with its image .. keeps the written rules": the text x has a tree of the grammar, and the records that the tree makes keep the rules
pub record Keeps (x image : List ℕ) (base : ℕ) : Type 0 where
  pub records : Records
  pub tree : Description x records
  -- "a reference that leads nowhere stops the load": each that is there, its place past the last byte not 0, leads somewhere (refer, `reference_rows`: which slots
  -- hold references, and to what)
  pub references : (r : Row) → Among r reference_rows → (i : ℕ) → i < count records r.sec → (slot records r.sec i (r.slot + 1) ≡ 0 → ⊥)
      → Leads x (view records) r (slot records r.sec i r.slot) (slot records r.sec i (r.slot + 1))
  -- every method keeps the rule on its coefficients (10)
  pub conversions : (i : ℕ) → i < count records method → MethodKeeps (view records) i
  pub objects : (i : ℕ) → i < count records object → ObjectKeeps image base x (view records) i
  -- "4,096 elements in all objects"
  pub elements : all_elements image base x records ≤ most_elements
