-- THE SECOND DEMAND: "a physical write stores the whole number nearest to what the conversion asks, by the edition's rule on halves, or is refused", to an element of an
-- accepted load, by the limits, the conversion, the data type and the mask that the description gives it.
--     physical-stored     an accepted physical write
use Prim.Native.Nat.{ℕ, ◌<◌}
use mathlib.Core.Path.{◌≡◌, refl}
use mathlib.Core.List.{List}
use mathlib.Core.Bool.{true}
use lib.ListN.{length, get_or}
use Rattle.number.specs.Answer.{given}
use Rattle.records.specs.Records.{count}
use Rattle.rows.specs.Sections as records
use Rattle.grammar.specs.Move.{view}
use Rattle.objects.specs.Object.{layout_of, need_of}
use Rattle.tables.specs.declared.setting.Setting.{Setting}
use Rattle.tables.specs.Form.{tables_in}
use Rattle.tables.specs.Group.{group_of}
use Rattle.keeps.specs.Stands.{Part, number_of, needed}
use Rattle.look.specs.Calls.{Kept, reading_of, physical_text, request, writing}
use Rattle.demands.specs.Rules.{Fits, Keeps}
use Rattle.demands.specs.Writings.{Stored}
use Rattle.demands.proofs.Loaded as loaded
use Rattle.demands.proofs.Standing.{part_held}
use Rattle.demands.proofs.Meaning.{writes-nearest}
use Rattle.demands.proofs.Valued.{asked_by}

pub physical-stored : (x image : List ℕ) (setting : Setting) (lent work : List ℕ) (f : Fits x image setting lent work) (k : Keeps x image setting.base) (i : ℕ) → i < count k.records records.object → (p : Part)
    → needed (need_of image setting.base x (view k.records) i) p ≡ true → (c : Kept) → ((j : ℕ) → get_or c.image j 0 < 256) → (j : ℕ) (s : List ℕ)
    → (writing (loaded.t x image setting lent work f k) (length x) setting.base c (request i (number_of p) j (physical_text s))).answer ≡ given tt
    → Stored setting.edition x (view k.records) i (layout_of x (view k.records) i) p j s (loaded.t x image setting lent work f k) (length x) setting.base
    (writing (loaded.t x image setting lent work f k) (length x) setting.base c (request i (number_of p) j (physical_text s))).left
physical-stored x image setting lent work f k i l p e c b j s h =
    let t = loaded.t x image setting lent work f k in
    let w = writes-nearest t (length x) setting.base c i (number_of p) j s b h in
    let g = group_of i (number_of p) in
    let a = asked_by x image setting lent work f k i l p e w.plain in
    let q = part_held x image setting lent work f k i l p e in
    record {
      raw = w.raw;
      coefficients = a.0;
      by = a.1;
      nearest = rw (loaded.edition-of x image setting lent work f k, q.lower, q.upper, a.2, q.stands.type, q.masked) at w.nearest;
      answer = reading_of (tables_in t) g w.raw;
      is_read = w.read_back;
      is_raw = refl;
      is_limited = rw (q.lower, q.upper) at w.limited;
    }
