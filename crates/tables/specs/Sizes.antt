-- "20: a lent buffer is too short, text or image too long, or base plus image above 2^32"
use Rattle.std.specs.Prelude.{ℕ, ◌+◌, ◌^◌, Bool, ◌&&◌, leb}
use Rattle.records.specs.Cells.{room}
use Rattle.tables.specs.Form.{table_sections}

-- "At most 16 MiB of description, 1 MiB of image, base address plus image length 2^32"; "A table is too short (20) below its full capacity":
-- n bytes of description, m of image at a base address, so many cells of tables
unfoldable pub sizes_fit : ℕ → ℕ → ℕ → ℕ → Bool
sizes_fit n m base cells = leb n (2 ^ 24) && leb m (2 ^ 20) && leb (base + m) (2 ^ 32) && leb (room table_sections) cells
