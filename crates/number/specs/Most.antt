-- Document 01's limits, each once and by name: "512 objects, 128 methods, 128 verbal tables, 64 layouts; 1,024 verbal entries in all tables;
-- 4,096 elements in all objects".
use Rattle.std.specs.Prelude.{ℕ, ◌*◌}

abbrev pub most_objects : ℕ
most_objects = 512

abbrev pub most_methods : ℕ
most_methods = 128

abbrev pub most_tables : ℕ
most_tables = 128

abbrev pub most_layouts : ℕ
most_layouts = 64

abbrev pub most_entries : ℕ
most_entries = 1024

abbrev pub most_elements : ℕ
most_elements = 4096

-- an object has three parts, and at most two axis descriptions
abbrev pub most_groups : ℕ
most_groups = 3 * most_objects

abbrev pub most_axes : ℕ
most_axes = 2 * most_objects

-- a part's points, or room, in x or in y: no more than there are elements
abbrev pub most_points : ℕ
most_points = most_elements
