-- The sections of the records that are read from a description. Slots.antt names the slots of a record of each.
use Rattle.std.specs.Prelude.{ℕ, List, [], ◌∷◌}
use Rattle.number.specs.Most.{most_objects, most_methods, most_tables, most_layouts, most_entries, most_axes}
use Rattle.records.specs.Records.{Sec}

abbrev pub file : ℕ
file = 0

abbrev pub method : ℕ
method = 1

abbrev pub table : ℕ
table = 2

abbrev pub entry : ℕ
entry = 3

abbrev pub layout : ℕ
layout = 4

abbrev pub object : ℕ
object = 5

abbrev pub axis : ℕ
axis = 6

-- no section
abbrev pub none : ℕ
none = 7

-- "512 objects, 128 methods, 128 verbal tables, 64 layouts; 1,024 verbal entries in all tables"; an object has at most two axes
unfoldable pub sections : List Sec
sections =
    record { width = 11; most = 1 }
    ∷ record { width = 28; most = most_methods }
    ∷ record { width = 9; most = most_tables }
    ∷ record { width = 4; most = most_entries }
    ∷ record { width = 31; most = most_layouts }
    ∷ record { width = 28; most = most_objects }
    ∷ record { width = 17; most = most_axes }
    ∷ []
