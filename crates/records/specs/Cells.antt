-- The same records in the cells of one lent slice: for each section the number of its records, then room for the most of them.
use Rattle.std.specs.Prelude.{ℕ, zero, suc, ◌+◌, ◌-◌, ◌*◌, min, List, [], ◌∷◌, ◌++◌, cond, ◌&&◌, length, get_or, set, replicate, ltb}
use Rattle.records.specs.Records.{Sec, width_of, most_of}
use Rattle.records.specs.declared.Section.{Section}

-- the records one after the other
abbrev pub joined : List (List ℕ) → List ℕ
joined [] = []
joined (r ∷ rs) = r ++ joined rs

-- a section's cells: the number of records, the records, zeros
abbrev pub part : Sec → List (List ℕ) → List ℕ
part s d = length d ∷ joined d ++ replicate (s.width * s.most - s.width * length d) 0

abbrev pub size : Sec → ℕ
size s = 1 + s.width * s.most

-- where section j begins
abbrev pub base_in : List Sec → ℕ → ℕ
base_in ss zero = 0
base_in [] (suc j) = 0
base_in (s ∷ ss) (suc j) = size s + base_in ss j

-- how many cells all sections take
abbrev pub room : List Sec → ℕ
room ss = base_in ss (length ss)

-- the sections one after the other, and then z
abbrev pub whole : List Sec → List (List (List ℕ)) → List ℕ → List ℕ
whole [] ds z = z
whole (s ∷ ss) [] z = z
whole (s ∷ ss) (d ∷ ds) z = part s d ++ whole ss ds z

-- the records in n cells, zeros after them
unfoldable pub encode : List Sec → ℕ → List (List (List ℕ)) → List ℕ
encode ss n d = whole ss d (replicate (n - room ss) 0)

-- section j as the code has it
abbrev pub section_in : List Sec → ℕ → Section
section_in ss j = record { base = base_in ss j; width = width_of ss j; most = most_of ss j }

-- ---- the operations on cells, for contracts of functions on the slice

abbrev pub place : Section → ℕ → ℕ → ℕ
place c i k = c.base + (1 + c.width * i + k)

unfoldable pub count_in : List ℕ → Section → ℕ
count_in t c = min (get_or t c.base 0) c.most

unfoldable pub slot_in : List ℕ → Section → ℕ → ℕ → ℕ
slot_in t c i k = cond (ltb i c.most && ltb k c.width) (get_or t (place c i k) 0) 0

unfoldable pub put_in : List ℕ → Section → ℕ → ℕ → ℕ → List ℕ
put_in t c i k v = cond (ltb i (count_in t c) && ltb k c.width) (set t (place c i k) v) t

unfoldable pub add_in : List ℕ → Section → List ℕ
add_in t c = cond (ltb (count_in t c) c.most) (set t c.base (count_in t c + 1)) t
