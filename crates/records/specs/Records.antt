-- Records of numbers, in sections: for each section a list of records, each a list of as many numbers as the section is wide.
use Rattle.std.specs.Prelude.{ℕ, List, [], ◌∷◌, ◌++◌, cond, length, get_or, set, replicate, ltb}

-- a section: how many numbers a record has, and how many records there are at most
pub record Sec : Type 0 where
  pub width : ℕ
  pub most : ℕ

abbrev pub no_sec : Sec
no_sec = record { width = 0; most = 0 }

abbrev pub width_of : List Sec → ℕ → ℕ
width_of ss j = (get_or ss j no_sec).width

abbrev pub most_of : List Sec → ℕ → ℕ
most_of ss j = (get_or ss j no_sec).most

-- the records of section j
abbrev pub records_of : List (List (List ℕ)) → ℕ → List (List ℕ)
records_of d j = get_or d j []

-- how many records section j has
abbrev pub count : List (List (List ℕ)) → ℕ → ℕ
count d j = length (records_of d j)

-- number k of record i of section j, 0 where there is none
abbrev pub slot : List (List (List ℕ)) → ℕ → ℕ → ℕ → ℕ
slot d j i k = get_or (get_or (records_of d j) i []) k 0

-- the same set to v, and nothing where there is none
abbrev pub put : List (List (List ℕ)) → ℕ → ℕ → ℕ → ℕ → List (List (List ℕ))
put d j i k v = set d j (set (records_of d j) i (set (get_or (records_of d j) i []) k v))

-- one record more, of zeros, where there is room
abbrev pub add : List Sec → List (List (List ℕ)) → ℕ → List (List (List ℕ))
add ss d j = cond (ltb (count d j) (most_of ss j)) (set d j (records_of d j ++ (replicate (width_of ss j) 0 ∷ []))) d

-- no record in any section
abbrev pub empty : List Sec → List (List (List ℕ))
empty ss = replicate (length ss) []
