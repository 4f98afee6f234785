-- Rows put into the cells of some records are rows appended to the records.
--     rows-encode     the cells of a section's records, and rows put after them
--     good-rows       what keeps Good
use Prim.Native.Nat.{ℕ, zero, suc, ◌+◌, ◌-◌, ◌≤◌, ◌<◌}
use mathlib.Core.Path.{◌≡◌, refl, sym, ◌∙◌, ap, subst}
use mathlib.Core.List.{List, [], ◌∷◌, ◌++◌, append_assoc, append-nil}
use mathlib.Core.Bool.{Bool, true, false, cond}
use native.Mathlib.Omega.{arith}
use native.Mathlib.Nat.{add-zero, zero-add}
use borrow.Author.Tests.{lt-ltb}
use lib.Dec.{ltb}
use lib.ListN.{length, get_or, set, replicate, length-append, length-set, length-replicate}
use lib.Seq.{set-set, set-get_or, get_or-set_same}
use Rattle.records.specs.Records.{Sec, no_sec, width_of, most_of, records_of, count, put, add}
use Rattle.records.specs.Cells.{encode, section_in, count_in, put_in, add_in}
use Rattle.records.proofs.Encode.{Good, Wide, count-encode, put-encode, add-encode, good-put, good-add}
use Rattle.grammar.specs.Move.{puts}
use Rattle.tables.specs.Form.{table_sections}
use Rattle.build.specs.Row.{puts_at, opened, row_in, rows_in}

-- ---- lists

set_last : {A : Type 0} (l : List A) (a b : A) → set (l ++ (a ∷ [])) (length l) b ≡ l ++ (b ∷ [])
set_last [] a b = refl
set_last (x ∷ xs) a b = ap (λ l. x ∷ l) (set_last xs a b)

pub get-last : {A : Type 0} (l : List A) (a z : A) → get_or (l ++ (a ∷ [])) (length l) z ≡ a
get-last [] a z = refl
get-last (x ∷ xs) a z = get-last xs a z

-- numbers set from place k on
abbrev sets : List ℕ → ℕ → List ℕ → List ℕ
sets r k [] = r
sets r k (v ∷ vs) = sets (set r k v) (suc k) vs

sets-cons : (a : ℕ) (r : List ℕ) (k : ℕ) (vs : List ℕ) → sets (a ∷ r) (suc k) vs ≡ a ∷ sets r k vs
sets-cons a r k [] = refl
sets-cons a r k (v ∷ vs) = sets-cons a (set r k v) (suc k) vs

-- a row of zeros, all of it set
sets-all : (vs r : List ℕ) → length r ≡ length vs → sets r 0 vs ≡ vs
sets-all [] [] h = refl
sets-all [] (x ∷ r) h = absurd (omega arith)
sets-all (v ∷ vs) [] h = absurd (omega arith)
sets-all (v ∷ vs) (x ∷ r) h = sets-cons v r 0 vs ∙ ap (λ l. v ∷ l) (sets-all vs r (omega arith))

-- ---- records

-- numbers put into record i of section j: the record with the numbers set
puts-is : (d : List (List (List ℕ))) (j i k : ℕ) (vs : List ℕ) → j < length d → i < length (records_of d j)
    → puts d j i k vs ≡ set d j (set (records_of d j) i (sets (get_or (records_of d j) i []) k vs))
puts-is d j i k [] hj hi = sym (rw (set-get_or (records_of d j) i []) (set-get_or d j []))
puts-is d j i k (v ∷ vs) hj hi =
    let r : List (List ℕ) = records_of d j in
    let x : List ℕ = set (get_or r i []) k v in
    let e : records_of (put d j i k v) j ≡ set r i x = get_or-set_same d j (set r i x) [] hj in
    let f : get_or (set r i x) i [] ≡ x = get_or-set_same r i x [] hi in
    let lj : j < length (put d j i k v) = rw (length-set d j (set r i x)) hj in
    let li : i < length (records_of (put d j i k v) j) = rw (e, length-set r i x) hi in
    puts-is (put d j i k v) j i (suc k) vs lj li
    ∙ rw (e, f, set-set r i x (sets x (suc k) vs), set-set d j (set r i x) (set r i (sets x (suc k) vs)))

-- rows after the records of section j
abbrev pub appended : List (List (List ℕ)) → ℕ → List (List ℕ) → List (List (List ℕ))
appended d j rs = set d j (records_of d j ++ rs)

-- a record of zeros is added, and all its numbers are put
row_is : (d : List (List (List ℕ))) (j : ℕ) (vs : List ℕ) → j < length d → count d j < most_of table_sections j → length vs ≡ width_of table_sections j
    → puts (add table_sections d j) j (count d j) 0 vs ≡ appended d j (vs ∷ [])
row_is d j vs hj hc hw =
    let r : List (List ℕ) = records_of d j in
    let z : List ℕ = replicate (width_of table_sections j) 0 in
    let a : add table_sections d j ≡ set d j (r ++ (z ∷ [])) = rw (lt-ltb (count d j) (most_of table_sections j) hc) in
    let e : records_of (set d j (r ++ (z ∷ []))) j ≡ r ++ (z ∷ []) = get_or-set_same d j (r ++ (z ∷ [])) [] hj in
    let lj : j < length (set d j (r ++ (z ∷ []))) = rw (length-set d j (r ++ (z ∷ []))) hj in
    let li : length r < length (records_of (set d j (r ++ (z ∷ []))) j) = rw (e, length-append r (z ∷ [])) (omega arith) in
    let w : length z ≡ length vs = length-replicate (width_of table_sections j) 0 ∙ sym hw in
    rw a (puts-is (set d j (r ++ (z ∷ []))) j (length r) 0 vs lj li
    ∙ rw (e, get-last r z [], sets-all vs z w, set_last r z vs, set-set d j (r ++ (z ∷ [])) (r ++ (vs ∷ []))))

-- ---- cells

module _ (n : ℕ) where
  puts-encode : (d : List (List (List ℕ))) → Good table_sections d → (j i k : ℕ) (vs : List ℕ) → puts_at (encode table_sections n d) j i k vs ≡ encode table_sections n (puts d j i k vs)
  unfolding puts_at
  puts-encode d g j i k [] = refl
  puts-encode d g j i k (v ∷ vs) = rw (put-encode table_sections n d g j i k v) (puts-encode (put d j i k v) (good-put table_sections n d g j i k v) j i (suc k) vs)

good-puts : (d : List (List (List ℕ))) → Good table_sections d → (j i k : ℕ) (vs : List ℕ) → Good table_sections (puts d j i k vs)
good-puts d g j i k [] = g
good-puts d g j i k (v ∷ vs) = good-puts (put d j i k v) (good-put table_sections 0 d g j i k v) j i (suc k) vs

module _ (d : List (List (List ℕ))) (g : Good table_sections d) (j : ℕ) (vs : List ℕ) (hj : j < length d) (hc : count d j < most_of table_sections j) (hw : length vs ≡ width_of table_sections j) where
  good-row : Good table_sections (appended d j (vs ∷ []))
  good-row = rw (row_is d j vs hj hc hw) at (good-puts (add table_sections d j) (good-add table_sections 0 d g j) j (count d j) 0 vs)

  row-encode : (n : ℕ) → row_in (encode table_sections n d) j vs ≡ encode table_sections n (appended d j (vs ∷ []))
  unfolding row_in
  row-encode n =
      rw (count-encode table_sections n d g j, add-encode table_sections n d g j)
      (puts-encode n (add table_sections d j) (good-add table_sections n d g j) j (count d j) 0 vs ∙ ap (encode table_sections n) (row_is d j vs hj hc hw))

-- what rows ask of a section: it is there, it is as wide as they are, and it has room for them
pub record Fits (d : List (List (List ℕ))) (j : ℕ) (rs : List (List ℕ)) : Type 0 where
  pub there : j < length d
  pub wide : Wide (width_of table_sections j) rs
  pub few : count d j + length rs ≤ most_of table_sections j

-- the first row, and then the rest
rest-fits : (d : List (List (List ℕ))) (j : ℕ) (r : List ℕ) (rs : List (List ℕ)) → Fits d j (r ∷ rs) → Fits (appended d j (r ∷ [])) j rs
rest-fits d j r rs f =
    let e : records_of (appended d j (r ∷ [])) j ≡ records_of d j ++ (r ∷ []) = get_or-set_same d j (records_of d j ++ (r ∷ [])) [] f.there in
    let l : count (appended d j (r ∷ [])) j ≡ count d j + 1 = ap length e ∙ length-append (records_of d j) (r ∷ []) in
    record { there = rw (length-set d j (records_of d j ++ (r ∷ []))) f.there; wide = f.wide.1; few = omega (arith, f.few) }

-- one row and then more are all of them
appended-on : (d : List (List (List ℕ))) (j : ℕ) (r : List ℕ) (rs : List (List ℕ)) → j < length d → appended (appended d j (r ∷ [])) j rs ≡ appended d j (r ∷ rs)
appended-on d j r rs h =
    rw (get_or-set_same d j (records_of d j ++ (r ∷ [])) [] h, append_assoc (records_of d j) (r ∷ []) rs) (set-set d j (records_of d j ++ (r ∷ [])) (records_of d j ++ (r ∷ rs)))

pub good-rows : (d : List (List (List ℕ))) (j : ℕ) (rs : List (List ℕ)) → Good table_sections d → Fits d j rs → Good table_sections (appended d j rs)
good-rows d j [] g f = rw (append-nil (records_of d j), set-get_or d j []) g
good-rows d j (r ∷ rs) g f =
    rw (appended-on d j r rs f.there) at
    (good-rows (appended d j (r ∷ [])) j rs (good-row d g j r f.there (omega (arith, f.few)) f.wide.0) (rest-fits d j r rs f))

pub rows-encode : (n : ℕ) (d : List (List (List ℕ))) (j : ℕ) (rs : List (List ℕ)) → Good table_sections d → Fits d j rs → rows_in (encode table_sections n d) j rs ≡ encode table_sections n (appended d j rs)
unfolding rows_in
rows-encode n d j [] g f = ap (encode table_sections n) (sym (rw (append-nil (records_of d j)) (set-get_or d j [])))
rows-encode n d j (r ∷ rs) g f =
    let h : count d j < most_of table_sections j = omega (arith, f.few) in
    rw (row-encode d g j r f.there h f.wide.0 n)
    (rows-encode n (appended d j (r ∷ [])) j rs (good-row d g j r f.there h f.wide.0) (rest-fits d j r rs f)
    ∙ ap (encode table_sections n) (appended-on d j r rs f.there))
