-- Rows put into the tables, by what the code does.
use Prim.Native.Nat.{ℕ, zero, suc, ◌+◌, ◌-◌, ◌≤◌, ◌<◌}
use mathlib.Core.Path.{◌≡◌, refl, sym, ◌∙◌, ap}
use mathlib.Core.List.{List, [], ◌∷◌, ◌++◌}
use Rattle.std.specs.Prelude.{Bool, min, leb, ltb}
use mathlib.Core.Bool.{true, false}
use Rattle.std.proofs.Math.Bool.{and-false}
use Rattle.std.proofs.lemmas.Bool.{le-ltb, leb-true, leb-false}
use Rattle.records.specs.declared.Section.{Section}
use Rattle.records.specs.Records.{width_of}
use native.Mathlib.Omega.{arith}
use native.Mathlib.Nat.{add-zero}
use native.Mathlib.Numerals.{add-one}
use borrow.Author.Rules.{rules}
use lib.ListN.{length, get_or, take}
use lib.Seq.{length-take-le, take-suc, take_all}
use Rattle.records.specs.Cells.{section_in, count_in, put_in, add_in}
use Rattle.grammar.proofs.ReadLaws.{length-put, length-add}
use Rattle.tables.specs.Form.{table_sections}
use Rattle.build.specs.Build.{rows_below}
use Rattle.build.specs.Row.{puts_at, opened, row_in, rows_in}

-- numbers, and then further ones
pub puts-on : (t : List ℕ) (j i k : ℕ) (xs ys : List ℕ) → puts_at t j i k (xs ++ ys) ≡ puts_at (puts_at t j i k xs) j i (k + length xs) ys
unfolding puts_at
puts-on t j i k [] ys = ap (λ n. puts_at t j i n ys) (sym (add-zero k))
puts-on t j i k (x ∷ xs) ys =
    let e : suc k + length xs ≡ k + suc (length xs) = omega arith in
    puts-on (put_in t (section_in table_sections j) i k x) j i (suc k) xs ys
    ∙ ap (λ n. puts_at (puts_at (put_in t (section_in table_sections j) i k x) j i (suc k) xs) j i n ys) e

-- ---- the number of cells stays

pub length-puts : (t : List ℕ) (j i k : ℕ) (vs : List ℕ) → length (puts_at t j i k vs) ≡ length t
unfolding puts_at
length-puts t j i k [] = refl
length-puts t j i k (v ∷ vs) = length-puts (put_in t (section_in table_sections j) i k v) j i (suc k) vs ∙ length-put t (section_in table_sections j) i k v

pub length-row : (t : List ℕ) (j : ℕ) (vs : List ℕ) → length (row_in t j vs) ≡ length t
unfolding row_in
length-row t j vs = length-puts (opened t j) j (count_in t (section_in table_sections j)) 0 vs ∙ length-add t (section_in table_sections j)

pub length-rows : (t : List ℕ) (j : ℕ) (rs : List (List ℕ)) → length (rows_in t j rs) ≡ length t
unfolding rows_in
length-rows t j [] = refl
length-rows t j (r ∷ rs) = length-rows (row_in t j r) j rs ∙ length-row t j r

-- ---- past a record's slots nothing is stored, so that one slot there is as good as another

past-width : (t : List ℕ) (c : Section) (i k v : ℕ) → c.width ≤ k → put_in t c i k v ≡ t
unfolding put_in
past-width t c i k v h = rw (le-ltb k c.width h, and-false (ltb i (count_in t c))) refl

modest : (j : ℕ) → width_of table_sections j ≤ 65535
unfolding table_sections
modest zero = omega arith
modest (suc zero) = omega arith
modest (suc (suc zero)) = omega arith
modest (suc (suc (suc zero))) = omega arith
modest (suc (suc (suc (suc zero)))) = omega arith
modest (suc (suc (suc (suc (suc zero))))) = omega arith
modest (suc (suc (suc (suc (suc (suc j)))))) = omega arith

put-past : (u : List ℕ) (j i k m v : ℕ) → m ≡ min k 65535 → put_in u (section_in table_sections j) i m v ≡ put_in u (section_in table_sections j) i k v
put-past u j i k m v e = go (leb k 65535) refl
  where
    go : (b : Bool) → leb k 65535 ≡ b → put_in u (section_in table_sections j) i m v ≡ put_in u (section_in table_sections j) i k v
    go true h = let d : m ≡ k = omega (arith, e, leb-true k 65535 h) in rw d refl
    go false h =
        let w : width_of table_sections j ≤ 65535 = modest j in
        let o : 65535 < k = leb-false k 65535 h in
        past-width u (section_in table_sections j) i m v (omega (arith, e, w, o)) ∙ sym (past-width u (section_in table_sections j) i k v (omega (arith, w, o)))

-- the first n numbers of vs are put
pub record Putting (t : List ℕ) (j i k : ℕ) (vs : List ℕ) (n : ℕ) (u : List ℕ) : Type 0 where
  pub long : length u ≡ length t
  pub is : u ≡ puts_at t j i k (take n vs)

module _ (t : List ℕ) (j i k : ℕ) (vs : List ℕ) where
  pub putting-start : Putting t j i k vs 0 t
  unfolding puts_at
  putting-start = record { long = refl; is = refl }

  pub putting-on : (n : ℕ) (u w : List ℕ) → Putting t j i k vs n u → n < length vs → w ≡ put_in u (section_in table_sections j) i (k + n) (get_or vs n 0) → Putting t j i k vs (n + 1) w
  unfolding puts_at
  putting-on n u w z h q =
      let l : length (take n vs) ≡ n = length-take-le n vs (omega arith) in
      let e : take (n + 1) vs ≡ take n vs ++ (get_or vs n 0 ∷ []) = rw (add-one n) (take-suc vs n 0 h) in
      let a : puts_at t j i k (take (n + 1) vs) ≡ put_in (puts_at t j i k (take n vs)) (section_in table_sections j) i (k + n) (get_or vs n 0) = rw (e, puts-on t j i k (take n vs) (get_or vs n 0 ∷ []), l) in
      record { long = ap length q ∙ length-put u (section_in table_sections j) i (k + n) (get_or vs n 0) ∙ z.long; is = q ∙ rw z.is (sym a) }

  -- m is the slot, or one past those of every record
  pub putting-past : (n m : ℕ) (u w : List ℕ) → Putting t j i k vs n u → n < length vs → m ≡ min (k + n) 65535 → w ≡ put_in u (section_in table_sections j) i m (get_or vs n 0) → Putting t j i k vs (n + 1) w
  putting-past n m u w z h e q = putting-on n u w z h (q ∙ put-past u j i (k + n) m (get_or vs n 0) e)

  pub putting-end : (n : ℕ) (u : List ℕ) → Putting t j i k vs n u → length vs ≤ n → u ≡ puts_at t j i k vs
  putting-end n u z h = z.is ∙ ap (puts_at t j i k) (take_all n vs h)

pub ruleset puttings = (putting-start, putting-on, putting-past, putting-end, rules)

-- a record is opened and its numbers are put
pub row_is : (j i : ℕ) (vs u u₁ u₂ : List ℕ) → i ≡ count_in u (section_in table_sections j) → u₁ ≡ opened u j → u₂ ≡ puts_at u₁ j i 0 vs → u₂ ≡ row_in u j vs
unfolding row_in
row_is j i vs u u₁ u₂ p q r = r ∙ rw (q, p)

pub ruleset rows = (row_is, rules)

-- ---- loops: u holds the rows of t's section j below i, of n

-- rows, and then further ones
pub rows_on : (t : List ℕ) (j : ℕ) (xs ys : List (List ℕ)) → rows_in t j (xs ++ ys) ≡ rows_in (rows_in t j xs) j ys
unfolding rows_in
rows_on t j [] ys = refl
rows_on t j (x ∷ xs) ys = rows_on (row_in t j x) j xs ys

pub record Rowing (t : List ℕ) (j n : ℕ) (f : ℕ → List ℕ) (i : ℕ) (u : List ℕ) : Type 0 where
  pub within : i ≤ n
  pub long : length u ≡ length t
  pub is : u ≡ rows_in t j (rows_below i f)

module _ (t : List ℕ) (j n : ℕ) (f : ℕ → List ℕ) where
  pub rowing_start : Rowing t j n f 0 t
  unfolding rows_in rows_below
  rowing_start = record { within = omega arith; long = refl; is = refl }

  pub rowing-on : (c i : ℕ) (u w : List ℕ) → Rowing t j n f i u → c ≡ n → i < c → w ≡ row_in u j (f i) → Rowing t j n f (i + 1) w
  unfolding rows_in rows_below
  rowing-on c i u w z e h q =
      record {
        within = omega arith;
        long = ap length q ∙ length-row u j (f i) ∙ z.long;
        is = q ∙ rw (z.is, add-one i) (sym (rows_on t j (rows_below i f) (f i ∷ [])));
      }

  pub rowing-end : (c i : ℕ) (u : List ℕ) → Rowing t j n f i u → c ≡ n → c ≤ i → u ≡ rows_in t j (rows_below n f)
  rowing-end c i u z e h = let d : i ≡ n = omega (arith, z.within) in rw d at z.is

pub ruleset rowings = (rowing_start, rowing-on, rowing-end, rules)
