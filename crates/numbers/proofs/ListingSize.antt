-- A listing has less than 2^63 bytes: at most 4,096 lines of at most 2^26 bytes.
use Prim.Native.Nat.{ℕ, zero, suc, ◌+◌, ◌*◌, ◌/◌, ◌%◌, ◌^◌, ◌≤◌, ◌<◌}
use mathlib.Core.Path.{◌≡◌, refl, ap}
use mathlib.Core.List.{List, [], ◌∷◌, ◌++◌}
use mathlib.Core.Bool.{Bool, true, false, cond}
use native.Mathlib.Omega.{arith}
use lib.Dec.{eqb, leb, ltb}
use lib.IntN.{ℤ, pos, negsuc, nat_abs}
use lib.ListN.{length, get_or, length-append, length-take, length-drop}
use Rattle.number.specs.Answer.{given, refused}
use Rattle.number.specs.Most.{most_elements}
use Rattle.tables.specs.Form.{object_section, group_section, tables_in}
use Rattle.number.specs.Below.{sum_below}
use Rattle.tables.specs.Group.{elements}
use Rattle.look.specs.Calls.{Kept, checked, has_room, lent_by}
use Rattle.print.specs.Print.{figures_of, signed, slice}
use Rattle.listing.specs.Print.{physical, line, header}
use Rattle.listing.specs.Listing.{Columns, columns_of, name_of, printed_line, printed_part, printed_below, printed, listed_by, if_fits, kept_no, listing}
use Rattle.listing.proofs.ListingLaws.{kept-text, kept-lines, kept-passed, kept-refused}
use Rattle.numbers.specs.Numbers.{held_count}

-- ---- one line
figures-few : (f n : ℕ) → length (figures_of f n) ≤ f
unfolding figures_of
figures-few zero n = omega arith
figures-few (suc f) n = by-test (ltb n 10) (figures-few f (n / 10))
  where
    by-test : (b : Bool) → length (figures_of f (n / 10)) ≤ f → length (cond b ((48 + n) ∷ []) (figures_of f (n / 10) ++ ((48 + n % 10) ∷ []))) ≤ suc f
    by-test true h = omega arith
    by-test false h = simp length-append (omega arith)

signed-few : (z : ℤ) → length (signed z) ≤ 21
signed-few (pos n) = let h = figures-few 20 n in omega arith
signed-few (negsuc n) = let h = figures-few 20 (suc n) in omega arith

slice-few : (x : List ℕ) (a e : ℕ) → length (slice x a e) ≤ length x
slice-few x a e = simp (length-take, length-drop) (omega arith)

physical-few : (x : List ℕ) (s : ℕ) (n d : ℤ) → length (physical x s n d) ≤ length x + 43
unfolding physical
physical-few x s n d = by_state (eqb s 1) (eqb s 2)
  where
    by_state : (b c : Bool) → length (cond b (signed n ++ (47 ∷ signed d)) (cond c (slice x (nat_abs n) (nat_abs d)) (45 ∷ []))) ≤ length x + 43
    by_state true c = let h = signed-few n in let k = signed-few d in simp length-append (omega arith)
    by_state false true = let h = slice-few x (nat_abs n) (nat_abs d) in omega arith
    by_state false false = omega arith

line-few : (x name : List ℕ) (p i : ℕ) (raw : ℤ) (value : List ℕ) → length (line x name p i raw value) ≤ length name + length value + 48
unfolding line
line-few x name p i raw value =
    let h = figures-few 20 i in
    let k = signed-few raw in
    simp length-append (omega arith)

module _ (x t : List ℕ) (k : Columns) (h : length x ≤ 2 ^ 24) where
  at-few : (g i n : ℕ) → length (printed_line x t k g i n) ≤ 2 ^ 26
  unfolding printed_line
  at-few g i n =
      let v = physical x (get_or k.state n 0) (get_or k.first n (pos 0)) (get_or k.second n (pos 0)) in
      let a = line-few x (name_of x t k g) (g % 3) i (get_or k.raw n (pos 0)) v in
      let b : length (name_of x t k g) ≤ length x = slice-few x ((tables_in t).slots object_section (g / 3) 0) ((tables_in t).slots object_section (g / 3) 1) in
      let c : length v ≤ length x + 43 = physical-few x (get_or k.state n 0) (get_or k.first n (pos 0)) (get_or k.second n (pos 0)) in
      omega (arith, a, b, c)

  -- ---- all lines
  part-few : (g i : ℕ) → length (printed_part x t k g i) ≤ i * 2 ^ 26
  unfolding printed_part
  part-few g zero = omega arith
  part-few g (suc i) =
      let a = part-few g i in
      let b = at-few g i (sum_below g (elements (tables_in t)) + i) in
      simp length-append (omega arith)

  below-few : (g : ℕ) → length (printed_below x t k g) ≤ sum_below g (elements (tables_in t)) * 2 ^ 26
  unfolding printed_below sum_below
  below-few zero = omega arith
  below-few (suc g) =
      let a = below-few g in
      let b = part-few g (elements (tables_in t) g) in
      simp length-append (omega arith)

  header-few : length header ≡ 29
  unfolding header
  header-few = refl

  printed-few : sum_below ((tables_in t).counts group_section) (elements (tables_in t)) ≤ most_elements → length (printed x t k) < 2 ^ 63
  unfolding printed
  printed-few s =
      let a = below-few ((tables_in t).counts group_section) in
      let b = header-few in
      simp length-append (omega arith)

-- ---- so 63 bits hold what a listing answers
module _ (x t : List ℕ) (base : ℕ) (k : Kept) (out : List ℕ) where
  of-count : (n : ℕ) → n < 2 ^ 63 → held_count (given n) ≡ given n
  of-count n h = let e : n % 9223372036854775808 ≡ n = omega arith in ap given e

  if-fits : (b : List ℕ) → length b < 2 ^ 63 → held_count (listed_by (if_fits b out) out).answer ≡ (listed_by (if_fits b out) out).answer
  if-fits b h = by-test (leb (length b) (length out))
    where
      by-test : (c : Bool) → held_count (listed_by (cond c (given b) (refused 20)) out).answer ≡ (listed_by (cond c (given b) (refused 20)) out).answer
      by-test true = of-count (length b) h
      by-test false = refl

  pub count_held : held_count (listing x t base k out).answer ≡ (listing x t base k out).answer
  unfolding listing
  count_held = by-no (kept_no (length x) t base k) refl
    where
      by-no : (n : ℕ) → n ≡ kept_no (length x) t base k
          → held_count (listed_by (checked t (lent_by (length x) base k) (has_room t k) (if_fits (printed x t (columns_of k)) out)) out).answer ≡ (listed_by (checked t (lent_by (length x) base k) (has_room t k) (if_fits (printed x t (columns_of k)) out)) out).answer
      by-no zero e =
          rw (kept-passed x t base k 0 e refl (if_fits (printed x t (columns_of k)) out))
          (if-fits (printed x t (columns_of k)) (printed-few x t (columns_of k) (kept-text x t base k 0 e refl) (kept-lines x t base k 0 e refl)))
      by-no (suc n) e = rw (← kept-refused x t base k (suc n) e (if_fits (printed x t (columns_of k)) out) (λ z. omega arith))
