-- The listing, by the loop and the branches that the code takes.
use Rattle.std.specs.Prelude.{Result, Ok, Err}
use Prim.Native.Nat.{ℕ, zero, suc, ◌+◌, ◌-◌, ◌*◌, ◌/◌, ◌%◌, ◌^◌, ◌≤◌, ◌<◌, min}
use mathlib.Core.Path.{◌≡◌, refl, sym, ◌∙◌}
use mathlib.Core.List.{List, [], ◌++◌, append_assoc, append-nil}
use mathlib.Core.Bool.{Bool, true, false, ◌&&◌}
use native.Mathlib.Nat.{zero-add}
use native.Mathlib.Numerals.{add-one}
use native.Mathlib.Omega.{arith}
use borrow.Author.Rules.{rules}
use borrow.Author.Tests.{leb-true, le-leb, lt-leb}
use lib.Dec.{leb}
use lib.IntN.{ℤ, pos}
use lib.Signed.{mag}
use mir.Syntax.{w64}
use mir.Val.{Fits, to_z, of_z}
use mir.Facts.{to_z-of_z}
use lib.ListN.{length, get_or, get_or-eq_default}
use lib.Seq.{sets-eq}
use Rattle.number.specs.Answer.{Answer, refused}
use Rattle.number.specs.Most.{most_elements}
use Rattle.records.specs.Cells.{section_in, slot_in}
use Rattle.records.specs.Cells as cells
use Rattle.tables.specs.Form.{table_sections, object_section, group_section, tables_in, total}
use Rattle.number.specs.Below.{sum_below}
use Rattle.tables.specs.Group.{group_of, elements, line_of}
use Rattle.tables.specs.Rule.{keeps_rule}
use Rattle.tables.specs.Sizes.{sizes_fit}
use Rattle.tables.proofs.All.{left}
use Rattle.tables.proofs.GroupLaws.{elements-most}
use Rattle.tables.proofs.LoopLaws.{sum-on, sum-small}
use Rattle.tables.proofs.Reading.{total-is, total-most}
use Rattle.look.specs.Element.{past_records}
use Rattle.look.proofs.CheckLaws.{some_number, checked_refused, checked-tests, checked-passed, group-is}
use Rattle.look.specs.Calls.{is_element, Kept, kept, lent_of, lent_by, unless, checked, has_room}
use Rattle.look.specs.Steps.{checked_no}
use Rattle.print.specs.Print.{slice}
use Rattle.print.specs.Put.{put, Put}
use Rattle.print.proofs.PutLaws.{put-none, put_then, length-put}
use Rattle.look.specs.Refused.{refusal_number}
use Rattle.look.specs.declared.refusal.CallRefusal.{CallRefusal}
use Rattle.look.specs.declared.refusal.CallRefusal.TheVariants as no
use Rattle.listing.specs.Print.{physical, line, header}
use Rattle.look.specs.Lines.{laid_over}
use Rattle.listing.specs.Listing.{Columns, columns, columns_of, kept_no, printing, printed_line, printed_part, printed_below, printed, listed_by, listed_of, if_fits, listing}

-- ---- columns

pub number_past : (l : List ℤ) (k : ℕ) → length l ≤ k → pos 0 ≡ get_or l k (pos 0)
number_past l k h = sym (get_or-eq_default l (pos 0) h)

-- a number of a column is the same where a call is given it
pub given_back : {z : ℤ} → mag z < 2 ^ 63 → to_z w64 (of_z w64 z) ≡ z
given_back h = to_z-of_z {w = w64} (record { sfits = h })

-- ---- sums

module _ (f : ℕ → ℕ) where
  sum-up : (g d : ℕ) → sum_below g f ≤ sum_below (g + d) f
  unfolding sum_below
  sum-up g zero = let e : g + 0 ≡ g = omega arith in rw e (omega arith)
  sum-up g (suc d) = let e : g + suc d ≡ suc (g + d) = omega arith in let h = sum-up g d in rw e (omega arith)

  -- group g's elements are among those of the groups below n
  sum-in : (g n : ℕ) → g < n → sum_below g f + f g ≤ sum_below n f
  unfolding sum_below
  sum-in g n h =
      let e : suc g + (n - suc g) ≡ n = omega arith in
      rw e at (sum-up (suc g) (n - suc g))

-- ---- one element

module _ (x t : List ℕ) (raw : List ℤ) (state : List ℕ) (first second : List ℤ) where
  pub element-put : (g i k o a e p s : ℕ) (z n d y u v : ℤ) {at r : ℕ} {out left : List ℕ} → o ≡ g / 3 → a ≡ slot_in t (section_in table_sections object_section) o 0 → e ≡ slot_in t (section_in table_sections object_section) o 1 → p ≡ g % 3
      → z ≡ get_or raw k (pos 0) → s ≡ get_or state k 0 → n ≡ get_or first k (pos 0) → d ≡ get_or second k (pos 0)
      → y ≡ z → u ≡ n → v ≡ d
      → Put at (line x (slice x a e) p i y (physical x s u v)) out r left
      → Put at (printed_line x t (columns raw state first second) g i k) out r left
  unfolding printed_line
  element-put g i k o a e p s z n d y u v h1 h2 h3 h4 h5 h6 h7 h8 h9 h10 h11 q =
      rw (h9 ∙ h5, h10 ∙ h7, h11 ∙ h8, h6, h4, h2, h3, h1) at q

-- ---- the loop

module _ (x t : List ℕ) (c : Columns) where
  -- the lines of the groups below g and the first i of group g are in the buffer, up to p; k lines
  pub record Upto (at n : ℕ) (out : List ℕ) (g i k p : ℕ) (now : List ℕ) : Type 0 where
    pub below : g ≤ n
    pub lines : k ≡ sum_below g (elements (tables_in t)) + i
    pub within : i ≤ elements (tables_in t) g
    pub ended : n ≤ g → i ≡ 0
    pub most : p ≤ at + k * 2 ^ 26
    pub done : Put at (printed_below x t c g ++ printed_part x t c g i) out p now

  module _ {at n : ℕ} {out : List ℕ} where
    pub upto-start : Upto at n out 0 0 0 at out
    unfolding printed_below printed_part sum_below
    upto-start = record { below = omega arith; lines = refl; within = omega arith; ended = λ h. refl; most = omega arith; done = put-none at out }

    module _ {g i k p : ℕ} {now : List ℕ} where
      pub upto-line : (e r : ℕ) (left : List ℕ) → g < n → e ≡ elements (tables_in t) g → i < e → Upto at n out g i k p now
          → Put p (printed_line x t c g i k) now r left → r ≤ p + 2 ^ 26 → Upto at n out g (i + 1) (k + 1) r left
      unfolding printed_part
      upto-line e r left h q l u w b = let y = u.lines in let m = u.most in record {
        below = u.below;
        lines = omega arith;
        within = omega arith;
        ended = λ z. absurd (omega arith);
        most = omega arith;
        done = rw (add-one, ← append_assoc) (put_then u.done (rw y at w));
      }

      pub upto_next : (e : ℕ) → g < n → e ≡ elements (tables_in t) g → e ≤ i → Upto at n out g i k p now → Upto at n out (g + 1) 0 k p now
      unfolding printed_below printed_part sum_below
      upto_next e h q l u = let y = u.lines in let z = u.within in let m : elements (tables_in t) g ≡ i = omega arith in record {
        below = omega arith;
        lines = rw add-one (omega arith);
        within = omega arith;
        ended = λ z. refl;
        most = u.most;
        done = rw (add-one, m, append-nil) u.done;
      }

      pub upto_done : (m : ℕ) → n ≡ m → n ≤ g → Upto at n out g i k p now → Put at (printed_below x t c m) out p now
      unfolding printed_part
      upto_done m e h u =
          let y = u.below in
          let z : i ≡ 0 = u.ended h in
          let f : g ≡ m = omega arith in
          let d : Put at (printed_below x t c m ++ []) out p now = rw (z, f) at u.done in
          rw append-nil at d

      pub upto-index : Upto at n out g i k p now → Fits w64 i
      upto-index u = let l = u.within in record { fits = omega (arith, elements-most (tables_in t) g) }

      pub upto-kept : Upto at n out g i k p now → length now ≡ length out
      upto-kept u = length-put u.done

      -- what is left of the lines
      pub upto_left : (e : ℕ) → g < n → e ≡ elements (tables_in t) g → i < e → Upto at n out g i k p now → k < sum_below n (elements (tables_in t))
      upto_left e h q l u = let y = u.lines in let s = sum-in (elements (tables_in t)) g n h in omega arith

      pub upto-room : (e m : ℕ) → at ≤ 2 ^ 24 → sum_below m (elements (tables_in t)) ≤ most_elements → n ≡ m → g < n → e ≡ elements (tables_in t) g → i < e → Upto at n out g i k p now → p < 2 ^ 55
      upto-room e m a b f h q l u =
          let d : k < sum_below m (elements (tables_in t)) = rw f at (upto_left e h q l u) in
          let v = u.most in
          omega arith

pub ruleset uptos = (upto-start, upto-line, upto_next, upto_done, upto-room, upto-index, upto-kept, rules)

-- ---- the whole

pub printed-put : (x t : List ℕ) (c : Columns) {at e r : ℕ} {out o left : List ℕ} → Put at header out e o → Put e (printed_below x t c ((tables_in t).counts group_section)) o r left → Put at (printed x t c) out r left
unfolding printed
printed-put x t c p q = put_then p q

pub ruleset printeds = (printed-put, rules)

-- ---- what is tested first

-- bytes put from the front of a buffer that has room for them
put_front : (bytes out left : List ℕ) (past : ℕ) → Put 0 bytes out past left → past ≤ length out → left ≡ laid_over bytes out
unfolding put laid_over
put_front bytes out left past p h = let e = p.end in p.laid ∙ sets-eq bytes out 0 (omega arith) ∙ rw zero-add

-- bytes that do not fit, and bytes that do: they were measured in another buffer
module _ (bytes out o w : List ℕ) (need : ℕ) where
  pub fits-short : Put 0 bytes o need w → length out < need → listed_of (Err no.BadSize) out ≡ listed_by (if_fits bytes out) out
  fits-short p h =
      let q = p.end in
      let l : length out < length bytes = omega arith in
      rw (lt-leb (length bytes) (length out) l)

  pub fits-done : (r : ℕ) (left : List ℕ) → Put 0 bytes o need w → need ≤ length out → Put 0 bytes out r left → listed_of (Ok r) left ≡ listed_by (if_fits bytes out) out
  fits-done r left p h q =
      let i = p.end in
      let j = q.end in
      let l : length bytes ≤ length out = omega arith in
      let s : r ≡ length bytes = omega arith in
      let d : left ≡ laid_over bytes out = put_front bytes out left r q (omega arith) in
      rw (le-leb (length bytes) (length out) l, s, d)

-- l lines are lent, b says whether they are enough
pub kept-no : (x t img : List ℕ) (base : ℕ) (r : List ℤ) (s : List ℕ) (f d : List ℤ) (l n : ℕ) (b : Bool) → l ≡ min (min (length r) (length s)) (min (length f) (length d)) → b ≡ leb (total (tables_in t)) l
    → n ≡ checked_no t (lent_of (length x) (length img) base) b → n ≡ kept_no (length x) t base (kept img r s f d)
unfolding kept_no
kept-no x t img base r s f d l n b p q h = rw (q, p) at h

pub ruleset kept-nos = (kept-no, rules)

module _ (x t : List ℕ) (base : ℕ) (k : Kept) (n : ℕ) (e : n ≡ kept_no (length x) t base k) where
  no-is : n ≡ checked_no t (lent_by (length x) base k) (has_room t k)
  unfolding kept_no
  no-is = e

  pub kept-refused : {A : Type 0} (a : Answer A) → (n ≡ 0 → ⊥) → refused n ≡ checked t (lent_by (length x) base k) (has_room t k) a
  kept-refused a h = checked_refused t (lent_by (length x) base k) (has_room t k) n no-is a h

  module _ (z : n ≡ 0) where
    pub kept-passed : {A : Type 0} (a : Answer A) → checked t (lent_by (length x) base k) (has_room t k) a ≡ a
    kept-passed a = sym (checked-passed t (lent_by (length x) base k) (has_room t k) n no-is a z)

    kept-tests : ((sizes_fit (length x) (length k.image) base (length t) && has_room t k) ≡ true) × (keeps_rule (length x) (length k.image) t ≡ true)
    kept-tests = checked-tests t (lent_by (length x) base k) (has_room t k) n no-is z

    -- the description is short enough, the lines are few enough
    pub kept-text : length x ≤ 2 ^ 24
    unfolding sizes_fit
    kept-text =
        let a = leb (length x) (2 ^ 24) in
        let b = leb (length k.image) (2 ^ 20) in
        let c = leb (base + length k.image) (2 ^ 32) in
        let d = leb (cells.room table_sections) (length t) in
        leb-true _ _ (left a b (left (a && b) c (left (a && b && c) d (left (sizes_fit (length x) (length k.image) base (length t)) (has_room t k) kept-tests.0))))

    pub kept-lines : sum_below ((tables_in t).counts group_section) (elements (tables_in t)) ≤ most_elements
    kept-lines =
        let a = total-is (length x) (length k.image) t kept-tests.1 in
        let b = total-most (length x) (length k.image) t kept-tests.1 in
        omega arith

  module _ (out : List ℕ) where
    pub listing-refused : (r : CallRefusal) → n ≡ refusal_number r → listed_of (Err r) out ≡ listing x t base k out
    unfolding listing
    listing-refused r q = rw (← q, ← kept-refused (if_fits (printed x t (columns_of k)) out) (λ z. some_number r (sym q ∙ z)))

    pub listing-short : (need : ℕ) (o left : List ℕ) → n ≡ 0 → Put 0 (printed x t (columns_of k)) o need left → length out < need → listed_of (Err no.BadSize) out ≡ listing x t base k out
    unfolding listing
    listing-short need o left z p h = rw (kept-passed z (if_fits (printed x t (columns_of k)) out)) (fits-short (printed x t (columns_of k)) out o left need p h)

    pub listing-done : (need r : ℕ) (o w left : List ℕ) → n ≡ 0 → Put 0 (printed x t (columns_of k)) o need w → need ≤ length out → Put 0 (printed x t (columns_of k)) out r left
        → listed_of (Ok r) left ≡ listing x t base k out
    unfolding listing
    listing-done need r o w left z p h q = rw (kept-passed z (if_fits (printed x t (columns_of k)) out)) (fits-done (printed x t (columns_of k)) out o w need r left p h q)

    -- one element's line
    module _ (o p i : ℕ) where
      pub line_refused : (r : CallRefusal) → n ≡ refusal_number r → listed_of (Err r) out ≡ printing x t base k o p i out
      unfolding printing
      line_refused r w = rw (← w, ← kept-refused (unless (is_element (tables_in t) o p i) 14 (if_fits (printed_line x t (columns_of k) (group_of o p) i (line_of (tables_in t) (group_of o p) i)) out)) (λ z. some_number r (sym w ∙ z)))

      module _ (b : Bool) (q : b ≡ is_element (tables_in t) o p i) where
        pub line-none : n ≡ 0 → b ≡ false → listed_of (Err no.NoElement) out ≡ printing x t base k o p i out
        unfolding printing
        line-none z h = rw (kept-passed z (unless (is_element (tables_in t) o p i) 14 (if_fits (printed_line x t (columns_of k) (group_of o p) i (line_of (tables_in t) (group_of o p) i)) out)), ← q, h)

        pub line-is : (g s j : ℕ) (r : Result ℕ CallRefusal) (left : List ℕ) → n ≡ 0 → b ≡ true → g ≡ min (group_of o p) past_records → s ≡ sum_below g (elements (tables_in t)) → j ≡ s + i
            → listed_of r left ≡ listed_by (if_fits (printed_line x t (columns_of k) g i j) out) out → listed_of r left ≡ printing x t base k o p i out
        unfolding printing
        line-is g s j r left z h m u v w =
            rw (kept-passed z (unless (is_element (tables_in t) o p i) 14 (if_fits (printed_line x t (columns_of k) (group_of o p) i (line_of (tables_in t) (group_of o p) i)) out)), ← q, h)
            (rw (v, u, group-is t o p i b g q h m) at w)

pub ruleset listings = (kept-text, kept-lines, listing-refused, listing-short, listing-done, rules)

pub ruleset fits = (fits-short, fits-done, rules)

pub ruleset one_line = (kept-text, line_refused, line-none, line-is, rules)

-- ---- the lines before a group

module _ (t : List ℕ) where
  -- the lines before group h are counted
  pub record Counted (g h s : ℕ) : Type 0 where
    pub up : h ≤ g
    pub sum : s ≡ sum_below h (elements (tables_in t))
    pub small : s ≤ 2 ^ 50

  pub counted_start : (g : ℕ) → Counted g 0 0
  unfolding sum_below
  counted_start g = record { up = omega arith; sum = refl; small = omega arith }

  pub counted-fits : (g h s e : ℕ) → e ≡ elements (tables_in t) h → Counted g h s → Fits w64 (s + e)
  counted-fits g h s e q c = let l = c.small in record { fits = omega (arith, elements-most (tables_in t) h) }

  pub counted-more : (g h s e : ℕ) → h < g → g < 65536 → e ≡ elements (tables_in t) h → Counted g h s → Counted g (h + 1) (s + e)
  counted-more g h s e l b q c = record { up = omega arith; sum = sum-on (tables_in t) h s e c.sum q; small = sum-small (tables_in t) h s e c.sum q (omega arith) }

  pub counted-all : (g h s : ℕ) → g ≤ h → Counted g h s → s ≡ sum_below g (elements (tables_in t))
  counted-all g h s l c = let u = c.up in let e : h ≡ g = omega arith in rw e at c.sum

pub ruleset counteds = (counted_start, counted-fits, counted-more, counted-all, rules)
