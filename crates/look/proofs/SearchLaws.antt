-- The search for a name: what its two loops keep, and what a turn of each does.
use Prim.Native.Nat.{ℕ, suc, ◌+◌, ◌-◌, ◌≤◌, ◌<◌}
use mathlib.Core.Path.{◌≡◌, ◌∙◌, ap}
use mathlib.Core.List.{List}
use mathlib.Core.Bool.{Bool, true, false, cond}
use native.Mathlib.Omega.{arith}
use borrow.Author.Rules.{rules}
use lib.ListN.{length}
use Rattle.number.specs.Answer.{Answer, given, refused}
use Rattle.text.specs.Bytes.{byte, same_part}
use Rattle.text.proofs.LikeLaws.{is_like, Comparing, compare-start, compare-not, compare-on, compare-other}
use Rattle.tables.specs.Form.{object_section, Tables, tables_in}
use Rattle.look.specs.Calls.{Lent, search_from, searched}
use Rattle.look.specs.Steps.{checked_no}
use Rattle.look.proofs.CheckLaws.{checked_refused, checked-passed}

-- the search from object i on answers what the whole search answers
pub record Seeking (x : List ℕ) (v : Tables) (w : List ℕ) (i : ℕ) : Type 0 where
  pub within : i ≤ v.counts object_section
  pub goes : search_from (v.counts object_section - i) x v w i ≡ search_from (v.counts object_section) x v w 0

module _ (x : List ℕ) (v : Tables) (w : List ℕ) where
  pub seek-start : Seeking x v w 0
  seek-start = let z : v.counts object_section - 0 ≡ v.counts object_section = omega arith in record { within = omega arith; goes = ap (λ n. search_from n x v w 0) z }

  pub seek-end : (n i : ℕ) → n ≡ v.counts object_section → Seeking x v w i → n ≤ i → given 0 ≡ given (search_from (v.counts object_section) x v w 0)
  unfolding search_from
  seek-end n i p q h = let z : v.counts object_section - i ≡ 0 = omega arith in ap (λ (y : ℕ). given y) (rw z at q.goes)

  module _ (n i : ℕ) (p : n ≡ v.counts object_section) (q : Seeking x v w i) (h : i < n) where
    look : cond (same_part x (v.slots object_section i 0) (v.slots object_section i 1) w 0 (length w)) (suc i) (search_from (v.counts object_section - (i + 1)) x v w (suc i)) ≡ search_from (v.counts object_section) x v w 0
    unfolding search_from
    look = let z : v.counts object_section - i ≡ suc (v.counts object_section - (i + 1)) = omega arith in rw z at q.goes

    -- the object's name is from f up to u
    module _ (f u : ℕ) (pf : f ≡ v.slots object_section i 0) (pu : u ≡ v.slots object_section i 1) where
      pub seek-on : false ≡ same_part x f u w 0 (length w) → Seeking x v w (i + 1)
      seek-on d = let k : suc i ≡ i + 1 = omega arith in record { within = omega arith; goes = rw (← pf, ← pu, ← d, k) at look }

      pub seek_found : true ≡ same_part x f u w 0 (length w) → given (suc i) ≡ given (search_from (v.counts object_section) x v w 0)
      seek_found d = ap (λ (y : ℕ). given y) (rw (← pf, ← pu, ← d) at look)

-- the name sought is all of w, of n bytes
module _ (x : List ℕ) (f u : ℕ) (w : List ℕ) (m b : ℕ) (pm : m ≡ length w - 1) (pb : b ≡ byte w m) (r : Bool) (pr : r ≡ is_like x f u (length w) b) where
  pub match-start : r ≡ true → Comparing x f u w 0 (length w) (length w) (length w)
  match-start = compare-start x f u w 0 (length w) (length w) m b (omega arith) (omega arith) pm pb r pr

  pub match-not : r ≡ false → false ≡ same_part x f u w 0 (length w)
  match-not = compare-not x f u w 0 (length w) (length w) m b (omega arith) (omega arith) pm pb r pr

-- a turn of the loop over the bytes
module _ (x : List ℕ) (f u : ℕ) (w : List ℕ) (n k : ℕ) (q : Comparing x f u w 0 (length w) n k) (l : k ≡ 0 → ⊥) (c d : ℕ) (pc : c ≡ byte x (f + (k - 1))) (pd : d ≡ byte w (k - 1)) where
  at_last : d ≡ byte w (0 + (k - 1))
  at_last = let z : 0 + (k - 1) ≡ k - 1 = omega arith in pd ∙ rw z

  pub match-on : c ≡ d → Comparing x f u w 0 (length w) n (k - 1)
  match-on = compare-on x f u w 0 (length w) n k q l c d pc at_last

  pub match-other : (c ≡ d → ⊥) → false ≡ same_part x f u w 0 (length w)
  match-other = compare-other x f u w 0 (length w) n k q l c d pc at_last

pub ruleset seeks = (seek-start, seek-end, rules)

-- ---- the call
module _ (x t w : List ℕ) (l : Lent) (r : ℕ) (q : r ≡ checked_no t l true) where
  pub search-refused : (r ≡ 0 → ⊥) → refused r ≡ searched x t l w
  unfolding searched
  search-refused h = checked_refused t l true r q _ h

  pub search_is : (a : Answer ℕ) → r ≡ 0 → a ≡ given (search_from ((tables_in t).counts object_section) x (tables_in t) w 0) → a ≡ searched x t l w
  unfolding searched
  search_is a h e = e ∙ checked-passed t l true r q (given (search_from ((tables_in t).counts object_section) x (tables_in t) w 0)) h

pub ruleset searches = (search-refused, search_is, rules)
