-- THE FIRST DEMAND, for what is printed: the numbers that a listing and a line are refused by, in their order (of the other calls: look, Numbers).
use Prim.Native.Nat.{ℕ}
use mathlib.Core.Path.{◌≡◌, ap}
use mathlib.Core.List.{List, [], ◌∷◌}
use mathlib.Core.Logic.{inl}
use native.Mathlib.Omega.{arith}
use lib.Dec.{leb}
use lib.ListN.{length}
use Rattle.text.proofs.Within.{by-test}
use Rattle.number.specs.Answer.{Answer, given, refused}
use Rattle.tables.specs.Form.{tables_in}
use Rattle.tables.specs.Group.{group_of, line_of}
use Rattle.look.specs.Calls.{lent_by, is_element, Kept, has_room, unless}
use Rattle.look.proofs.Numbers.{RefusedBy, given-numbers, unless-numbers, checked-numbers}
use Rattle.listing.specs.Listing.{columns_of, printed_line, printed, listed_by, if_fits, listing, printing}

-- 20 where the bytes do not fit the buffer
fits-numbers : (b out : List ℕ) → RefusedBy (20 ∷ []) (if_fits b out)
fits-numbers b out =
    by-test (λ (a : Answer (List ℕ)). RefusedBy (20 ∷ []) a) (leb (length b) (length out)) (λ t. given-numbers (20 ∷ []) b) (λ t n e. inl (let z : 20 ≡ n = cc in omega arith))

-- what is printed or refused is answered so
printed-numbers : (ms : List ℕ) (a : Answer (List ℕ)) (out : List ℕ) → RefusedBy ms a → RefusedBy ms (listed_by a out).answer
printed-numbers ms (given b) out h = given-numbers ms (length b)
printed-numbers ms (refused m) out h = λ n e. let z : m ≡ n = cc in h n (ap refused z)

pub listing-numbers : (x t : List ℕ) (base : ℕ) (k : Kept) (out : List ℕ) → RefusedBy (20 ∷ 22 ∷ 20 ∷ []) (listing x t base k out).answer
unfolding listing
listing-numbers x t base k out =
    printed-numbers (20 ∷ 22 ∷ 20 ∷ []) _ out (checked-numbers t (lent_by (length x) base k) (has_room t k) (20 ∷ []) (if_fits (printed x t (columns_of k)) out) (fits-numbers (printed x t (columns_of k)) out))

pub line-numbers : (x t : List ℕ) (base : ℕ) (k : Kept) (o p i : ℕ) (out : List ℕ) → RefusedBy (20 ∷ 22 ∷ 14 ∷ 20 ∷ []) (printing x t base k o p i out).answer
unfolding printing
line-numbers x t base k o p i out =
    let b = printed_line x t (columns_of k) (group_of o p) i (line_of (tables_in t) (group_of o p) i) in
    printed-numbers (20 ∷ 22 ∷ 14 ∷ 20 ∷ []) _ out
    (checked-numbers t (lent_by (length x) base k) (has_room t k) (14 ∷ 20 ∷ []) (unless (is_element (tables_in t) o p i) 14 (if_fits b out))
    (unless-numbers (is_element (tables_in t) o p i) 14 (20 ∷ []) (if_fits b out) (fits-numbers b out)))
