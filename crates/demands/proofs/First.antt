-- THE FIRST DEMAND, to be read beside document 01: "Whatever description, memory image, request or lent table comes in, each call ends with an answer or one
-- numbered refusal, for exactly the listed reason. A refused write changes nothing; a refused load names the place in the text and leaves its tables at zero (where a
-- size, the edition or the base address is wrong: place 0, untouched)."
-- The calls are load, search, read, make_list, write_raw, write_physical, listing and line; their contracts say that they answer and leave what `loaded`,
-- `searched`, `reading`, `making`, `writing`, `listing` and `printing` say, and ask nothing.
--     one-load .. one_line                          one answer and one content of lent memory; of the C functions: Ones, `c-load-one` and those after it
--     listed, leaves, told-to-c                     a load's refusals (refusals, specs/Refusals)
--     search-refused .. line_refused                the numbers that every other call is refused by, in its order
--     refused-write, refused-list                   "No refusal touches image or list."
--     found, found_none                             what the search finds
use Rattle.std.specs.Prelude.{Option, Result}
use Prim.Native.Nat.{ℕ, suc, ◌≤◌, ◌<◌}
use mathlib.Core.Path.{◌≡◌}
use mathlib.Core.List.{List, [], ◌∷◌}
use mathlib.Core.Bool.{false}
use mathlib.Core.Logic.{◌⊎◌}
use lib.ListN.{length, replicate}
use Rattle.text.specs.Answer.{refused}
use Rattle.number.specs.Answer as number
use Rattle.tables.specs.declared.setting.Setting.{Setting}
use Rattle.tables.specs.Form.{object_section, tables_in}
use Rattle.load.specs.Load.{loaded, loaded_of}
use Rattle.text.specs.declared.cursor.Refusal as text
use Rattle.look.specs.Calls.{Lent, searched, reading, Kept, making, Request, writing}
use Rattle.look.specs.Told.{told_search, told_read, after}
use Rattle.look.specs.declared.refusal.CallRefusal.{CallRefusal}
use Rattle.look.specs.declared.read.Reading as code
use Rattle.demands.proofs.Runs as runs
use Rattle.demands.proofs.Searched as search
use Rattle.look.proofs.Numbers as numbers
use Rattle.look.proofs.Numbers.{RefusedBy}
use Rattle.listing.specs.Listing.{listing, printing, listed_of}
use Rattle.numbers.specs.Numbers.{load_number}
use Rattle.numbers.specs.Back.{load_back}
use Rattle.refusals.specs.Refusals.{Refusal}
use Rattle.demands.proofs.Ones as ones
use Rattle.demands.proofs.Orders as orders
use Rattle.refusals.proofs.Refusing as refusing
use Rattle.demands.proofs.Telling as telling

-- "Each public call's promise leaves one result and one content of lent memory per input, refusals too": two outcomes of one call are the same
pub one-load : (x image : List ℕ) (setting : Setting) (tables work : List ℕ) (r s : Result (Unit {0}) text.Refusal) (t u w v : List ℕ)
    → loaded_of r t w ≡ loaded x image setting tables work → loaded_of s u v ≡ loaded x image setting tables work → (r ≡ s) × (t ≡ u) × (w ≡ v)
one-load = ones.load_one

pub one-search : (x t n : List ℕ) (l : Lent) (r s : Result (Option ℕ) CallRefusal) → told_search r ≡ searched x t l n → told_search s ≡ searched x t l n → r ≡ s
one-search = runs.search-one

pub one-read : (t image : List ℕ) (l : Lent) (o p i : ℕ) (r s : Result code.Reading CallRefusal) → told_read r ≡ reading t image l o p i → told_read s ≡ reading t image l o p i → r ≡ s
one-read = runs.read_one

pub one_list : (t : List ℕ) (n base : ℕ) (k a b : Kept) (r s : Result (Unit {0}) CallRefusal) → after r a ≡ making t n base k → after s b ≡ making t n base k → (r ≡ s) × (a ≡ b)
one_list = runs.make-one

pub one-write : (t : List ℕ) (n base : ℕ) (k a b : Kept) (q : Request) (r s : Result (Unit {0}) CallRefusal) → after r a ≡ writing t n base k q → after s b ≡ writing t n base k q → (r ≡ s) × (a ≡ b)
one-write = runs.write-one

pub one-listing : (x t : List ℕ) (base : ℕ) (k : Kept) (out : List ℕ) (r s : Result ℕ CallRefusal) (o u : List ℕ)
    → listed_of r o ≡ listing x t base k out → listed_of s u ≡ listing x t base k out → (r ≡ s) × (o ≡ u)
one-listing = ones.listing-one

pub one_line : (x t : List ℕ) (base : ℕ) (k : Kept) (object part index : ℕ) (out : List ℕ) (r s : Result ℕ CallRefusal) (o u : List ℕ)
    → listed_of r o ≡ printing x t base k object part index out → listed_of s u ≡ printing x t base k object part index out → (r ≡ s) × (o ≡ u)
one_line = ones.line-one

module _ (x image : List ℕ) (setting : Setting) (tables work : List ℕ) where
  -- "Numbers we answer with": a load's refusal is 20 or 33 at place 0, or 1 to 13 at a place in the text or at its end
  pub listed : (n p : ℕ) → (loaded x image setting tables work).answer ≡ refused n p → Refusal x n p
  listed = refusing.refusal-listed x image setting tables work

  -- "20 leaves tables untouched, other load refusals leave them zero."; "33 for another edition, .. with place 0 and tables untouched"
  pub leaves : (n p : ℕ) → (loaded x image setting tables work).answer ≡ refused n p
      → (((n ≡ 20) ⊎ (n ≡ 33)) × ((loaded x image setting tables work).tables ≡ tables) × ((loaded x image setting tables work).work ≡ work))
      ⊎ ((n ≤ 13) × ((loaded x image setting tables work).tables ≡ replicate (length tables) 0) × ((loaded x image setting tables work).work ≡ replicate (length work) 0))
  leaves = refusing.refusal-leaves x image setting tables work

  -- the number that a C caller gets tells the answer
  pub told-to-c : load_back (load_number (loaded x image setting tables work).answer) ≡ (loaded x image setting tables work).answer
  told-to-c = telling.load-number-tells x image setting tables work

-- "Reading an element: 20, 22, 14. Write order: 20, 22, 14, 21, 19, 15, 16, 17, 18. Making a list: 20, 22.": by these numbers alone (look, Numbers: `RefusedBy`)
pub search-refused : (x t : List ℕ) (l : Lent) (w : List ℕ) → RefusedBy (20 ∷ 22 ∷ []) (searched x t l w)
search-refused = numbers.searched-numbers

pub read-refused : (t image : List ℕ) (l : Lent) (o p i : ℕ) → RefusedBy (20 ∷ 22 ∷ 14 ∷ []) (reading t image l o p i)
read-refused = numbers.reading-numbers

pub list-refused : (t : List ℕ) (n base : ℕ) (k : Kept) → RefusedBy (20 ∷ 22 ∷ []) (making t n base k).answer
list-refused = numbers.making-numbers

pub write-refused : (t : List ℕ) (n base : ℕ) (k : Kept) (q : Request) → RefusedBy (20 ∷ 22 ∷ 14 ∷ 21 ∷ 19 ∷ 15 ∷ 16 ∷ 17 ∷ 18 ∷ []) (writing t n base k q).answer
write-refused = numbers.writing-numbers

pub listing-refused : (x t : List ℕ) (base : ℕ) (k : Kept) (out : List ℕ) → RefusedBy (20 ∷ 22 ∷ 20 ∷ []) (listing x t base k out).answer
listing-refused = orders.listing-numbers

pub line_refused : (x t : List ℕ) (base : ℕ) (k : Kept) (o p i : ℕ) (out : List ℕ) → RefusedBy (20 ∷ 22 ∷ 14 ∷ 20 ∷ []) (printing x t base k o p i out).answer
line_refused = orders.line-numbers

-- "No refusal touches image or list."
pub refused-write : (t : List ℕ) (n base : ℕ) (k : Kept) (q : Request) (c : ℕ) → (writing t n base k q).answer ≡ number.refused c → (writing t n base k q).left ≡ k
refused-write = runs.refused-changes-nothing

pub refused-list : (t : List ℕ) (n base : ℕ) (k : Kept) (c : ℕ) → (making t n base k).answer ≡ number.refused c → (making t n base k).left ≡ k
refused-list = runs.make-refused-changes-nothing

-- "The search for a name stops at the first object that bears it."
pub found : (x t w : List ℕ) (l : Lent) (k : ℕ) → searched x t l w ≡ number.given (suc k) → search.First x (tables_in t) w ((tables_in t).counts object_section) 0 k
found = search.search-found

pub found_none : (x t w : List ℕ) (l : Lent) → searched x t l w ≡ number.given 0 → (j : ℕ) → j < (tables_in t).counts object_section → search.bears x (tables_in t) w j ≡ false
found_none = search.search-finds-none
