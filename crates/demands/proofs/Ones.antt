-- THE FIRST DEMAND: "Each public call's promise leaves one result and one content of lent memory per input, refusals too."
--     load_one, listing-one, line-one     two outcomes of one call are the same (for the others: list, Demand)
--     c-load-one, c-find-one, c-read-one, c-list-one, c-listing-one     the same of the C functions; c-list-one is for making a list and both writes
use Rattle.std.specs.Prelude.{Result, Ok, Err}
use Prim.Native.Nat.{ℕ}
use mathlib.Core.Path.{◌≡◌, refl, sym, ◌∙◌, ap}
use mathlib.Core.List.{List}
use Rattle.text.specs.declared.cursor.Refusal.{Refusal}
use Rattle.text.specs.Answer as text
use Rattle.number.specs.Answer as number
use Rattle.tables.specs.declared.setting.Setting.{Setting}
use Rattle.load.specs.Load.{Loaded, loaded, loaded_of}
use Rattle.look.specs.Calls.{Kept}
use Rattle.listing.specs.Listing.{Listed, listing, printing, listed_of}
use Rattle.look.specs.declared.refusal.CallRefusal.{CallRefusal}
use Rattle.look.proofs.CheckLaws.{refusal_by, refusal_back}
use lib.Ieee.{Float}
use lib.IntN.{ℤ}
use Rattle.look.specs.Calls.{Lent, searched, reading, After}
use Rattle.numbers.specs.Numbers.{LoadCall, load_call, load_told, find_number, ReadCall, read_call, read_told, ListCall, list_call, list_told, ListingCall, listing_call, listing_told}

-- which answer it was
abbrev load_answer : text.Answer (Unit {0}) → Result (Unit {0}) Refusal
load_answer (text.given u) = Ok u
load_answer (text.refused n p) = Err (record { no = n; place = p })

load-back : (r : Result (Unit {0}) Refusal) (t w : List ℕ) → load_answer (loaded_of r t w).answer ≡ r
load-back (Ok u) t w = refl
load-back (Err r) t w = refl

tables-back : (r : Result (Unit {0}) Refusal) (t w : List ℕ) → (loaded_of r t w).tables ≡ t
tables-back (Ok u) t w = refl
tables-back (Err r) t w = refl

work-back : (r : Result (Unit {0}) Refusal) (t w : List ℕ) → (loaded_of r t w).work ≡ w
work-back (Ok u) t w = refl
work-back (Err r) t w = refl

-- a load that answers r and leaves t and w, and one that answers s and leaves u and v, are the same
pub load_one : (x image : List ℕ) (setting : Setting) (tables work : List ℕ) (r s : Result (Unit {0}) Refusal) (t u w v : List ℕ)
    → loaded_of r t w ≡ loaded x image setting tables work → loaded_of s u v ≡ loaded x image setting tables work → (r ≡ s) × (t ≡ u) × (w ≡ v)
load_one x image setting tables work r s t u w v p q =
    let e : loaded_of r t w ≡ loaded_of s u v = p ∙ sym q in (
      sym (load-back r t w) ∙ ap (λ (l : Loaded). load_answer l.answer) e ∙ load-back s u v,
      sym (tables-back r t w) ∙ ap (λ (l : Loaded). l.tables) e ∙ tables-back s u v,
      sym (work-back r t w) ∙ ap (λ (l : Loaded). l.work) e ∙ work-back s u v,
    )

abbrev listing_answer : number.Answer ℕ → Result ℕ CallRefusal
listing_answer (number.given n) = Ok n
listing_answer (number.refused n) = Err (refusal_by n)

listing-back : (r : Result ℕ CallRefusal) (o : List ℕ) → listing_answer (listed_of r o).answer ≡ r
listing-back (Ok n) o = refl
listing-back (Err r) o = ap (λ (z : CallRefusal). Err z) (refusal_back r)

out-back : (r : Result ℕ CallRefusal) (o : List ℕ) → (listed_of r o).out ≡ o
out-back (Ok n) o = refl
out-back (Err r) o = refl

same-listed : (l : Listed) (r s : Result ℕ CallRefusal) (o u : List ℕ) → listed_of r o ≡ l → listed_of s u ≡ l → (r ≡ s) × (o ≡ u)
same-listed l r s o u p q =
    let e : listed_of r o ≡ listed_of s u = p ∙ sym q in (
      sym (listing-back r o) ∙ ap (λ (l : Listed). listing_answer l.answer) e ∙ listing-back s u,
      sym (out-back r o) ∙ ap (λ (l : Listed). l.out) e ∙ out-back s u,
    )

-- the whole listing, in a lent buffer
pub listing-one : (x t : List ℕ) (base : ℕ) (k : Kept) (out : List ℕ) (r s : Result ℕ CallRefusal) (o u : List ℕ)
    → listed_of r o ≡ listing x t base k out → listed_of s u ≡ listing x t base k out → (r ≡ s) × (o ≡ u)
listing-one x t base k out r s o u = same-listed (listing x t base k out) r s o u

-- one element's line
pub line-one : (x t : List ℕ) (base : ℕ) (k : Kept) (object part index : ℕ) (out : List ℕ) (r s : Result ℕ CallRefusal) (o u : List ℕ)
    → listed_of r o ≡ printing x t base k object part index out → listed_of s u ≡ printing x t base k object part index out → (r ≡ s) × (o ≡ u)
line-one x t base k object part index out r s o u = same-listed (printing x t base k object part index out) r s o u

-- ---- the C functions: one number, and one content of each lent buffer

pub c-load-one : (x image : List ℕ) (setting : Setting) (tables work : List ℕ) (r s : ℕ) (t u w v : List ℕ)
    → load_call r t w ≡ load_told (loaded x image setting tables work) → load_call s u v ≡ load_told (loaded x image setting tables work) → (r ≡ s) × (t ≡ u) × (w ≡ v)
c-load-one x image setting tables work r s t u w v p q =
    (ap (λ (c : LoadCall). c.number) (p ∙ sym q), ap (λ (c : LoadCall). c.tables) (p ∙ sym q), ap (λ (c : LoadCall). c.work) (p ∙ sym q))

pub c-find-one : (x t n : List ℕ) (l : Lent) (r s : ℤ) → r ≡ find_number (searched x t l n) → s ≡ find_number (searched x t l n) → r ≡ s
c-find-one x t n l r s p q = p ∙ sym q

pub c-read-one : (t image : List ℕ) (l : Lent) (object part index : ℕ) (out : List ℤ) (shown : List Float) (r s : ℕ) (o u : List ℤ) (h v : List Float)
    → read_call r o h ≡ read_told (reading t image l object part index) out shown → read_call s u v ≡ read_told (reading t image l object part index) out shown → (r ≡ s) × (o ≡ u) × (h ≡ v)
c-read-one t image l object part index out shown r s o u h v p q =
    (ap (λ (c : ReadCall). c.number) (p ∙ sym q), ap (λ (c : ReadCall). c.out) (p ∙ sym q), ap (λ (c : ReadCall). c.shown) (p ∙ sym q))

-- a is what making a list, or a write, answers and leaves
pub c-list-one : (a : After) (r s : ℕ) (k j : Kept) → list_call r k ≡ list_told a → list_call s j ≡ list_told a → (r ≡ s) × (k ≡ j)
c-list-one a r s k j p q = (ap (λ (c : ListCall). c.number) (p ∙ sym q), ap (λ (c : ListCall). c.left) (p ∙ sym q))

pub c-listing-one : (x t : List ℕ) (base : ℕ) (k : Kept) (out : List ℕ) (r s : ℤ) (o u : List ℕ)
    → listing_call r o ≡ listing_told (listing x t base k out) → listing_call s u ≡ listing_told (listing x t base k out) → (r ≡ s) × (o ≡ u)
c-listing-one x t base k out r s o u p q = (ap (λ (c : ListingCall). c.number) (p ∙ sym q), ap (λ (c : ListingCall). c.out) (p ∙ sym q))
