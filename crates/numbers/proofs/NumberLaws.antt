-- The C functions' numbers, by the answers that the library gave.
use Rattle.std.specs.Prelude.{Option, Some, None, Result, Ok, Err}
use mathlib.Core.Path.{◌≡◌, refl, ap, ◌∙◌}
use mathlib.Core.List.{List}
use Prim.Native.Nat.{ℕ, ◌+◌, ◌*◌, ◌%◌, ◌^◌, ◌<◌}
use native.Mathlib.Omega.{arith}
use borrow.Author.Rules.{rules}
use lib.IntN.{ℤ, pos, negsuc, neg_ℤ}
use mir.Syntax.{w64}
use mir.Val.{to_z}
use Rattle.cell.proofs.Signed.{is-cast}
use Rattle.text.specs.declared.cursor.Refusal.{Refusal}
use Rattle.load.specs.Load.{Loaded, loaded_of}
use Rattle.number.specs.Answer.{Answer}
use Rattle.look.specs.Calls.{Kept, After, raw_number, request, writing}
use Rattle.look.specs.Told.{told_search, told_call, after}
use Rattle.look.specs.declared.refusal.CallRefusal.{CallRefusal}
use Rattle.listing.specs.Listing.{Listed, listed_of}
use Rattle.listing.specs.Listing as listings
use Rattle.numbers.specs.Numbers.{told_load, load_number, load_call, load_told, find_number, call_number, list_call, list_told, by_number, told_found, told_done, told_written, held_count, listing_number, listing_call, listing_told}
use Rattle.numbers.proofs.ListingSize.{count_held}

-- ---- each answer's number

pub load-refused : (a : Result (Unit {0}) Refusal) (r : Refusal) (k : ℕ) → a ≡ Err r → k ≡ r.place % 4294967296 * 64 + r.no → k ≡ load_number (told_load a)
load-refused a r k e q = q ∙ rw e

pub find_at : (a : Result (Option ℕ) ℕ) (i : ℕ) → a ≡ Ok (Some i) → i < 2 ^ 16 → to_z w64 i ≡ find_number (told_found a)
find_at a i e h = (is-cast i (omega arith)).same ∙ rw e

pub find-nothing : (a : Result (Option ℕ) ℕ) → a ≡ Ok None → negsuc 0 ≡ find_number (told_found a)
find-nothing a e = rw e

pub find-refused : (a : Result (Option ℕ) ℕ) (r : ℕ) (z : ℤ) → a ≡ Err r → z ≡ neg_ℤ (pos r) → z ≡ find_number (told_found a)
find-refused a r z e q = q ∙ rw e

pub listing-written : (a : Result ℕ ℕ) (n k : ℕ) → a ≡ Ok n → k ≡ n % 9223372036854775808 → to_z w64 k ≡ listing_number (held_count (told_written a))
listing-written a n k e q = (is-cast k (omega arith)).same ∙ ap pos q ∙ rw e

pub listing-refused : (a : Result ℕ ℕ) (r : ℕ) (z : ℤ) → a ≡ Err r → z ≡ neg_ℤ (pos r) → z ≡ listing_number (held_count (told_written a))
listing-refused a r z e q = q ∙ rw e

pub ruleset numbers = (load-refused, find_at, find-nothing, find-refused, listing-written, listing-refused, rules)

-- ---- the library's answer a, told as the number n

loaded-so : (a : Result (Unit {0}) Refusal) (t w : List ℕ) → load_call (load_number (told_load a)) t w ≡ load_told (loaded_of a t w)
unfolding load_told
loaded-so (Ok u) t w = refl
loaded-so (Err r) t w = refl

pub load_told_lem : (n : ℕ) (a : Result (Unit {0}) Refusal) (t w : List ℕ) (o : Loaded) → n ≡ load_number (told_load a) → loaded_of a t w ≡ o → load_call n t w ≡ load_told o
load_told_lem n a t w o p e = ap (λ (m : ℕ). load_call m t w) p ∙ loaded-so a t w ∙ ap load_told e

-- m is a with its refusals told by number
found-so : (a : Result (Option ℕ) CallRefusal) → told_found (by_number a) ≡ told_search a
found-so (Ok None) = refl
found-so (Ok (Some i)) = refl
found-so (Err r) = refl

done-so : (a : Result (Unit {0}) CallRefusal) → told_done (by_number a) ≡ told_call a
done-so (Ok u) = refl
done-so (Err r) = refl

pub find-told : (n : ℤ) (m : Result (Option ℕ) ℕ) (a : Result (Option ℕ) CallRefusal) (o : Answer ℕ) → n ≡ find_number (told_found m) → m ≡ by_number a → told_search a ≡ o → n ≡ find_number o
find-told n m a o p q e = p ∙ ap (λ (r : Result (Option ℕ) ℕ). find_number (told_found r)) q ∙ ap find_number (found-so a ∙ e)

pub list-told : (n : ℕ) (m : Result (Unit {0}) ℕ) (a : Result (Unit {0}) CallRefusal) (k : Kept) (o : After) → n ≡ call_number (told_done m) → m ≡ by_number a → after a k ≡ o → list_call n k ≡ list_told o
unfolding list_told
list-told n m a k o p q e =
    ap (λ (v : ℕ). list_call v k) (p ∙ ap (λ (r : Result (Unit {0}) ℕ). call_number (told_done r)) q ∙ ap call_number (done-so a)) ∙ ap list_told e

-- y is the value as the call was given it
pub write-told : (n : ℕ) (r : Result (Unit {0}) ℕ) (a : Result (Unit {0}) CallRefusal) (k k' : Kept) (t : List ℕ) (m base o p i : ℕ) (y z : ℤ) → n ≡ call_number (told_done r) → r ≡ by_number a → after a k' ≡ writing t m base k (request o p i (raw_number y)) → y ≡ z
    → list_call n k' ≡ list_told (writing t m base k (request o p i (raw_number z)))
write-told n r a k k' t m base o p i y z q d e h = list-told n r a k' (writing t m base k (request o p i (raw_number z))) q d (e ∙ rw h)

-- what a listing of so few bytes answers
listed-so : (a : Result ℕ CallRefusal) (out : List ℕ) (o : Listed) → listed_of a out ≡ o → held_count o.answer ≡ o.answer → listing_call (listing_number (held_count (told_written (by_number a)))) out ≡ listing_told o
unfolding listing_told
listed-so (Ok n) out o e h = rw (← e) (ap (λ (b : Answer ℕ). listing_call (listing_number b) out) (rw (← e) at h))
listed-so (Err r) out o e h = rw (← e)

pub listing-told : (x t : List ℕ) (base : ℕ) (k : Kept) (l : List ℕ) (n : ℤ) (m : Result ℕ ℕ) (a : Result ℕ CallRefusal) (out : List ℕ) → n ≡ listing_number (held_count (told_written m)) → m ≡ by_number a
    → listed_of a out ≡ listings.listing x t base k l → listing_call n out ≡ listing_told (listings.listing x t base k l)
listing-told x t base k l n m a out p q e =
    ap (λ (v : ℤ). listing_call v out) (p ∙ ap (λ (r : Result ℕ ℕ). listing_number (held_count (told_written r))) q) ∙ listed-so a out (listings.listing x t base k l) e (count_held x t base k l)

pub ruleset tellings = (load_told_lem, find-told, list-told, write-told, listing-told, rules)
