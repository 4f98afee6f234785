-- How the C functions tell an answer as a number, in the words of include/obarsivel.h, and what the lent buffers hold after a call.
use Rattle.std.specs.Prelude.{ℕ, zero, suc, ◌+◌, ◌*◌, ◌%◌, ◌^◌, List, [], ◌∷◌, false, ◌&&◌, leb, Float, ℤ, pos, negsuc, neg_ℤ, length, Option, Some, None, Result, Ok, Err}
use Rattle.std.specs.Float.{fin}
use Rattle.text.specs.Answer as placed
use Rattle.text.specs.declared.cursor.Refusal.{Refusal}
use Rattle.number.specs.Answer.{Answer, given, refused}
use Rattle.convert.specs.Shown.{Display, real, words, nothing}
use Rattle.convert.specs.declared.fraction.Physical.{Physical}
use Rattle.load.specs.Load.{Loaded}
use Rattle.look.specs.Calls.{Reading, Kept, After, unless}
use Rattle.look.specs.Lines.{laid_over}
use Rattle.listing.specs.Listing.{Listed}
use Rattle.look.specs.Refused.{refusal_number}
use Rattle.look.specs.declared.refusal.CallRefusal.{CallRefusal}

-- ---- obarsivel_version

-- "MAJOR * 65536 + MINOR * 256 + PATCH"
abbrev pub version_number : ℕ → ℕ → ℕ → ℕ
version_number major minor patch = major * 65536 + minor * 256 + patch

-- version 0.3.0
abbrev pub version : ℕ
version = version_number 0 3 0

-- ---- obarsivel_load

-- what a load answers in the code
abbrev pub told_load : Result (Unit {0}) Refusal → placed.Answer (Unit {0})
told_load (Ok u) = placed.given tt
told_load (Err r) = placed.refused r.no r.place

-- "Answers 0 (accepted), or place * 64 + number" (a place is below 2^32: a description has at most 2^24 bytes)
abbrev pub load_number : placed.Answer (Unit {0}) → ℕ
load_number (placed.given a) = 0
load_number (placed.refused n p) = p % 2 ^ 32 * 64 + n

-- the number, and what tables and work hold
pub record LoadCall : Type 0 where
  pub number : ℕ
  pub tables : List ℕ
  pub work : List ℕ

abbrev pub load_call : ℕ → List ℕ → List ℕ → LoadCall
load_call n t w = record { number = n; tables = t; work = w }

unfoldable pub load_told : Loaded → LoadCall
load_told o = load_call (load_number o.answer) o.tables o.work

-- ---- a refusal as a number

-- an answer with its refusal told by number
abbrev pub by_number : {A : Type 0} → Result A CallRefusal → Result A ℕ
by_number (Ok a) = Ok a
by_number (Err r) = Err (refusal_number r)

-- what is answered where the refusals are told by number: a search, a call on the list, a listing
abbrev pub told_found : Result (Option ℕ) ℕ → Answer ℕ
told_found (Ok (Some i)) = given (suc i)
told_found (Ok None) = given 0
told_found (Err n) = refused n

abbrev pub told_done : Result (Unit {0}) ℕ → Answer (Unit {0})
told_done (Ok u) = given tt
told_done (Err n) = refused n

abbrev pub told_written : Result ℕ ℕ → Answer ℕ
told_written (Ok n) = given n
told_written (Err n) = refused n

-- ---- obarsivel_find

-- "Answers its number .., -1 if none bears it, or -20, -22" (the search tells a number as one more, and none as 0)
abbrev pub find_number : Answer ℕ → ℤ
find_number (given zero) = negsuc 0
find_number (given (suc i)) = pos i
find_number (refused n) = neg_ℤ (pos n)

-- ---- obarsivel_read

-- "what is shown (0 nothing, 1 the number in shown[0], 2 the text whose places are first and second)"
abbrev pub kind_shown : Display → ℤ
kind_shown (real x) = pos 1
kind_shown (words a b) = pos 2
kind_shown nothing = pos 0

-- the shown number, 0 where there is none
abbrev pub number_shown : Display → Float
number_shown (real x) = x
number_shown (words a b) = fin false 0 (pos 0)
number_shown nothing = fin false 0 (pos 0)

-- "0 to 4 become: raw value, state, first, second, what is shown"
abbrev pub five_of : ℤ → Physical → Display → List ℤ
five_of raw p d = raw ∷ pos p.state ∷ p.first ∷ p.second ∷ kind_shown d ∷ []

-- the number, and what the two lent slices hold
pub record ReadCall : Type 0 where
  pub number : ℕ
  pub out : List ℤ
  pub shown : List Float

abbrev pub read_call : ℕ → List ℤ → List Float → ReadCall
read_call n out shown = record { number = n; out = out; shown = shown }

-- "Answers 0, or 20, 22, 14": a refusal leaves both as they were
abbrev pub read_by : Answer Reading → List ℤ → List Float → ReadCall
read_by (given r) out shown = read_call 0 (laid_over (five_of r.raw r.value r.display) out) (laid_over (number_shown r.display ∷ []) shown)
read_by (refused n) out shown = read_call n out shown

-- "out: 5 cells or more", "shown: 1 cell or more"; "20 comes first"
unfoldable pub read_told : Answer Reading → List ℤ → List Float → ReadCall
read_told a out shown = read_by (unless (leb 5 (length out) && leb 1 (length shown)) 20 a) out shown

-- ---- obarsivel_make_list, obarsivel_write_raw, obarsivel_write_physical

-- "Answers 0, or" the refusal's number
abbrev pub call_number : Answer (Unit {0}) → ℕ
call_number (given a) = 0
call_number (refused n) = n

-- the number, and what image and columns hold
pub record ListCall : Type 0 where
  pub number : ℕ
  pub left : Kept

abbrev pub list_call : ℕ → Kept → ListCall
list_call n k = record { number = n; left = k }

unfoldable pub list_told : After → ListCall
list_told a = list_call (call_number a.answer) a.left

-- ---- obarsivel_listing

-- "Answers how many bytes it wrote, or -20 .., -22"
abbrev pub listing_number : Answer ℕ → ℤ
listing_number (given n) = pos n
listing_number (refused n) = neg_ℤ (pos n)

-- a count as 63 bits hold it (no listing has more: proofs/ListingSize.antt)
abbrev pub held_count : Answer ℕ → Answer ℕ
held_count (given n) = given (n % 2 ^ 63)
held_count (refused n) = refused n

-- the number, and what the lent buffer holds
pub record ListingCall : Type 0 where
  pub number : ℤ
  pub out : List ℕ

abbrev pub listing_call : ℤ → List ℕ → ListingCall
listing_call n out = record { number = n; out = out }

unfoldable pub listing_told : Listed → ListingCall
listing_told l = listing_call (listing_number l.answer) l.out
