-- What a reading of the text answers, in document 01's own numbers, and for each answer of the code which of these it is.
use Rattle.std.specs.Prelude.{ℕ, Bool, Option, Some, None, Result, Ok, Err, eqb}
use Rattle.text.specs.Walk.{Step, on, done}
use Rattle.text.specs.declared.cursor.Cursor.{Cursor}
use Rattle.text.specs.declared.cursor.Refusal.{Refusal}
use Rattle.text.specs.declared.cursor.Token.{Token}
use Rattle.text.specs.declared.cursor.Token.TheVariants as token
use Rattle.text.specs.declared.cursor.Item.{Item}
use Rattle.text.specs.declared.cursor.Item.TheVariants as item
use Rattle.text.specs.declared.cursor.Tag.{Tag}
use Rattle.text.specs.declared.cursor.Passed.{Passed}
use Rattle.text.specs.declared.cursor.Passed.TheVariants as passed

-- what was read, or the number of a refusal and its place
pub data Answer (A : Type 0) : Type 0 where
  given : A → Answer A
  refused : (number place : ℕ) → Answer A

-- an answer that goes on with what was read; a refusal stays as it is
abbrev pub with : {A B : Type 0} → Answer A → (A → Answer B) → Answer B
with (given a) f = f a
with (refused n p) f = refused n p

-- the same in a walk: on to the place that was read, or done with the refusal
abbrev pub on_to : {B : Type 0} → Answer ℕ → Step (Answer B)
on_to (given e) = on e
on_to (refused n p) = done (refused n p)

-- the kinds of a piece of text: a name, a string, a run that starts as a number does, a run in a skipped block, `/begin`, `/end`
pub data Kind : Type 0 where
  name string number run begin end : Kind

abbrev pub kind_number : Kind → ℕ
kind_number name = 0
kind_number string = 1
kind_number number = 2
kind_number run = 3
kind_number begin = 4
kind_number end = 5

-- the two kinds are the same
abbrev pub is : Kind → Kind → Bool
is k j = eqb (kind_number k) (kind_number j)

-- a piece from its first byte to the place past it, or the text's end
pub data Piece : Type 0 where
  piece : Kind → (start next : ℕ) → Piece
  finish : (place : ℕ) → Piece

-- what a reading up to a place answers: the place, or a refusal
abbrev pub reached : Result Cursor Refusal → Answer ℕ
reached (Ok c) = given c.at
reached (Err r) = refused r.no r.place

-- what passing a blank or a comment answers in a walk past them: on past one, done where none stands at k, or done with a refusal
abbrev pub gap_step : ℕ → Result (Option Cursor) Refusal → Step (Answer ℕ)
gap_step k (Ok (Some c)) = on c.at
gap_step k (Ok None) = done (given k)
gap_step k (Err r) = done (refused r.no r.place)

-- what reading a token answers: a piece, or a refusal
abbrev pub told : Result Token Refusal → Answer Piece
told (Ok (token.Name a c)) = given (piece name a c.at)
told (Ok (token.Text a c)) = given (piece string a c.at)
told (Ok (token.Number a c)) = given (piece number a c.at)
told (Ok (token.Begin a c)) = given (piece begin a c.at)
told (Ok (token.End a c)) = given (piece end a c.at)
told (Ok (token.Finish p)) = given (finish p)
told (Err r) = refused r.no r.place

-- what reading an item answers: a piece, or a refusal
abbrev pub told_item : Result Item Refusal → Answer Piece
told_item (Ok (item.Run a c)) = given (piece run a c.at)
told_item (Ok (item.Text a c)) = given (piece string a c.at)
told_item (Ok (item.Begin a c)) = given (piece begin a c.at)
told_item (Ok (item.End a c)) = given (piece end a c.at)
told_item (Ok (item.Finish p)) = given (finish p)
told_item (Err r) = refused r.no r.place

-- what reading a tag answers: the places of its first byte and past it, or a refusal
abbrev pub tagged : Result Tag Refusal → Answer (ℕ × ℕ)
tagged (Ok t) = given (t.start, t.next.at)
tagged (Err r) = refused r.no r.place

-- past an item of a skipped block, or past the `/end` that closes the block
pub data Pass : Type 0 where
  past : (next : ℕ) → Pass
  closes : (next : ℕ) → Pass

-- what passing an item answers: an item passed, the block's `/end`, or a refusal
abbrev pub skipped : Result Passed Refusal → Answer Pass
skipped (Ok (passed.Past c)) = given (past c.at)
skipped (Ok (passed.Closes c)) = given (closes c.at)
skipped (Err r) = refused r.no r.place
