-- What the code's answers say, case by case.
use Rattle.std.specs.Prelude.{ℕ, suc, Option, Some, None, Result, Ok, Err}
use Rattle.number.specs.Answer.{Answer, given, refused}
use Rattle.convert.specs.Told.{told_shown}
use Rattle.look.specs.Calls.{Reading, Kept, After}
use Rattle.look.specs.Refused.{refusal_number}
use Rattle.look.specs.declared.refusal.CallRefusal.{CallRefusal}
use Rattle.look.specs.declared.read.Reading as code

-- an object's number and one more, 0 for none
abbrev pub told_search : Result (Option ℕ) CallRefusal → Answer ℕ
told_search (Ok (Some i)) = given (suc i)
told_search (Ok None) = given 0
told_search (Err r) = refused (refusal_number r)

abbrev pub told_reading : code.Reading → Reading
told_reading r = record { raw = r.raw; value = r.physical; display = told_shown r.shown }

abbrev pub told_read : Result code.Reading CallRefusal → Answer Reading
told_read (Ok r) = given (told_reading r)
told_read (Err r) = refused (refusal_number r)

abbrev pub told_call : Result (Unit {0}) CallRefusal → Answer (Unit {0})
told_call (Ok u) = given tt
told_call (Err r) = refused (refusal_number r)

-- what a call answers, with what is kept after it
abbrev pub after : Result (Unit {0}) CallRefusal → Kept → After
after r k = record { answer = told_call r; left = k }

-- the same of any answer whose refusals a rule tells by number
abbrev pub told_by : {A R : Type 0} → (R → ℕ) → Result A R → Answer A
told_by tell (Ok a) = given a
told_by tell (Err r) = refused (tell r)

abbrev pub after_by : {R : Type 0} → (R → ℕ) → Result (Unit {0}) R → Kept → After
after_by tell r k = record { answer = told_by tell r; left = k }
