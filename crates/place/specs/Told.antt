-- What the code's answers say, case by case, with document 01's numbers.
use Rattle.std.specs.Prelude.{ℕ, Result, Ok, Err}
use Rattle.number.specs.Answer.{Answer, given, refused}
use Rattle.place.specs.declared.judge.Standing.{Standing}
use Rattle.place.specs.declared.refusal.PlaceRefusal.{PlaceRefusal}
use Rattle.place.specs.declared.refusal.PlaceRefusal.TheVariants.{OverCapacity, BreaksPlace, OutsideImage, CountOutOfRange}
use Rattle.place.specs.declared.walk.Reached.{Reached}

-- "more than a capacity" (8), "layout breaks the rules of place, or lacks a part its object needs" (11), "a byte outside the image" (12), "a count out of range" (13)
abbrev pub place_refusal_number : PlaceRefusal → ℕ
place_refusal_number OverCapacity = 8
place_refusal_number BreaksPlace = 11
place_refusal_number OutsideImage = 12
place_refusal_number CountOutOfRange = 13

abbrev pub told_count : Result ℕ PlaceRefusal → Answer ℕ
told_count (Ok n) = given n
told_count (Err r) = refused (place_refusal_number r)

abbrev pub told_placed : Result Reached PlaceRefusal → Answer Reached
told_placed (Ok s) = given s
told_placed (Err r) = refused (place_refusal_number r)

abbrev pub told_judged : Result Standing PlaceRefusal → Answer Standing
told_judged (Ok s) = given s
told_judged (Err r) = refused (place_refusal_number r)
