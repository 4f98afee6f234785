-- What the code's answers say, case by case, with document 01's numbers.
use Rattle.std.specs.Prelude.{ℤ, Option, Some, None}
use Rattle.number.specs.Answer.{Answer, given, refused}

abbrev pub told_typed : Option ℤ → Answer ℤ
told_typed (Some z) = given z
told_typed None = refused 15
