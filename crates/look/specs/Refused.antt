-- The documents' numbers of what is refused.
use Rattle.std.specs.Prelude.{ℕ, Result, Ok, Err}
use Rattle.convert.specs.Told.{raw_refusal_number}
use Rattle.look.specs.declared.refusal.CallRefusal.{CallRefusal}
use Rattle.look.specs.declared.refusal.CallRefusal.TheVariants as no

abbrev pub refusal_number : CallRefusal → ℕ
refusal_number no.NoElement = 14
refusal_number (no.Raw r) = raw_refusal_number r
refusal_number no.OnCount = 19
refusal_number no.BadSize = 20
refusal_number no.Forbidden = 21
refusal_number no.BrokenRule = 22

-- the number of what is refused, 0 where nothing is
abbrev pub number_of : {A : Type 0} → Result A CallRefusal → ℕ
number_of (Ok a) = 0
number_of (Err r) = refusal_number r
