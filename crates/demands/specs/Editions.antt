-- What the editions may differ in: "nothing but exact halves".
use Rattle.std.specs.Prelude.{ℕ, ◌≡◌, ℤ, pos, nat_abs}
use Rattle.number.specs.Answer.{given}
use Rattle.number.specs.Decimal.{Scaled}
use Rattle.convert.specs.declared.method.Coefficients.{Coefficients}
use Rattle.convert.specs.Asked.{asked_of}
use Rattle.tables.specs.Form.{Tables}
use Rattle.tables.specs.declared.setting.Setting.{Setting}
use Rattle.look.specs.Calls.{Wanted, raw_number, physical_text, asks_by}
use Rattle.demands.specs.Nearest.{divisor_at, twice_off}

-- a base address and an edition
abbrev pub setting_of : ℕ → ℕ → Setting
setting_of base edition = record { base = base; edition = edition }

-- the quotient that the asked value P gives is an exact half: there is one, and it lies half a step from a whole number
pub record IsHalf (k : Coefficients) (p : Scaled) : Type 0 where
  pub some : divisor_at k p ≡ pos 0 → ⊥
  pub beside : ℤ
  pub half : twice_off k p beside ≡ nat_abs (divisor_at k p)

-- a write to an element of group g asks for one. (A raw number is stored as it is.)
abbrev pub AsksHalf : Tables → ℕ → Wanted → Type 0
AsksHalf T g (raw_number z) = ⊥
AsksHalf T g (physical_text s) = (p : Scaled) × (asked_of s ≡ given p) × IsHalf (asks_by T g) p
