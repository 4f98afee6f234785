-- What the inner functions give; no public promise speaks of it.
use Rattle.std.specs.Prelude.{ℕ, ◌+◌, ◌*◌, ◌%◌, ◌^◌, ◌≤◌, ◌<◌, List, [], ◌∷◌, ◌++◌, ◌≡◌, Bool, cond, ◌&&◌, length, drop, leb, Option, Some, None, Result, Ok, Err}
use Rattle.number.specs.Digits.{leading, value_on}
use Rattle.number.specs.Answer.{Answer, refused}
use Rattle.number.specs.Decimal.{Scaled, most_digits, most_after, most_whole, lowest, judged_decimal}
use Rattle.number.specs.Told.{exponent_in}
use Rattle.number.specs.declared.exponent.Exponent.{Exponent}
use Rattle.number.specs.declared.digits.NoForm.{NoForm}
use Rattle.decimals.specs.declared.gather.Part.{Part}
use Rattle.decimals.specs.declared.gather.Gathered.{Gathered}

-- a number of at most ten digits, and 10^10 for every other
unfoldable pub capped : ℕ → ℕ
capped n = cond (leb n most_whole) n 10000000000

-- more than ten digits from the first to the last that is not 0
pub record Wide (n : ℕ) : Type 0 where
  pub kept : ℕ
  pub zeros : ℕ
  pub is : n ≡ kept * 10 ^ zeros
  pub last : kept % 10 ≡ 0 → ⊥
  pub wide : most_whole < kept

-- zeros are counted apart only where m has ten digits
abbrev pub Full : Part → Type 0
Full p = 0 < p.z → 999999999 < p.m

-- n as a part, one digit after z zeros: at most ten digits that count and the zeros after them, or more
pub record Kept (n z : ℕ) (p : Part) : Type 0 where
  pub same : p.m * 10 ^ p.z ≡ n
  pub most : p.m ≤ most_whole
  pub few : p.z ≤ z + 1
  pub full : Full p

abbrev pub Adds : ℕ → ℕ → Result Part NoForm → Type 0
Adds n z (Ok p) = Kept n z p
Adds n z (Err e) = Wide n

-- digits from a place up to an end that make n into a part
pub record KeptDigits (s : List ℕ) (at n : ℕ) (g : Gathered) : Type 0 where
  pub place : g.end ≡ at + length (leading (drop at s))
  pub value : g.part.m * 10 ^ g.part.z ≡ value_on 10 n (leading (drop at s))
  pub most : g.part.m ≤ most_whole
  pub full : Full g.part
  pub few : g.part.z ≤ g.end

-- what digits from a place on make of n
abbrev pub Gathers : List ℕ → ℕ → ℕ → Result Gathered NoForm → Type 0
Gathers s at n (Ok g) = KeptDigits s at n g
Gathers s at n (Err e) = Wide (value_on 10 n (leading (drop at s)))

-- what stands from the E on, or nothing
abbrev pub some_in : Result Exponent NoForm → Result (Option Exponent) NoForm
some_in (Ok x) = Ok (Some x)
some_in (Err e) = Err e

unfoldable pub exponent_after : List ℕ → Result (Option Exponent) NoForm
exponent_after [] = Ok None
exponent_after (b ∷ x) = some_in (exponent_in x)

-- n over 10^t, the point moved down or up
unfoldable pub moved_by : Bool → ℕ → Bool → ℕ → ℕ → Scaled
moved_by down by negative n t = cond down (lowest negative n (t + by)) (lowest negative (n * 10 ^ by) t)

-- the number n, i of its digits before the point and f after it, by an exponent
unfoldable pub made_by : Option Exponent → Bool → ℕ → ℕ → ℕ → Answer Scaled
made_by None negative n i f = cond (leb (i + f) most_digits && leb f most_after) (judged_decimal (lowest negative n f)) (refused 2)
made_by (Some x) negative n i f = judged_decimal (moved_by x.down x.by negative n f)

-- the digits i before the point and f after it
unfoldable pub how_of : Option Exponent → Bool → List ℕ → List ℕ → Answer Scaled
how_of x negative i f = cond (leb 1 (length i)) (made_by x negative (value_on 10 0 (i ++ f)) (length i) (length f)) (refused 2)
