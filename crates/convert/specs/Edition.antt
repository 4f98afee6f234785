-- The editions of a description, and the rule on halves that each has.
use Rattle.std.specs.Prelude.{Bool, cond, ◌||◌, ℕ, eqb}
use Rattle.convert.specs.Round.{Halves, away, to_even}

abbrev pub edition_one : ℕ
edition_one = 1

abbrev pub edition_two : ℕ
edition_two = 2

-- "The load takes the edition, 1 or 2"
unfoldable pub is_edition : ℕ → Bool
is_edition e = eqb e edition_one || eqb e edition_two

-- "From description edition 2 the maker's own tool rounds halves to the even neighbour"; "Edition 1 stays halves away from zero."
unfoldable pub halves_of : ℕ → Halves
halves_of e = cond (eqb e edition_two) to_even away
