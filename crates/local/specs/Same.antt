-- How much of a text a refusal rests on (proofs/Refused.antt).
use Rattle.std.specs.Prelude.{ℕ, ◌+◌, ◌≡◌, List, take}

-- a token ends at "the next blank, comment or quote": for one that ends before e two bytes more are looked at, since a comment starts with two
abbrev pub seen_to : ℕ → ℕ
seen_to e = e + 2

-- two texts that are the same up to there
abbrev pub SameTo : ℕ → List ℕ → List ℕ → Type 0
SameTo e x y = take (seen_to e) x ≡ take (seen_to e) y
