-- A number times a power of ten, as so many divisors and a rest. (No public promise speaks of this.)
use Rattle.std.specs.Prelude.{ℕ, ◌+◌, ◌*◌, ◌^◌, ◌<◌, ◌≡◌}

pub record Divides (n t d whole rest : ℕ) : Type 0 where
  pub same : rest + whole * d ≡ n * 10 ^ t
  pub less : rest < d
