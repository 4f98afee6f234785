-- A run of writes.
use Rattle.std.specs.Prelude.{ℕ, List, [], ◌∷◌}
use Rattle.look.specs.Calls.{Kept, Request, writing}

-- after a run of requests, refused ones included
abbrev pub running : List ℕ → ℕ → ℕ → Kept → List Request → Kept
running t n base k [] = k
running t n base k (q ∷ qs) = running t n base (writing t n base k q).left qs
