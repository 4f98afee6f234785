-- THE THIRD DEMAND: "An accepted write changes at most the masked bits of the named element, and no list line that shares no byte with it."
--     write-framed              every write, in an image of bytes
use Prim.Native.Nat.{ℕ, ◌<◌}
use mathlib.Core.List.{List}
use lib.ListN.{get_or}
use Rattle.look.specs.Calls.{Kept, Request, group_in, writing}
use Rattle.demands.proofs.Runs as runs
use Rattle.demands.specs.Frames.{Frame}

pub write-framed : (t : List ℕ) (n base : ℕ) (k : Kept) (q : Request) → ((j : ℕ) → get_or k.image j 0 < 256) → Frame t (group_in q) q.index k (writing t n base k q).left
write-framed t n base k q b =
    record {
      long = runs.length-kept t n base k q;
      others = runs.bytes-outside-kept t n base k q;
      bits = runs.bits-outside-kept t n base k q b;
      lines = runs.line-apart-kept t n base k q;
      rest = runs.rest-kept t n base k q;
    }
