-- Decimals with and without an exponent, in a description and in a write.
use Prim.Native.Nat.{ℕ, ◌-◌}
use mathlib.Core.Path.{◌≡◌, sym, ◌∙◌, ap}
use mathlib.Core.List.{List}
use mathlib.Core.Bool.{Bool, true, false}
use lib.Dec.{leb}
use lib.ListN.{take, drop}
use Rattle.number.specs.Answer.{Answer, given, refused}
use Rattle.number.specs.Decimal.{Scaled, decimal_of}
use Rattle.number.specs.Exact.{Exact, SameNumber}
use Rattle.number.proofs.Laws.{run-given}
use Rattle.number.proofs.Exponents.{decimal-exact}
use Rattle.number.proofs.OneReading.{one-reading}
use Rattle.convert.specs.Asked.{or_refused, as_decimal, asked_of, rounded_raw, asked_raw}
use Rattle.tree.specs.Tree.{Decimal}
use Rattle.look.specs.Calls.{Kept, physical_text, request, judged_request, writing}

-- a token that is a decimal is exactly what its bytes write
pub token-exact : (x : List ℕ) (k e : ℕ) (m : Scaled) (d : Decimal x k m e) → Exact (take (e - d.0) (drop d.0 x)) m
token-exact x k e m d = decimal-exact (take (e - d.0) (drop d.0 x)) m (run-given decimal_of x d.0 e m (sym d.2))

-- an asked value is a decimal
asked-turn : (d e : Scaled) (b : Bool) → or_refused 15 b e ≡ given d → given d ≡ given e
asked-turn d e true q = sym q
asked-turn d e false q = cc

asked-read : (d : Scaled) (a : Answer Scaled) → as_decimal a ≡ given d → given d ≡ a
asked-read d (given e) q = asked-turn d e (leb e.whole 1000000000) q
asked-read d (refused k) q = cc

pub asked-exact : (s : List ℕ) (d : Scaled) → asked_of s ≡ given d → Exact s d
unfolding asked_of
asked-exact s d q = decimal-exact s d (asked-read d (decimal_of s) q)

-- two texts that write one number ask for the same
pub asked-alike : (t : List ℕ) (n base : ℕ) (c : Kept) (i p j : ℕ) (s r : List ℕ) (d e : Scaled) → decimal_of s ≡ given d → decimal_of r ≡ given e → SameNumber s r
    → writing t n base c (request i p j (physical_text s)) ≡ writing t n base c (request i p j (physical_text r))
unfolding writing judged_request asked_raw rounded_raw asked_of
asked-alike t n base c i p j s r d e q u w =
    let z : decimal_of s ≡ decimal_of r = q ∙ ap given (one-reading s r d e (sym q) (sym u) w) ∙ sym u in
    rw z
