-- The table of the bytes that go on a run whatever stands after them.
use Rattle.std.proofs.Common.{ℕ, zero, suc, ◌+◌, ◌<◌, ◌≡◌, ◌∙◌, List, [], ◌∷◌, Bool, false, ap, sym, refl, arith, slice_index_or}
use Rattle.std.specs.Prelude.{◌&&◌, not, eqb, get_or}
use Rattle.text.specs.Bytes.{is_allowed}
use Rattle.text.specs.declared.bytes.TheConstants.{INNER}

abbrev inner : ℕ → Bool
inner b = is_allowed b && not (eqb b 34) && not (eqb b 47)

-- what so many bytes from one on are
unfoldable inners : ℕ → ℕ → List Bool
inners zero b = []
inners (suc n) b = inner b ∷ inners n (suc b)

inners-are : INNER ≡ inners 256 0
unfolding inners is_allowed
inners-are = refl

at : (n b i : ℕ) → i < n → get_or (inners n b) i false ≡ inner (b + i)
unfolding inners
at zero b i h = elim h [ ]
at (suc n) b zero h = let e : b ≡ b + 0 = omega arith in ap inner e
at (suc n) b (suc i) h = let e : suc b + i ≡ b + suc i = omega arith in at n (suc b) i (omega (arith, h)) ∙ ap inner e

pub inner-at : (b : ℕ) (r : Bool) → b < 256 → r ≡ get_or INNER b false → r ≡ (is_allowed b && not (eqb b 34) && not (eqb b 47))
inner-at b r h e = let z : 0 + b ≡ b = omega arith in e ∙ ap (λ t. get_or t b false) inners-are ∙ at 256 0 b h ∙ ap inner z

pub ruleset inner-rules = (inner-at, arith)
