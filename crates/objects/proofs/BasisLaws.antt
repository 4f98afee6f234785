-- What an object rests on, by the branches that the code takes.
use Prim.Native.Nat.{ℕ, min}
use mathlib.Core.Path.{◌≡◌, ◌∙◌}
use mathlib.Core.List.{List}
use borrow.Author.Rules.{rules}
use borrow.Author.Tests.{eq-eqb, ne_eqb}
use Rattle.rows.specs.Sections.{object}
use Rattle.rows.specs.Slots.{block_code, object_type, object_address}
use Rattle.grammar.specs.Move.{View}
use Rattle.place.specs.declared.order.Layout.{Layout}
use Rattle.place.specs.declared.walk.Ground.{Ground}
use Rattle.objects.specs.Object.{layout_at, measured, layout_number, layout_of, aligns_of, first_of, ground_of, basis_of}
use Rattle.objects.specs.declared.basis.Basis.{Basis}

-- n is the number of the layout, g the ground by it, c the code of the object's word
module _ (x : List ℕ) (v : View) (base i n : ℕ) (g : Ground) (c : ℕ) (pn : n ≡ layout_number x v i)
    (pg : g ≡ record { address = min (v.slots object i object_address) 4294967295; base = base; first = first_of v i; aligns = aligns_of v n }) (p : c ≡ v.slots object i block_code) where
  ground : g ≡ ground_of x v base i
  unfolding ground_of
  ground = pg ∙ rw pn

  pub basis-measured : c ≡ 10 → (k : ℕ) (l : Layout) → k ≡ v.slots object i object_type → l ≡ measured k → ◌≡◌ {A = Basis} (record { number = n; layout = l; footing = g }) (basis_of x v base i)
  unfolding layout_of
  basis-measured h k l pk pl = rw (pn, ground, ← p, eq-eqb c 10 h, pl, pk)

  pub basis-own : (c ≡ 10 → ⊥) → (l : Layout) → l ≡ layout_at v n → ◌≡◌ {A = Basis} (record { number = n; layout = l; footing = g }) (basis_of x v base i)
  unfolding layout_of
  basis-own h l pl = rw (pl, pn, ground, ← p, ne_eqb c 10 h)

pub ruleset bases = (basis-measured, basis-own, rules)
