-- Editions: the code's branches as laws, which `search editions` applies.
use mathlib.Core.Path.{◌≡◌, refl, sym}
use mathlib.Core.Bool.{Bool, true, false, ◌||◌}
use mathlib.Core.Logic.{◌⊎◌, inl, inr}
use Prim.Native.Nat.{ℕ, ◌%◌}
use borrow.Author.Rules.{rules}
use borrow.Author.Tests.{eqb-true, ne_eqb}
use lib.Dec.{eqb}
use Rattle.cell.proofs.Types.{clash}
use Rattle.convert.specs.Round.{away, to_even}
use Rattle.convert.specs.Edition.{edition_one, edition_two, is_edition, halves_of}

pub edition-is : (e : ℕ) → (eqb e 1 || eqb e 2) ≡ is_edition e
unfolding is_edition
edition-is e = refl

pub to-even : (e q : ℕ) → e ≡ 2 → eqb (q % 2) 1 ≡ halves_of e q
unfolding halves_of
to-even e q h = rw h

pub always-up : (e q : ℕ) → (e ≡ 2 → ⊥) → true ≡ halves_of e q
unfolding halves_of
always-up e q h = rw (ne_eqb e 2 h)

-- ---- the test is the sentence
pub one_or_two : (e : ℕ) → is_edition e ≡ true → (e ≡ edition_one) ⊎ (e ≡ edition_two)
unfolding is_edition
one_or_two e = go (eqb e edition_one) (eqb e edition_two) refl refl
  where
    go : (a b : Bool) → eqb e edition_one ≡ a → eqb e edition_two ≡ b → (a || b) ≡ true → (e ≡ edition_one) ⊎ (e ≡ edition_two)
    go true b p q h = inl (eqb-true e edition_one p)
    go false true p q h = inr (eqb-true e edition_two q)
    go false false p q h = clash (sym h)

pub is-one-or-two : (e : ℕ) → (e ≡ edition_one) ⊎ (e ≡ edition_two) → is_edition e ≡ true
unfolding is_edition
is-one-or-two e (inl h) = rw h
is-one-or-two e (inr h) = rw h

-- and each has its rule
pub one-is-away : halves_of edition_one ≡ away
unfolding halves_of
one-is-away = refl

pub two-is-even : halves_of edition_two ≡ to_even
unfolding halves_of
two-is-even = refl

pub ruleset editions = (edition-is, to-even, always-up, rules)
