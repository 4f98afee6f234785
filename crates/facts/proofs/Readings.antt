-- What holds at the start and is kept by each case of a move holds of the records of every description that was read.
use Prim.Native.Nat.{ℕ, zero, suc, ◌+◌, ◌≤◌}
use mathlib.Core.Path.{◌≡◌, refl, subst}
use mathlib.Core.List.{List}
use native.Mathlib.Omega.{arith}
use lib.ListN.{length}
use Rattle.text.specs.Answer.{Answer, given}
use Rattle.text.specs.Answer as text
use Rattle.records.specs.Records.{empty}
use Rattle.records.proofs.Encode.{Good, good-add, none-good}
use Rattle.rows.specs.Codes.{FILE}
use Rattle.rows.specs.Sections.{sections, file}
use Rattle.grammar.specs.Move.{view, state, items, applied, Move, went, over, refused}
use Rattle.grammar.specs.Read.{move, following, read_from, start, read}
use Rattle.grammar.proofs.Cells.{good-applied}
use Rattle.grammar.specs.declared.state.State.{State}
use Rattle.facts.proofs.Moves.{Goes, Calm, Cases, no_cases, move-goes}

-- what is asked of the records that were read
abbrev Given : (List (List (List ℕ)) → Type 0) → Answer (List (List (List ℕ))) → Type 0
Given Q (given d) = Q d
Given Q (text.refused n p) = Unit {0}

-- I holds of a state and the records so far, and gives Q where no parameter is to come
module _ (x : List ℕ) (I : State → List (List (List ℕ)) → Type 0) (Q : List (List (List ℕ)) → Type 0)
    (step : (s : State) (d : List (List (List ℕ))) → Good sections d → I s d → Cases (length x) (view d) s (λ t a. I t (applied a d)))
    (last : (s : State) (d : List (List (List ℕ))) → Good sections d → s.param ≡ 0 → I s d → Q d) where
  follows : (f : ℕ) → ((k : ℕ) (s : State) (d : List (List (List ℕ))) → k ≤ length x → Calm s → Good sections d → I s d → Given Q (read_from f x k s d))
      → (s : State) (d : List (List (List ℕ))) → Good sections d → I s d
      → (m : Move) → Goes (s.param ≡ 0) (λ e t a. (e ≤ length x) × Calm t × I t (applied a d)) m → Given Q (following m d (read_from f x))
  follows f ih s d g i (went e t a) q = ih e t (applied a d) q.0 q.1 (good-applied 0 a d g) q.2
  follows f ih s d g i over q = last s d g q i
  follows f ih s d g i (refused n p) q = tt

  from-keeps : (f k : ℕ) (s : State) (d : List (List (List ℕ))) → k ≤ length x → Calm s → Good sections d → I s d → Given Q (read_from f x k s d)
  unfolding read_from
  from-keeps zero k s d h m g i = tt
  from-keeps (suc f) k s d h m g i = follows f (from-keeps f) s d g i (move x (view d) s k) (move-goes x (view d) s (λ t a. I t (applied a d)) (step s d g i) m k h)

  -- for every description that was read
  pub read_has : I (state items FILE 0 0) start → (d : List (List (List ℕ))) → read x ≡ given d → Q d
  unfolding read start
  read_has i d e = subst (Given Q) e (from-keeps (length x + 1) 0 (state items FILE 0 0) start (omega arith) (λ q. refl) (good-add sections 0 (empty sections) (none-good sections) file) i)

-- the records are as wide as their sections, and no more than their most
pub read-good : (x : List ℕ) (d : List (List (List ℕ))) → read x ≡ given d → Good sections d
read-good x = read_has x (λ s d. Unit {0}) (Good sections) (λ s d g i. no_cases (length x) (view d) s) (λ s d g z i. g) tt
