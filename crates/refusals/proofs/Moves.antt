-- The refusals of the text stage: a number from 1 to 13, and a place in the text or its length.
use Prim.Native.Nat.{ℕ, zero, suc, ◌+◌, ◌≤◌, ◌<◌}
use mathlib.Core.Path.{◌≡◌, refl}
use mathlib.Core.List.{List}
use native.Mathlib.Omega.{arith}
use lib.ListN.{length}
use Rattle.text.specs.Answer as text
use Rattle.text.specs.Answer.{Answer, given}
use Rattle.rows.specs.Codes.{FILE}
use Rattle.grammar.specs.Move.{view, state, items, applied, Move, went, over, refused}
use Rattle.grammar.specs.Read.{move, following, read_from, start, read}
use Rattle.grammar.specs.declared.state.State.{State}
use Rattle.facts.proofs.Moves.{Leads, Calm, no_cases, move-leads}
use Rattle.facts.proofs.Numbers.{Number}

-- a refusal has its number, and its place is at most n
abbrev pub Answered : {A : Type 0} → ℕ → Answer A → Type 0
Answered n (given a) = Unit {0}
Answered n (text.refused k p) = Number k × (p ≤ n)

abbrev Records : Type 0
Records = List (List (List ℕ))

-- every refusal of the text stage
module _ (x : List ℕ) where
  follows : (f k : ℕ) (s : State) (d : Records) → ((e : ℕ) (t : State) (u : Records) → e ≤ length x → Calm t → Answered (length x) (read_from f x e t u))
      → (m : Move) → Leads (s.param ≡ 0) (λ e t a. (k < e) × (e ≤ length x) × Calm t × (e ≤ 0 → Unit {0})) (λ n p. (Number n × (p ≤ length x)) × (k ≤ p)) m
      → Answered (length x) (following m d (read_from f x))
  follows f k s d ih (went e t a) q = ih e t (applied a d) q.1 q.2
  follows f k s d ih over q = tt
  follows f k s d ih (refused n p) q = q.0

  from_told : (f k : ℕ) (s : State) (d : Records) → k ≤ length x → Calm s → Answered (length x) (read_from f x k s d)
  unfolding read_from
  from_told zero k s d h c = omega arith
  from_told (suc f) k s d h c = follows f k s d (from_told f) (move x (view d) s k) (move-leads x (view d) s (λ t a. Unit {0}) 0 (no_cases 0 (view d) s) k h c)

  pub read_told_lem : Answered (length x) (read x)
  unfolding read
  read_told_lem = from_told (length x + 1) 0 (state items FILE 0 0) start (omega arith) (λ u. refl)
