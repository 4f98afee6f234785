-- "the text from the start, the first offence by place": the text from its start up to two bytes past the offending token decides a refusal.
--     refusal-local     a refusal of the text stage depends on nothing after its token
-- Two bytes past the token's end are looked at, since a comment may start there: `A/*` ends a name, `A/x` does not.
use Prim.Native.Nat.{ℕ, zero, suc, ◌+◌, ◌≤◌, ◌<◌}
use mathlib.Core.Path.{◌≡◌, refl, sym, subst}
use mathlib.Core.List.{List}
use native.Mathlib.Omega.{arith}
use lib.ListN.{length, take}
use Rattle.text.specs.Answer.{Answer, given, refused}
use Rattle.records.specs.Records.{empty}
use Rattle.records.proofs.Encode.{Good, good-add, none-good}
use Rattle.rows.specs.Codes.{FILE}
use Rattle.rows.specs.Sections.{sections, file}
use Rattle.grammar.specs.Move as grammar
use Rattle.grammar.specs.Move.{view, state, items, applied, Move, went, over}
use Rattle.grammar.specs.Read.{move, following, read_from, start, read}
use Rattle.grammar.specs.declared.state.State.{State}
use Rattle.grammar.proofs.Cells.{good-applied}
use Rattle.facts.proofs.Numbers.{Number}
use Rattle.facts.proofs.Moves.{Leads, Calm, no_cases, move-leads}
use Rattle.local.specs.Token.{TokenTo}
use Rattle.local.specs.Same.{seen_to, SameTo}
use Rattle.local.proofs.Tokens.{EarlyAt, to_inside, to_end}
use Rattle.local.proofs.Near.{cut-same}
use Rattle.local.proofs.Before.{Before, before-start, went-ahead, before-went}
use Rattle.local.proofs.MoveLocal.{EarlyMove, move-near}

-- ---- the place of a refusal lies ahead

abbrev Records : Type 0
Records = List (List (List ℕ))

abbrev Ahead : ℕ → Answer Records → Type 0
Ahead k (given d) = Unit {0}
Ahead k (refused n p) = k ≤ p

later : (k e : ℕ) (a : Answer Records) → k < e → Ahead e a → Ahead k a
later k e (given d) h q = tt
later k e (refused n p) h q = omega arith

module _ (x : List ℕ) where
  follows-ahead : (f k : ℕ) (d : Records) → ((e : ℕ) (s : State) (u : Records) → e ≤ length x → Calm s → Ahead e (read_from f x e s u))
      → (w : Move) → (E : Type 0) → Leads E (λ e t a. (k < e) × (e ≤ length x) × Calm t × (e ≤ 0 → Unit {0})) (λ n p. (Number n × (p ≤ length x)) × (k ≤ p)) w → Ahead k (following w d (read_from f x))
  follows-ahead f k d ih (went e t a) E q = later k e (read_from f x e t (applied a d)) q.0 (ih e t (applied a d) q.1 q.2)
  follows-ahead f k d ih over E q = tt
  follows-ahead f k d ih (grammar.refused n p) E q = q.1

  from-ahead : (f k : ℕ) (s : State) (d : Records) → k ≤ length x → Calm s → Ahead k (read_from f x k s d)
  unfolding read_from
  from-ahead zero k s d h c = h
  from-ahead (suc f) k s d h c = follows-ahead f k d (from-ahead f) (move x (view d) s k) (s.param ≡ 0) (move-leads x (view d) s (λ t a. Unit {0}) 0 (no_cases 0 (view d) s) k h c)

-- ---- a refusal at p, whose token ends two bytes before m

given-is-none : (d : Records) (n p : ℕ) → given d ≡ refused n p → ⊥
given-is-none d n p q = let z : ◌≡◌ {A = ℕ} 0 1 = cc in omega arith

module _ (m : ℕ) (x y : List ℕ) (same : take m x ≡ take m y) (n p : ℕ) (early : EarlyAt m x p) where
  -- a place that is reached lies before m
  reached : (f k : ℕ) (s : State) (d : Records) → k ≤ length x → Calm s → read_from f x k s d ≡ refused n p → k + 2 < m
  reached f k s d h c q =
      let l : k ≤ p = subst (Ahead k) q (from-ahead x f k s d h c) in
      omega (arith, (to_inside early.to).0, early.early)

  -- with f tokens left to read in the one text and g in the other
  abbrev Same : ℕ → Type 0
  Same f = (g k : ℕ) (s : State) (d : Records) → k ≤ length x → length y < g + k → Calm s → Good sections d → Before k d → read_from f x k s d ≡ refused n p → read_from g y k s d ≡ refused n p

  module _ (f g k : ℕ) (s : State) (d : Records) (ih : Same f) (h : k ≤ length x) (l : length y < suc g + k) (c : Calm s) (good : Good sections d) (b : Before k d) (r : k + 2 < m) where
    near : EarlyMove m x y same (move x (view d) s k) → move y (view d) s k ≡ move x (view d) s k
    near = move-near m x y same (view d) s (λ j i t. omega (arith, (b j i t).0.1)) c k h

    follows : (w : Move) → move x (view d) s k ≡ w → following w d (read_from f x) ≡ refused n p → following (move y (view d) s k) d (read_from g y) ≡ refused n p
    follows (went e t a) q u =
        let o = went-ahead x d s k h c e t a q in
        let z : e + 2 < m = reached f e t (applied a d) o.1 o.2 u in
        rw (near (subst (EarlyMove m x y same) (sym q) (omega arith)), q)
        (ih g e t (applied a d) o.1 (omega (arith, o.0)) o.2 (good-applied 0 a d good) (before-went x d s k h c e t a q good b) u)
    follows over q u = absurd (given-is-none d n p u)
    follows (grammar.refused i j) q u =
        let z : p ≡ j = cc in
        rw (near (subst (EarlyMove m x y same) (sym q) (subst (EarlyAt m x) z early)), q) u

  from-same : (f : ℕ) → Same f
  unfolding read_from
  from-same zero g k s d h l c good b q = let z : p ≡ length x = cc in absurd (to_end x early.end (subst (λ i. TokenTo x i early.end) z early.to))
  from-same (suc f) zero k s d h l c good b q = let r : k + 2 < m = reached (suc f) k s d h c q in absurd (omega (arith, cut-same m x y same))
  from-same (suc f) (suc g) k s d h l c good b q = follows f g k s d (from-same f) h l c good b (reached (suc f) k s d h c q) (move x (view d) s k) refl q

-- A refusal of the text stage depends on nothing after its token.
pub refusal-local : (x y : List ℕ) (n p e : ℕ) → TokenTo x p e → SameTo e x y → read x ≡ refused n p → read y ≡ refused n p
unfolding read start
refusal-local x y n p e t same q = from-same (seen_to e) x y same n p (record { end = e; to = t; early = omega arith }) (length x + 1) (length y + 1) 0 (state items FILE 0 0) start
    (omega arith) (omega arith) (λ u. refl) (good-add sections 0 (empty sections) (none-good sections) file) (before-start 0) q
