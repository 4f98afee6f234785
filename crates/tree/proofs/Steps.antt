-- Reading from a place leads to another: a token a step, each takes a byte or more.
use Prim.Native.Nat.{ℕ, suc, ◌+◌, ◌≤◌}
use mathlib.Core.Path.{◌≡◌, ◌∙◌, subst}
use mathlib.Core.List.{List}
use native.Mathlib.Omega.{arith}
use lib.ListN.{length}
use Rattle.text.specs.Answer as piece
use Rattle.text.specs.Answer.{given, kind_number}
use Rattle.text.proofs.Pieces.{Pieces, token-within}
use Rattle.grammar.specs.Move.{view, applied, went}
use Rattle.grammar.specs.Read.{on_piece, move, read_from}
use Rattle.grammar.specs.declared.state.State.{State}
use Rattle.grammar.specs.declared.state.Act.{Act}
use Rattle.tree.specs.Tree.{Records, Comes}

-- so many steps lead from the place k, the state s and the records d on, and no more than there are bytes
pub record Run (x : List ℕ) (k : ℕ) (s : State) (d : Records) (k' : ℕ) (s' : State) (d' : Records) : Type 0 where
  pub steps : ℕ
  pub far : k + steps ≤ k'
  pub inside : k' ≤ length x
  pub same : (f : ℕ) → read_from (f + steps) x k s d ≡ read_from f x k' s' d'

-- the same from every place of the text
abbrev pub Leads : List ℕ → ℕ → State → Records → ℕ → State → Records → Type 0
Leads x k s d k' s' d' = k ≤ length x → Run x k s d k' s' d'

pub stays : (x : List ℕ) (k : ℕ) (s : State) (d : Records) → Leads x k s d k s d
stays x k s d h = record {
  steps = 0;
  far = omega arith;
  inside = h;
  same = λ f. let e : f + 0 ≡ f = omega arith in rw e;
}

pub ◌then◌ : {x : List ℕ} {k k₁ k₂ : ℕ} {s s₁ s₂ : State} {d d₁ d₂ : Records} → Leads x k s d k₁ s₁ d₁ → Leads x k₁ s₁ d₁ k₂ s₂ d₂ → Leads x k s d k₂ s₂ d₂
◌then◌ {x} {k} {k₁} {k₂} {s} {s₁} {s₂} {d} {d₁} {d₂} p q h = joined (p h) (q (p h).inside) where
  joined : Run x k s d k₁ s₁ d₁ → Run x k₁ s₁ d₁ k₂ s₂ d₂ → Run x k s d k₂ s₂ d₂
  joined a b = record {
    steps = a.steps + b.steps;
    far = omega (arith, a.far, b.far);
    inside = b.inside;
    same = λ f. let e : f + (a.steps + b.steps) ≡ (f + b.steps) + a.steps = omega arith in rw e (a.same (f + b.steps) ∙ b.same f);
  }

infixr 20 ◌then◌
-- where a token lies
pub token-lies : (x : List ℕ) (k : ℕ) (t : piece.Kind) (a e : ℕ) → k ≤ length x → Comes x k t a e → Pieces (length x) k (given (piece.piece t a e))
token-lies x k t a e h q = subst (Pieces (length x) k) q (token-within x k h)

-- a token that leads on
module _ (x : List ℕ) (k : ℕ) (s : State) (d : Records) (t : piece.Kind) (a e : ℕ) (q : Comes x k t a e) where
  moves : move x (view d) s k ≡ on_piece x (view d) s (kind_number t) a e
  unfolding move
  moves = rw q

  module _ (e' : ℕ) (s' : State) (act : Act) (m : on_piece x (view d) s (kind_number t) a e ≡ went e' s' act) where
    follows : (f : ℕ) → read_from (f + 1) x k s d ≡ read_from f x e' s' (applied act d)
    unfolding read_from
    follows f = let n : f + 1 ≡ suc f = omega arith in rw (n, moves, m)

    -- past the token or further
    pub further : (e ≤ length x → (e ≤ e') × (e' ≤ length x)) → Leads x k s d e' s' (applied act d)
    further l h =
        let p = token-lies x k t a e h q in
        record {
          steps = 1;
          far = omega (arith, p.0, p.1, (l p.2).0);
          inside = (l p.2).1;
          same = follows;
        }

  -- past the token
  pub past : (s' : State) (act : Act) → on_piece x (view d) s (kind_number t) a e ≡ went e s' act → (d' : Records) → applied act d ≡ d' → Leads x k s d e s' d'
  past s' act m d' z = subst (Leads x k s d e s') z (further e s' act m (λ l. (omega arith, l)))
