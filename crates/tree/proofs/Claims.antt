-- What a reading that gives its records says of the text from its place on, for each state in which it can be.
use Prim.Native.Nat.{ℕ, zero, suc}
use mathlib.Core.Path.{◌≡◌, refl, sym, ◌∙◌, ap, subst}
use mathlib.Core.List.{List, [], ◌∷◌}
use mathlib.Core.Bool.{true, false, not, ◌&&◌}
use borrow.Author.Tests.{eqb-true}
use lib.Dec.{eqb}
use Rattle.text.specs.Answer as piece
use Rattle.text.specs.Answer.{Answer, given, Piece, kind_number}
use Rattle.text.specs.Token.{next_token}
use Rattle.text.proofs.Within.{by-test}
use Rattle.number.specs.Form.{has_form}
use Rattle.rows.specs.Codes.{FILE}
use Rattle.rows.specs.Sections.{entry}
use Rattle.rows.specs.Row.{Param, number as number_entry, text as text_entry}
use Rattle.rows.specs.Numbered.{param_at}
use Rattle.grammar.specs.Move.{view, state, begun, ended, finished, applied, Move, went, over, refused}
use Rattle.grammar.specs.Parameter.{a_number, wrong}
use Rattle.grammar.specs.Read.{on_piece, on_token, finishing, move, following, read_from}
use Rattle.grammar.specs.declared.state.State.{State}
use Rattle.tree.specs.Tree.{Records, Comes, Pairs, Parameters, written, Met}
use Rattle.tree.proofs.Tables.{IsParam, Chain}
use Rattle.tree.proofs.Shapes.{Forms}
use Rattle.tree.proofs.Filled.{wanting}
use Rattle.tree.proofs.Complete.{resting}
use Rattle.tree.proofs.Rests.{Rest}

-- parameters, pairs, a pair's text, and what is left after them
abbrev pub Filling : List ℕ → Records → ℕ → ℕ → List Param → ℕ → Records → Type 0
Filling x d' b j qs k d = (k₁ : ℕ) × (d₁ : Records) × Parameters x b j qs k d k₁ d₁ × Rest x d' b k₁ d₁

abbrev pub Pairing : List ℕ → Records → ℕ → ℕ → ℕ → Records → Type 0
Pairing x d' b n k d = (k₁ : ℕ) × (d₁ : Records) × Pairs x n k d k₁ d₁ × Rest x d' b k₁ d₁

abbrev pub Telling : List ℕ → Records → ℕ → ℕ → ℕ → Records → Type 0
Telling x d' b n k d = (a : ℕ) × (e : ℕ) × Comes x k piece.string a e × Pairing x d' b n e (written entry 2 (a ∷ e ∷ []) d)

-- the claims for readings of at most f tokens
pub record Claims (x : List ℕ) (d' : Records) (f : ℕ) : Type 0 where
  pub rests : (b k : ℕ) (d : Records) → read_from f x k (resting b) d ≡ given d' → Rest x d' b k d
  pub wants : (b j : ℕ) (qs : List Param) (p k : ℕ) (d : Records) → Chain p j qs → Forms qs → read_from f x k (wanting b p 0) d ≡ given d' → Filling x d' b j qs k d
  pub numbers : (b j t p : ℕ) → IsParam p j number_entry → IsParam (param_at p).next j (text_entry t) → (n k : ℕ) (d : Records)
      → read_from f x k (wanting b p (suc n)) d ≡ given d' → Pairing x d' b (suc n) k d
  pub texts : (b j t p : ℕ) → IsParam p j number_entry → IsParam (param_at p).next j (text_entry t) → (n k : ℕ) (d : Records)
      → read_from f x k (wanting b (param_at p).next (suc n)) d ≡ given d' → Telling x d' b n k d
  pub begins : (b k : ℕ) (d : Records) → read_from f x k (state begun b 0 0) d ≡ given d' → (k₀ a : ℕ) → Comes x k₀ piece.begin a k → Rest x d' b k₀ d
  pub ends : (b k : ℕ) (d : Records) → eqb b FILE ≡ false → Met d b → read_from f x k (state ended b 0 0) d ≡ given d' → (k₀ a : ℕ) → Comes x k₀ piece.end a k → Rest x d' b k₀ d
  pub finishes : (k : ℕ) (d : Records) → read_from f x k (state finished FILE 0 0) d ≡ given d' → (p : ℕ) × (next_token x k ≡ given (piece.finish p)) × (d ≡ d')

-- ---- one token

-- a refusal gives nothing, and what is given is one thing
abbrev Given : Answer Records → Type 0
Given (given d) = Unit {0}
Given (piece.refused n p) = ⊥

pub not-given : (n p : ℕ) (d : Records) → piece.refused n p ≡ given d → ⊥
not-given n p d h = subst Given (sym h) tt

abbrev or_none : Answer Records → Records
or_none (given d) = d
or_none (piece.refused n p) = []

pub given_is : (c d : Records) → given c ≡ given d → c ≡ d
given_is c d h = ap or_none h

-- the kind of a number
abbrev kind_from : ℕ → piece.Kind
kind_from zero = piece.name
kind_from (suc zero) = piece.string
kind_from (suc (suc zero)) = piece.number
kind_from (suc (suc (suc zero))) = piece.run
kind_from (suc (suc (suc (suc zero)))) = piece.begin
kind_from (suc (suc (suc (suc (suc n))))) = piece.end

kind-back : (t : piece.Kind) → kind_from (kind_number t) ≡ t
kind-back piece.name = refl
kind-back piece.string = refl
kind-back piece.number = refl
kind-back piece.run = refl
kind-back piece.begin = refl
kind-back piece.end = refl

pub kind_is : (t u : piece.Kind) → eqb (kind_number t) (kind_number u) ≡ true → t ≡ u
kind_is t u h = sym (kind-back t) ∙ ap kind_from (eqb-true (kind_number t) (kind_number u) h) ∙ kind-back u

module _ (x : List ℕ) (d' : Records) (f : ℕ) (d : Records) where
  -- G follows from a move that leads to the records
  abbrev pub Gives : Type 0 → Move → Type 0
  Gives G (went e s a) = read_from f x e s (applied a d) ≡ given d' → G
  Gives G over = d ≡ d' → G
  Gives G (refused n p) = Unit {0}

  follows : (G : Type 0) (m : Move) → Gives G m → following m d (read_from f x) ≡ given d' → G
  follows G (went e s a) g h = g h
  follows G over g h = g (given_is d d' h)
  follows G (refused n p) g h = absurd (not-given n p d' h)

  pub by_token : (G : Type 0) (k : ℕ) (s : State) → ((t : piece.Kind) (a e : ℕ) → Comes x k t a e → Gives G (on_piece x (view d) s (kind_number t) a e))
      → ((p : ℕ) → next_token x k ≡ given (piece.finish p) → Gives G (finishing s p)) → read_from (suc f) x k s d ≡ given d' → G
  unfolding read_from move
  by_token G k s one stop h = follows G (on_token x (view d) s (next_token x k)) (by-piece (next_token x k) refl) h where
    by-piece : (r : Answer Piece) → next_token x k ≡ r → Gives G (on_token x (view d) s r)
    by-piece (given (piece.piece t a e)) q = one t a e q
    by-piece (given (piece.finish p)) q = stop p q
    by-piece (piece.refused n p) q = tt

  pub wrong-gives : (G : Type 0) (n k a e : ℕ) → Gives G (wrong n x k a e)
  unfolding wrong
  wrong-gives G n k a e = by-test (Gives G) (eqb k a_number && not (has_form x a e)) (λ t. tt) (λ t. tt)
