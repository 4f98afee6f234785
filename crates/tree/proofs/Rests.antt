-- What is left of a description from a place on: of the block that is open there and of those around it.
use Prim.Native.Nat.{ℕ}
use mathlib.Core.Path.{◌≡◌, sym, subst}
use mathlib.Core.List.{List}
use mathlib.Core.Bool.{false, false≢true}
use native.Mathlib.Omega.{arith}
use borrow.Author.Tests.{eqb-false}
use lib.Dec.{eqb}
use Rattle.text.specs.Answer as piece
use Rattle.text.specs.Answer.{given}
use Rattle.text.specs.Token.{next_token}
use Rattle.words.specs.Kind as word
use Rattle.rows.specs.Codes.{FILE, PROJECT}
use Rattle.rows.specs.Row.{Row}
use Rattle.grammar.specs.Keyword.{holder_of}
use Rattle.grammar.specs.Read.{start}
use Rattle.tree.specs.Tree.{Records, Comes, Word, Stands, Content, Versions, Description, description}

-- before PROJECT; inside PROJECT, the last block that is open; inside a block that another holds
pub data Rest (x : List ℕ) (d' : Records) : ℕ → ℕ → Records → Type 0 where
  before : {k k₀ a e e₁ k₁ k₂ p : ℕ} {d d₀ d₁ : Records} (r : Row) → Versions x k d k₀ d₀ → Comes x k₀ piece.begin a e → Word x e (word.taken_block PROJECT) e₁
      → r.word ≡ PROJECT → Stands x FILE PROJECT r e₁ d₀ k₁ d₁ → Content x PROJECT k₁ d₁ k₂ d' → next_token x k₂ ≡ given (piece.finish p) → Rest x d' FILE k d
  last : {k k₁ p : ℕ} {d : Records} → Content x PROJECT k d k₁ d' → next_token x k₁ ≡ given (piece.finish p) → Rest x d' PROJECT k d
  inside : {b k k₁ : ℕ} {d d₁ : Records} → eqb b FILE ≡ false → eqb b PROJECT ≡ false → Content x b k d k₁ d₁ → Rest x d' (holder_of b) k₁ d₁ → Rest x d' b k d

module _ (x : List ℕ) (d' : Records) where
  -- the same with more before it, in a block
  pub prepended : {b k : ℕ} {d : Records} (k₀ : ℕ) (d₀ : Records) → eqb b FILE ≡ false → ((k₁ : ℕ) (d₁ : Records) → Content x b k d k₁ d₁ → Content x b k₀ d₀ k₁ d₁)
      → Rest x d' b k d → Rest x d' b k₀ d₀
  prepended k₀ d₀ z g (before r vs t w h s c l) = absurd (false≢true (sym z))
  prepended k₀ d₀ z g (last {k₁ = k₁} c l) = last (g k₁ d' c) l
  prepended k₀ d₀ z g (inside {k₁ = k₁} {d₁ = d₁} u v c rest) = inside u v (g k₁ d₁ c) rest

  -- before PROJECT
  pub earlier : {b k : ℕ} {d : Records} (k₀ : ℕ) (d₀ : Records) → b ≡ FILE → ((k₁ : ℕ) (d₁ : Records) → Versions x k d k₁ d₁ → Versions x k₀ d₀ k₁ d₁)
      → Rest x d' b k d → Rest x d' b k₀ d₀
  earlier k₀ d₀ z g (before {k₀ = k₁} {d₀ = d₁} r vs t w h s c l) = before r (g k₁ d₁ vs) t w h s c l
  earlier k₀ d₀ z g (last c l) = absurd (omega arith)
  earlier k₀ d₀ z g (inside {b} u v c rest) = absurd (eqb-false b FILE u z)

  -- a block that was opened inside another
  pub enclosed : {w k₁ : ℕ} {d₁ : Records} (b k : ℕ) (d : Records) → eqb w FILE ≡ false → holder_of w ≡ b → eqb b FILE ≡ false
      → ((k₂ : ℕ) (d₂ : Records) (k₃ : ℕ) (d₃ : Records) → Content x w k₁ d₁ k₂ d₂ → Content x b k₂ d₂ k₃ d₃ → Content x b k d k₃ d₃)
      → Rest x d' w k₁ d₁ → Rest x d' b k d
  enclosed b k d z h y g (before r vs t w i s c l) = absurd (false≢true (sym z))
  enclosed b k d z h y g (last c l) = absurd (eqb-false b FILE y (sym h))
  enclosed b k d z h y g (inside {k₁ = k₂} {d₁ = d₂} u v c rest) =
      prepended k d y (λ k₃ d₃ m. g k₂ d₂ k₃ d₃ c m) (subst (λ (n : ℕ). Rest x d' n k₂ d₂) h rest)

  -- PROJECT
  pub project : {w k₁ : ℕ} {d₁ : Records} (k : ℕ) (d : Records) → w ≡ PROJECT
      → ((k₂ p : ℕ) → Content x PROJECT k₁ d₁ k₂ d' → next_token x k₂ ≡ given (piece.finish p) → Rest x d' FILE k d) → Rest x d' w k₁ d₁ → Rest x d' FILE k d
  project k d z g (before r vs t w h s c l) = absurd (omega arith)
  project k d z g (last {k₁ = k₂} {p} c l) = g k₂ p c l
  project k d z g (inside {b} u v c rest) = absurd (eqb-false b PROJECT v z)

  -- from the start
  pub entire : {b k : ℕ} {d : Records} → b ≡ FILE → k ≡ 0 → d ≡ start → Rest x d' b k d → Description x d'
  entire z y h (before {k₀ = k₀} {d₀ = d₀} r vs t w i s c l) = description r (rw (y, h) at vs) t w i s c l
  entire z y h (last c l) = absurd (omega arith)
  entire z y h (inside {b} u v c rest) = absurd (eqb-false b FILE u z)
