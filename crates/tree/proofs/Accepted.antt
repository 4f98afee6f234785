-- "A description with its image is accepted exactly if it keeps the written rules": for the text stage, both ways.
use Prim.Native.Nat.{ℕ}
use mathlib.Core.Path.{◌≡◌, refl, sym, ◌∙◌}
use mathlib.Core.List.{List}
use mathlib.Core.Logic.{◌↔◌}
use Rattle.text.specs.Answer.{Answer, given, refused}
use Rattle.grammar.specs.Read.{read}
use Rattle.tree.specs.Tree.{Records, Description}
use Rattle.tree.proofs.Claims.{given_is, not-given}
use Rattle.tree.proofs.Complete.{is-accepted}
use Rattle.tree.proofs.Sound.{accepted-is}

-- a text is accepted exactly if it has a tree, with the records that the tree makes
pub accepted-exactly : (x : List ℕ) (d : Records) → (read x ≡ given d) ↔ Description x d
accepted-exactly x d = (accepted-is x d, is-accepted x d)

-- a text's trees make the same records
pub one-reading : (x : List ℕ) (c d : Records) → Description x c → Description x d → c ≡ d
one-reading x c d p q = given_is c d (sym (is-accepted x c p) ∙ is-accepted x d q)

-- a text is refused exactly if it has no tree
pub refused-exactly : (x : List ℕ) → ((n : ℕ) × (p : ℕ) × (read x ≡ refused n p)) ↔ ((d : Records) → Description x d → ⊥)
refused-exactly x = (without, by_answer (read x) refl) where
  without : (n : ℕ) × (p : ℕ) × (read x ≡ refused n p) → (d : Records) → Description x d → ⊥
  without r d t = not-given r.0 r.1 d (sym r.2 ∙ is-accepted x d t)

  by_answer : (a : Answer Records) → read x ≡ a → ((d : Records) → Description x d → ⊥) → (n : ℕ) × (p : ℕ) × (read x ≡ refused n p)
  by_answer (given d) h t = absurd (t d (accepted-is x d h))
  by_answer (refused n p) h t = (n, p, h)
