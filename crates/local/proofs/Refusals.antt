-- What is read of a text, also its refusal, depends on nothing after the token that decides it. s and t are the same up to m.
--     token-given, token-refused     a token that ends two bytes before m; a refusal whose token ends there
--     skip-given, skip-refused       the same for a block that is skipped whole
--     ..-ahead                       what is read, also a refusal, lies ahead of the place that it is read from
use Prim.Native.Nat.{ℕ, ◌+◌, ◌≤◌}
use mathlib.Core.Path.{◌≡◌, sym, ◌∙◌, subst}
use mathlib.Core.List.{List}
use lib.ListN.{length, take}
use Rattle.text.specs.Answer.{given, refused, Kind, piece}
use Rattle.text.specs.Token.{next_token}
use Rattle.text.specs.Skip.{skip_block}
use Rattle.text.proofs.Pieces.{Pieces, token-within}
use Rattle.text.proofs.SkipWithin.{Reaches, skip-block-within}
use Rattle.local.proofs.Tokens.{EarlyAt}
use Rattle.local.proofs.Near.{EarlyTo, EarlyPiece, token-near}
use Rattle.local.proofs.Skips.{skip-near}

module _ (m : ℕ) (s t : List ℕ) (same : take m s ≡ take m t) where
  pub token-given : (k a e : ℕ) (kind : Kind) → next_token s k ≡ given (piece kind a e) → e + 2 ≤ m → next_token t k ≡ given (piece kind a e)
  token-given k a e kind q l = (token-near m s t same k (subst (EarlyPiece m s) (sym q) l)).1 ∙ q

  pub token-refused : (k n p : ℕ) → next_token s k ≡ refused n p → EarlyAt m s p → next_token t k ≡ refused n p
  token-refused k n p q l = (token-near m s t same k (subst (EarlyPiece m s) (sym q) l)).1 ∙ q

  pub skip-given : (d f k e : ℕ) → skip_block d s f k ≡ given e → e + 2 ≤ m → skip_block d t f k ≡ given e
  skip-given d f k e q l = (skip-near m s t same d f k (subst (EarlyTo m s) (sym q) l)).1 ∙ q

  pub skip-refused : (d f k n p : ℕ) → skip_block d s f k ≡ refused n p → EarlyAt m s p → skip_block d t f k ≡ refused n p
  skip-refused d f k n p q l = (skip-near m s t same d f k (subst (EarlyTo m s) (sym q) l)).1 ∙ q

module _ (s : List ℕ) (k : ℕ) (h : k ≤ length s) where
  pub token-refused-ahead : (n p : ℕ) → next_token s k ≡ refused n p → k ≤ p
  token-refused-ahead n p q = (subst (Pieces (length s) k) q (token-within s k h)).0

  pub skip-refused-ahead : (d f n p : ℕ) → skip_block d s f k ≡ refused n p → k ≤ p
  skip-refused-ahead d f n p q = (subst (Reaches (length s) k) q (skip-block-within d s f k h)).0

  pub skip-given-ahead : (d f e : ℕ) → skip_block d s f k ≡ given e → k ≤ e
  skip-given-ahead d f e q = (subst (Reaches (length s) k) q (skip-block-within d s f k h)).0
