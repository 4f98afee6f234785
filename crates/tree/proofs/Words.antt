-- The numbers of words tell their class: blocks come first, then keywords, then what is skipped.
use Prim.Native.Nat.{ℕ, ◌-◌}
use mathlib.Core.Path.{◌≡◌, refl, subst}
use mathlib.Core.List.{List, [], ◌∷◌}
use mathlib.Core.Bool.{Bool, true, ◌&&◌}
use lib.Dec.{leb}
use lib.ListN.{length, take, drop}
use Rattle.text.proofs.Within.{by-test, and_left, and_right}
use Rattle.words.specs.Kind.{Kind, taken_block, taken_plain, taken_choice, skipped_block, skipped_plain, listed_only, unlisted}
use Rattle.words.specs.Row.{Row, row, word, same, kind_in}
use Rattle.words.specs.Table.{word_rows}
use Rattle.words.specs.Class.{class_of, class_at}

-- the numbers of a class
abbrev numbered : Kind → Bool
numbered (taken_block c) = leb c 10
numbered (taken_plain c) = leb 11 c && leb c 28
numbered (taken_choice c) = true
numbered (skipped_block c) = true
numbered (skipped_plain c) = leb 37 c
numbered listed_only = true
numbered unlisted = true

abbrev all_numbered : List Row → Bool
all_numbered [] = true
all_numbered (row w k ∷ rs) = numbered k && all_numbered rs

all-numbered : all_numbered word_rows ≡ true
unfolding word_rows word
all-numbered = refl

kind-numbered : (rs : List Row) → all_numbered rs ≡ true → (w : List ℕ) → numbered (kind_in rs w) ≡ true
unfolding kind_in
kind-numbered [] h w = refl
kind-numbered (row v k ∷ rs) h w = by-test (λ t. numbered t ≡ true) (same v w) (λ t. and_left (numbered k) (all_numbered rs) h) (λ t. kind-numbered rs (and_right (numbered k) (all_numbered rs) h) w)

class-numbered : (x : List ℕ) (a e : ℕ) → numbered (class_at x a e) ≡ true
unfolding class_at class_of
class-numbered x a e = by-test (λ t. numbered t ≡ true) (leb a e && leb e (length x)) (λ t. kind-numbered word_rows all-numbered (take (e - a) (drop a x))) (λ t. refl)

module _ (x : List ℕ) (a e c : ℕ) where
  pub block-number : class_at x a e ≡ taken_block c → leb c 10 ≡ true
  block-number h = subst (λ (k : Kind). numbered k ≡ true) h (class-numbered x a e)

  pub plain-number : class_at x a e ≡ taken_plain c → (leb 11 c && leb c 28) ≡ true
  plain-number h = subst (λ (k : Kind). numbered k ≡ true) h (class-numbered x a e)

  pub passed-number : class_at x a e ≡ skipped_plain c → leb 37 c ≡ true
  passed-number h = subst (λ (k : Kind). numbered k ≡ true) h (class-numbered x a e)
