-- Every item that is passed, and every block, ends ahead and inside the text.
use Prim.Native.Nat.{ℕ, zero, suc, ◌≤◌, ◌<◌}
use mathlib.Core.List.{List}
use mathlib.Core.Bool.{◌&&◌}
use native.Mathlib.Omega.{arith}
use lib.ListN.{length}
use Rattle.text.specs.Walk.{over}
use Rattle.text.specs.Answer.{Answer, given, refused, with, Piece, piece, finish, is, run, begin, end, Pass, past, closes}
use Rattle.text.specs.Bytes.{same_part}
use Rattle.text.specs.Item.{next_item}
use Rattle.text.specs.Skip.{as_tag, tag_at, same_tag, closing, after_item, is_a2ml, after_end, a2ml_piece, a2ml_item, a2ml_end, block_piece, block_item, block_end, block_in, skip_block, skip_item}
use Rattle.text.proofs.Within.{by-test, Goes, forward, From, Past}
use Rattle.text.proofs.Pieces.{Pieces, item-within}

-- at k or later, inside the text
abbrev pub Reaches : ℕ → ℕ → Answer ℕ → Type 0
Reaches n k (given e) = From n k e
Reaches n k (refused m p) = From n k p

-- past k, inside the text
abbrev pub Passes : ℕ → ℕ → Answer Pass → Type 0
Passes n k (given (past e)) = (k < e) × (e ≤ n)
Passes n k (given (closes e)) = (k < e) × (e ≤ n)
Passes n k (refused m p) = From n k p

-- a tag from k on, not empty
abbrev pub TagIn : ℕ → ℕ → Answer (ℕ × ℕ) → Type 0
TagIn n k (given t) = (k ≤ t.0) × (t.0 < t.1) × (t.1 ≤ n)
TagIn n k (refused m p) = From n k p

module _ (n k : ℕ) (h : k ≤ n) where
  as-tag : (m : ℕ) (a : Answer Piece) → Pieces n k a → TagIn n k (with a (as_tag m))
  as-tag m (given (piece kind a e)) p = by-test (TagIn n k) (is kind run) (λ t. p) (λ t. (p.0, omega (arith, p.1, p.2)))
  as-tag m (given (finish q)) p = (omega (arith, p), omega (arith, p))
  as-tag m (refused j q) p = p

  same_tag_lem : (s : List ℕ) (f t : ℕ) (a : Answer (ℕ × ℕ)) → TagIn n k a → Reaches n k (with a (same_tag s f t))
  same_tag_lem s f t (given tag) p = by-test (Reaches n k) (same_part s tag.0 tag.1 s f t) (λ x. (omega (arith, p.0, p.1), p.2)) (λ x. (p.0, omega (arith, p.1, p.2)))
  same_tag_lem s f t (refused m q) p = p

  after-end : (s : List ℕ) (j e : ℕ) → j < e → e ≤ k → (a : Answer Piece) → Pieces n k a → Passes n j (after_end s e a)
  after-end s j e g l (given (piece kind a f)) p = by-test (Passes n j) (is kind run && is_a2ml s a f) (λ t. (omega (arith, p.0, p.1), p.2)) (λ t. (g, omega arith))
  after-end s j e g l (given (finish q)) p = (g, omega arith)
  after-end s j e g l (refused m q) p = (g, omega arith)

tag-within : (m : ℕ) (s : List ℕ) (k : ℕ) → k ≤ length s → TagIn (length s) k (tag_at m s k)
unfolding tag_at
tag-within m s k h = as-tag (length s) k h m (next_item s k) (item-within s k h)

closing-within : (s : List ℕ) (f t k : ℕ) → k ≤ length s → Reaches (length s) k (closing s f t k)
unfolding closing
closing-within s f t k h = same_tag_lem (length s) k h s f t (tag_at 3 s k) (tag-within 3 s k h)

module _ (s : List ℕ) (k : ℕ) (h : k ≤ length s) where
  a2ml-piece : (a : Answer Piece) → Pieces (length s) k a → Passes (length s) k (with a (a2ml_piece s))
  a2ml-piece (given (piece kind a e)) p = by-test (Passes (length s) k) (is kind end)
      (λ t. after-end (length s) e p.2 s k e (omega (arith, p.0, p.1)) (omega arith) (next_item s e) (item-within s e p.2))
      (λ t. (omega (arith, p.0, p.1), p.2))
  a2ml-piece (given (finish q)) p = (omega (arith, p), omega (arith, p))
  a2ml-piece (refused m q) p = p

  pub a2ml-item-within : Passes (length s) k (a2ml_item s k)
  unfolding a2ml_item
  a2ml-item-within = a2ml-piece (next_item s k) (item-within s k h)

reaches-mono : (n j k : ℕ) (a : Answer ℕ) → j ≤ k → Reaches n k a → Reaches n j a
reaches-mono n j k (given e) h p = (omega (arith, p.0), p.1)
reaches-mono n j k (refused m e) h p = (omega (arith, p.0), p.1)

-- a walk over items goes forward
module _ (n : ℕ) (close : ℕ → Answer ℕ) (closed : (e : ℕ) → e ≤ n → Reaches n e (close e)) where
  pub item-goes : (k : ℕ) (a : Answer Pass) → k ≤ n → Passes n k a → Goes n (Reaches n) k (after_item close a)
  item-goes k (given (past e)) h p = p
  item-goes k (given (closes e)) h p = reaches-mono n k e (close e) (omega (arith, p.0)) (closed e p.1)
  item-goes k (refused m q) h p = p

  over-items : (items : ℕ → Answer Pass) → ((k : ℕ) → k ≤ n → Passes n k (items k)) → (k : ℕ) → k ≤ n → Reaches n k (over n (λ j. after_item close (items j)) (λ j. refused 3 n) k)
  over-items items each = forward n (Reaches n) (λ j. after_item close (items j)) (λ j. refused 3 n) (reaches-mono n)
      (λ j lt. item-goes j (items j) (omega arith) (each j (omega arith))) (λ j le ge. (le, omega arith))

pub a2ml-within : (s : List ℕ) (k : ℕ) → k ≤ length s → Reaches (length s) k (a2ml_end s k)
unfolding a2ml_end
a2ml-within s = over-items (length s) given (λ e h. (omega arith, h)) (a2ml_item s) (a2ml-item-within s)

-- `inner` passes a block from its `/begin` on
module _ (inner : ℕ → ℕ → Answer ℕ) (s : List ℕ) (each : (a e : ℕ) → a < e → e ≤ length s → Past (length s) a (inner a e)) where
  inside : (k a : ℕ) → k ≤ a → (r : Answer ℕ) → Past (length s) a r → Passes (length s) k (with r (λ j. given (past j)))
  inside k a h (given j) p = (omega (arith, p.0), p.1)
  inside k a h (refused m q) p = (omega (arith, p.0), p.1)

  block-piece : (k : ℕ) (x : Answer Piece) → k ≤ length s → Pieces (length s) k x → Passes (length s) k (with x (block_piece inner))
  block-piece k (given (piece kind a e)) h p = by-test (Passes (length s) k) (is kind begin)
      (λ t. inside k a p.0 (inner a e) (each a e p.1 p.2)) λ t.
      by-test (Passes (length s) k) (is kind end) (λ u. (omega (arith, p.0, p.1), p.2)) (λ u. (omega (arith, p.0, p.1), p.2))
  block-piece k (given (finish q)) h p = (omega (arith, p), omega (arith, p))
  block-piece k (refused m q) h p = p

  block-item-within : (k : ℕ) → k ≤ length s → Passes (length s) k (block_item inner s k)
  unfolding block_item
  block-item-within k h = block-piece k (next_item s k) h (item-within s k h)

  block_within : (f t : ℕ) → t ≤ length s → Reaches (length s) t (block_end inner s f t)
  unfolding block_end
  block_within f t h = by-test (Reaches (length s) t) (is_a2ml s f t) (λ x. a2ml-within s t h)
      (λ x. over-items (length s) (closing s f t) (closing-within s f t) (block_item inner s) block-item-within t h)

-- a block that starts at a later place
past-later : (n a e k : ℕ) → a < e → e ≤ k → (r : Answer ℕ) → Reaches n k r → Past n a r
past-later n a e k h l (given j) p = (omega (arith, p.0), p.1)
past-later n a e k h l (refused m q) p = (omega (arith, p.0), p.1)

module _ (d : ℕ) (s : List ℕ) (each : (f t : ℕ) → t ≤ length s → Reaches (length s) t (block_end (block_in d s) s f t)) (a e : ℕ) (h : a < e) where
  after_tag : (x : Answer (ℕ × ℕ)) → TagIn (length s) e x → Past (length s) a (with x (λ tag. block_end (block_in d s) s tag.0 tag.1))
  after_tag (given tag) p = past-later (length s) a e tag.1 h (omega (arith, p.0, p.1)) (block_end (block_in d s) s tag.0 tag.1) (each tag.0 tag.1 p.2)
  after_tag (refused m q) p = (omega (arith, p.0), p.1)

block-in-within : (d : ℕ) (s : List ℕ) (a e : ℕ) → a < e → e ≤ length s → Past (length s) a (block_in d s a e)
unfolding block_in
block-in-within zero s a e h l = (omega arith, omega arith)
block-in-within (suc d) s a e h l = after_tag d s (block_within (block_in d s) s (block-in-within d s)) a e h (tag_at 5 s e) (tag-within 5 s e l)

-- every item of a block that is passed ends ahead and inside the text
pub skip-item-within : (d : ℕ) (s : List ℕ) (k : ℕ) → k ≤ length s → Passes (length s) k (skip_item d s k)
unfolding skip_item
skip-item-within d s = block-item-within (block_in d s) s (block-in-within d s)

-- every block that is passed ends ahead and inside the text
pub skip-block-within : (d : ℕ) (s : List ℕ) (f t : ℕ) → t ≤ length s → Reaches (length s) t (skip_block d s f t)
unfolding skip_block
skip-block-within d s = block_within (block_in d s) s (block-in-within d s)
