-- Every token and every item lies ahead of the place it is read from and inside the text, and so does the place of a refusal.
use Prim.Native.Nat.{ℕ, ◌+◌, ◌≤◌, ◌<◌}
use mathlib.Core.Path.{◌≡◌, refl, sym, ◌∙◌, ap}
use mathlib.Core.List.{List}
use mathlib.Core.Bool.{true, false, ◌&&◌, ◌||◌, false≢true}
use mathlib.Core.Logic.{⊎_elim}
use native.Mathlib.Omega.{arith}
use borrow.Author.Tests.{leb-false, eqb-false, lt-leb, ne_eqb}
use lib.ListN.{length}
use lib.Dec.{leb, eqb}
use Rattle.text.specs.Answer.{Answer, given, refused, with, Piece, piece, finish, string, number}
use Rattle.text.specs.Bytes.{byte, is_allowed, starts_name, in_name, starts_number, pair_at}
use Rattle.text.specs.Blank.{blank_at, token_ends}
use Rattle.text.specs.Token.{name_step, name_end, name_at, quote_step, string_end, string_at, run_step, run_end, number_at, is_begin, is_end, mark_of, mark_at, token_at, next_token}
use Rattle.text.specs.Item.{item_of, run_item, item_at, next_item}
use Rattle.text.proofs.Within.{by-test, or_case, pair-inside-text, Goes, from_start, From, Past, NoGap, Blanks, blanks-within, name_within}

-- what is read from k on: a piece that starts there or later and is not empty, the text's end, or a refusal
abbrev pub Pieces : ℕ → ℕ → Answer Piece → Type 0
Pieces n k (given (piece kind a e)) = (k ≤ a) × (a < e) × (e ≤ n)
Pieces n k (given (finish p)) = p ≡ n
Pieces n k (refused m p) = From n k p

pub string-within : (s : List ℕ) (k : ℕ) → k < length s → Past (length s) k (string_end s k)
unfolding string_end
string-within s k h = from_start (length s) (Past (length s) k) (quote_step s) (λ j. refused 1 k) (k + 1)
    (λ j f lt. by-test (Goes (length s) (λ i. Past (length s) k) j) (pair_at s j 92 34 || pair_at s j 34 34)
    (λ t. let l : j + 1 < length s = ⊎_elim (pair-inside-text s j 92 34) (pair-inside-text s j 34 34) (or_case (pair_at s j 92 34) (pair_at s j 34 34) t) in (omega arith, omega arith))
    (λ t. by-test (Goes (length s) (λ i. Past (length s) k) j) (eqb (byte s j) 34) (λ q. (omega (arith, f.0), omega arith)) (λ q. (omega arith, omega arith))))
    (λ j f ge. (omega arith, omega arith)) (omega arith)

-- a run that does not end where it starts
pub run-within : (s : List ℕ) (k : ℕ) → k < length s → token_ends s k ≡ false → Past (length s) k (run_end s k)
unfolding run_end
run-within s k h f = from_start (length s) (Past (length s) k) (run_step s k) given k
    (λ j p lt. by-test (Goes (length s) (λ i. Past (length s) k) j) (token_ends s j)
    (λ t. let d : k ≡ j → ⊥ = (λ e. false≢true (sym f ∙ ap (token_ends s) e ∙ t)) in (omega (arith, p.0), omega arith))
    (λ t. by-test (Goes (length s) (λ i. Past (length s) k) j) (is_allowed (byte s j)) (λ q. (omega arith, omega arith)) (λ q. (omega arith, omega arith))))
    (λ j p ge. (omega (arith, h), p.1)) (omega arith)

-- where no blank, comment or quote stands inside the text, no token ends
pub no_end : (s : List ℕ) (k : ℕ) → k < length s → NoGap s k → (byte s k ≡ 34 → ⊥) → token_ends s k ≡ false
unfolding token_ends
no_end s k h g q = rw (lt-leb (length s) k h, g.blank, ne_eqb (byte s k) 34 q, g.line, g.comment)

-- the first byte belongs to the name
starts-in : (b : ℕ) → starts_name b ≡ true → in_name b ≡ true
unfolding in_name
starts-in b h = rw h

pub name-past : (s : List ℕ) (k : ℕ) → k < length s → starts_name (byte s k) ≡ true → k < name_end s k
unfolding name_end
name-past s k h f = from_start (length s) (λ e. k < e) (name_step s) (λ j. j) k
    (λ j p lt. by-test (Goes (length s) (λ i e. k < e) j) (in_name (byte s j)) (λ t. (omega arith, omega arith))
    (λ t. let d : k ≡ j → ⊥ = (λ x. false≢true (sym t ∙ ap (λ i. in_name (byte s i)) (sym x) ∙ starts-in (byte s k) f)) in omega (arith, p.0)))
    (λ j p ge. omega (arith, h)) (omega arith)

-- a piece that starts at k, from where it ends
module _ (n k : ℕ) (h : k < n) (f : ℕ → Answer Piece) (one : (e : ℕ) → (k < e) × (e ≤ n) → Pieces n k (f e)) where
  piece-with : (a : Answer ℕ) → Past n k a → Pieces n k (with a f)
  piece-with (given e) p = one e p
  piece-with (refused m p) q = q

module _ (s : List ℕ) (k : ℕ) (h : k < length s) where
  of-kind : (e : ℕ) → (k < e) × (e ≤ length s) → (k ≤ k) × (k < e) × (e ≤ length s)
  of-kind e p = (omega arith, p.0, p.1)

  string-piece : Pieces (length s) k (string_at s k)
  unfolding string_at
  string-piece = piece-with (length s) k h (λ e. given (piece string k e)) of-kind (string_end s k) (string-within s k h)

  name-piece : starts_name (byte s k) ≡ true → Pieces (length s) k (name_at s k)
  unfolding name_at
  name-piece f = by-test (Pieces (length s) k) (leb (name_end s k) (k + 128) && token_ends s (name_end s k))
      (λ t. (omega arith, name-past s k h f, (name_within s k (omega arith)).1)) (λ t. (omega arith, omega arith))

  module _ (f : token_ends s k ≡ false) where
    number-piece : Pieces (length s) k (number_at s k)
    unfolding number_at
    number-piece = piece-with (length s) k h (λ e. given (piece number k e)) of-kind (run_end s k) (run-within s k h f)

    mark-piece : Pieces (length s) k (mark_at s k)
    unfolding mark_at
    mark-piece = piece-with (length s) k h (mark_of s k)
        (λ e p. by-test (Pieces (length s) k) (is_begin s k e) (λ t. of-kind e p) λ t.
        by-test (Pieces (length s) k) (is_end s k e) (λ u. of-kind e p) (λ u. (omega arith, omega arith)))
        (run_end s k) (run-within s k h f)

    run-piece : Pieces (length s) k (run_item s k)
    unfolding run_item
    run-piece = piece-with (length s) k h (item_of s k)
        (λ e p. by-test (Pieces (length s) k) (is_begin s k e) (λ t. of-kind e p) λ t.
        by-test (Pieces (length s) k) (is_end s k e) (λ u. of-kind e p) (λ u. of-kind e p))
        (run_end s k) (run-within s k h f)

module _ (s : List ℕ) (k : ℕ) (none : k < length s → NoGap s k) where
  token-piece : Pieces (length s) k (token_at s k)
  unfolding token_at
  token-piece = by-test (Pieces (length s) k) (leb (length s) k) (λ t. refl) λ l.
      let h : k < length s = leb-false (length s) k l in
      by-test (Pieces (length s) k) (eqb (byte s k) 34) (λ t. string-piece s k h) λ q.
      by-test (Pieces (length s) k) (starts_name (byte s k)) (λ t. name-piece s k h t) λ t.
      by-test (Pieces (length s) k) (starts_number (byte s k))
      (λ u. number-piece s k h (no_end s k h (none h) (eqb-false (byte s k) 34 q)))
      (λ u. mark-piece s k h (no_end s k h (none h) (eqb-false (byte s k) 34 q)))

  item-piece : Pieces (length s) k (item_at s k)
  unfolding item_at
  item-piece = by-test (Pieces (length s) k) (leb (length s) k) (λ t. refl) λ l.
      let h : k < length s = leb-false (length s) k l in
      by-test (Pieces (length s) k) (eqb (byte s k) 34) (λ t. string-piece s k h)
      (λ q. run-piece s k h (no_end s k h (none h) (eqb-false (byte s k) 34 q)))

pieces-mono : (n j k : ℕ) (a : Answer Piece) → j ≤ k → Pieces n k a → Pieces n j a
pieces-mono n j k (given (piece kind a e)) h p = (omega (arith, p.0), p.1, p.2)
pieces-mono n j k (given (finish q)) h p = p
pieces-mono n j k (refused m q) h p = (omega (arith, p.0), p.1)

-- past blanks from k on, and then what is read there
module _ (s : List ℕ) (read : ℕ → Answer Piece) (reads : (k : ℕ) → (k < length s → NoGap s k) → Pieces (length s) k (read k)) where
  after-blanks : (k : ℕ) (a : Answer ℕ) → Blanks s k a → Pieces (length s) k (with a read)
  after-blanks k (given e) p = pieces-mono (length s) k e (read e) p.0.0 (reads e p.1)
  after-blanks k (refused m e) p = p

-- every token's cursor lies ahead and inside the text
pub token-within : (s : List ℕ) (k : ℕ) → k ≤ length s → Pieces (length s) k (next_token s k)
unfolding next_token
token-within s k h = after-blanks s (token_at s) (token-piece s) k (blank_at s k) (blanks-within s k h)

-- every item's cursor lies ahead and inside the text
pub item-within : (s : List ℕ) (k : ℕ) → k ≤ length s → Pieces (length s) k (next_item s k)
unfolding next_item
item-within s k h = after-blanks s (item_at s) (item-piece s) k (blank_at s k) (blanks-within s k h)
