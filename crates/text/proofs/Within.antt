-- Every answer lies ahead and inside the text: where the readings that start at a place of it end.
use Prim.Native.Nat.{ℕ, ◌+◌, ◌≤◌, ◌<◌}
use mathlib.Core.Path.{◌≡◌, refl, subst}
use mathlib.Core.List.{List}
use mathlib.Core.Bool.{Bool, true, false, cond, ◌&&◌, ◌||◌, false≢true}
use mathlib.Core.Logic.{◌⊎◌, inl, inr}
use native.Mathlib.Omega.{arith}
use borrow.Author.Tests.{ltb-true, ltb-false}
use lib.ListN.{length}
use lib.Dec.{ltb, eqb}
use Rattle.text.specs.Walk.{Step, on, done, over}
use Rattle.text.specs.Answer.{Answer, given, refused, on_to}
use Rattle.text.specs.Bytes.{byte, is_blank, in_name, pair_at}
use Rattle.text.specs.Blank.{line_step, line_end, close_step, comment_end, blank_step, blank_at}
use Rattle.text.specs.Token.{name_step, name_end}
use Rattle.text.proofs.Walks.{over-has, start, ends}

-- `cond` by cases, with what the test says
pub by-test : {A : Type 0} (R : A → Type 0) (t : Bool) {x y : A} → (t ≡ true → R x) → (t ≡ false → R y) → R (cond t x y)
by-test R true p q = p refl
by-test R false p q = q refl

pub and_left : (a b : Bool) → (a && b) ≡ true → a ≡ true
and_left true b e = refl
and_left false b e = e

pub and_right : (a b : Bool) → (a && b) ≡ true → b ≡ true
and_right true b e = e
and_right false b e = absurd (false≢true e)

pub or_case : (a b : Bool) → (a || b) ≡ true → (a ≡ true) ⊎ (b ≡ true)
or_case true b e = inl refl
or_case false b e = inr e

-- a pair of bytes that stands at a place lies inside the text
pub pair-inside-text : (s : List ℕ) (k a b : ℕ) → pair_at s k a b ≡ true → k + 1 < length s
unfolding pair_at
pair-inside-text s k a b h = ltb-true (k + 1) (length s) (and_left (ltb (k + 1) (length s)) _ (and_left _ _ h))

-- a place from k on, inside a text of n bytes
abbrev pub From : ℕ → ℕ → ℕ → Type 0
From n k e = (k ≤ e) × (e ≤ n)

-- a step from k goes forward inside the text, or answers what R says of k
abbrev pub Goes : {A : Type 0} → ℕ → (ℕ → A → Type 0) → ℕ → Step A → Type 0
Goes n R k (on e) = (k < e) × (e ≤ n)
Goes n R k (done a) = R k a

-- where R of a place holds of every earlier one, a walk whose steps go forward answers what R says of its start
pub forward : {A : Type 0} (n : ℕ) (R : ℕ → A → Type 0) (step : ℕ → Step A) (last : ℕ → A) → ((j k : ℕ) (a : A) → j ≤ k → R k a → R j a) → ((k : ℕ) → k < n → Goes n R k (step k)) → ((k : ℕ) → k ≤ n → n ≤ k → R k (last k)) → (k : ℕ) → k ≤ n → R k (over n step last k)
forward n R step last mono goes final k h = over-has n step last (λ j. (k ≤ j) × (j ≤ n)) (R k)
    (λ j e lt p q. let g : Goes n R j (on e) = subst (Goes n R j) q (goes j lt) in (g.0, (omega (arith, g.0, p.0), g.1)))
    (λ j a lt p q. mono k j a p.0 (subst (Goes n R j) q (goes j lt)))
    (λ j ge p. mono k j (last j) p.0 (final j p.1 ge)) k (omega arith, h)

-- the same for an answer that keeps to the start: Q holds of each answer of a walk from k
pub from_start : {A : Type 0} (n : ℕ) (Q : A → Type 0) (step : ℕ → Step A) (last : ℕ → A) (k : ℕ) → ((j : ℕ) → From n k j → j < n → Goes n (λ i. Q) j (step j)) → ((j : ℕ) → From n k j → n ≤ j → Q (last j)) → k ≤ n → Q (over n step last k)
from_start n Q step last k goes final h = over-has n step last (From n k) Q
    (λ j e lt p q. let g : Goes n (λ i. Q) j (on e) = subst (Goes n (λ i. Q) j) q (goes j p lt) in (g.0, (omega (arith, g.0, p.0), g.1)))
    (λ j a lt p q. subst (Goes n (λ i. Q) j) q (goes j p lt))
    (λ j ge p. final j p ge) k (omega arith, h)

-- what is read from k on ends past it, inside the text, or is refused there
abbrev pub Past : ℕ → ℕ → Answer ℕ → Type 0
Past n k (given e) = (k < e) × (e ≤ n)
Past n k (refused m p) = From n k p

pub line-within : (s : List ℕ) (k : ℕ) → k ≤ length s → From (length s) k (line_end s k)
unfolding line_end
line-within s = forward (length s) (From (length s)) (line_step s) (λ j. j) (λ i j a h p. (omega (arith, p.0), p.1))
    (λ j lt. by-test (Goes (length s) (From (length s)) j) (eqb (byte s j) 10) (λ t. (omega arith, omega arith)) (λ t. (omega arith, omega arith)))
    (λ j le ge. (omega arith, le))

pub comment-within : (s : List ℕ) (k : ℕ) → pair_at s k 47 42 ≡ true → Past (length s) k (comment_end s k)
unfolding comment_end
comment-within s k h =
    let l : k + 1 < length s = pair-inside-text s k 47 42 h in
    from_start (length s) (Past (length s) k) (close_step s) (λ j. refused 1 k) (k + 2)
    (λ j f lt. by-test (Goes (length s) (λ i. Past (length s) k) j) (pair_at s j 42 47)
    (λ t. (omega (arith, f.0), omega (arith, pair-inside-text s j 42 47 t))) (λ t. (omega arith, omega arith)))
    (λ j f ge. (omega arith, omega arith)) (omega arith)

-- no blank and no comment stands at a place
pub record NoGap (s : List ℕ) (k : ℕ) : Type 0 where
  pub blank : is_blank (byte s k) ≡ false
  pub line : pair_at s k 47 47 ≡ false
  pub comment : pair_at s k 47 42 ≡ false

-- past blanks and comments from k on
abbrev pub Blanks : List ℕ → ℕ → Answer ℕ → Type 0
Blanks s k (given e) = From (length s) k e × (e < length s → NoGap s e)
Blanks s k (refused m p) = From (length s) k p

blanks-mono : (s : List ℕ) (i j : ℕ) (a : Answer ℕ) → i ≤ j → Blanks s j a → Blanks s i a
blanks-mono s i j (given e) h p = ((omega (arith, p.0.0), p.0.1), p.1)
blanks-mono s i j (refused m e) h p = (omega (arith, p.0), p.1)

comment-goes : (s : List ℕ) (k : ℕ) (a : Answer ℕ) → Past (length s) k a → Goes (length s) (Blanks s) k (on_to a)
comment-goes s k (given e) p = p
comment-goes s k (refused m e) p = p

pub blank-goes : (s : List ℕ) (k : ℕ) → k < length s → Goes (length s) (Blanks s) k (blank_step s k)
blank-goes s j lt =
    by-test (Goes (length s) (Blanks s) j) (is_blank (byte s j)) (λ t. (omega arith, omega arith)) λ b.
    by-test (Goes (length s) (Blanks s) j) (pair_at s j 47 47) (λ t.
    let l : j + 1 < length s = pair-inside-text s j 47 47 t in
    let w : From (length s) (j + 2) (line_end s (j + 2)) = line-within s (j + 2) (omega arith) in
    (omega (arith, w.0), w.1)) λ l.
    by-test (Goes (length s) (Blanks s) j) (pair_at s j 47 42) (λ t. comment-goes s j (comment_end s j) (comment-within s j t)) λ c.
    ((omega arith, omega arith), λ g. record { blank = b; line = l; comment = c })

pub blanks-within : (s : List ℕ) (k : ℕ) → k ≤ length s → Blanks s k (blank_at s k)
unfolding blank_at
blanks-within s = forward (length s) (Blanks s) (blank_step s) given (blanks-mono s) (blank-goes s) (λ j le ge. ((omega arith, le), λ g. absurd (omega arith)))

pub name_within : (s : List ℕ) (k : ℕ) → k ≤ length s → From (length s) k (name_end s k)
unfolding name_end
name_within s = forward (length s) (From (length s)) (name_step s) (λ j. j) (λ i j a h p. (omega (arith, p.0), p.1))
    (λ j lt. by-test (Goes (length s) (From (length s)) j) (in_name (byte s j)) (λ t. (omega arith, omega arith)) (λ t. (omega arith, omega arith)))
    (λ j le ge. (omega arith, le))

name-past : (s : List ℕ) (k : ℕ) → length s ≤ k → k ≡ name_end s k
unfolding name_end
name-past s k h = ends {step = name_step s} start h

-- a name's end does not lie before its start
pub name-ahead : (s : List ℕ) (k : ℕ) → k ≤ name_end s k
name-ahead s k = by-ltb (ltb k (length s)) refl where
  by-ltb : (t : Bool) → ltb k (length s) ≡ t → k ≤ name_end s k
  by-ltb true t = (name_within s k (omega (arith, ltb-true k (length s) t))).0
  by-ltb false t = omega (arith, name-past s k (ltb-false k (length s) t))
