-- Laws of the walk over a text. `Same A n step last at i`: the walk from i, with enough steps left, answers what the walk from `at` answers.
--     start     it holds where a loop starts
--     onto      it is kept where the step at i goes on to e
--     stops     where the step at i answers, that is the walk's answer
--     ends      at the text's end the answer is `last`
--     ends_for  the same after a loop over the places from `at` up to n, which is n, or `at` where that is past n
use Prim.Native.Nat.{ℕ, zero, suc, ◌+◌, ◌<◌, ◌≤◌, max}
use mathlib.Core.Path.{◌≡◌, refl}
use native.Mathlib.Omega.{arith}
use borrow.Author.Tests.{lt-ltb, le-ltb, ltb-true, ltb-false, leb-true, leb-false}
use mathlib.Core.Bool.{Bool, true, false}
use lib.Dec.{ltb, leb}
use Rattle.text.specs.Walk.{Step, on, done, onward, walk, over}

pub record Same (A : Type 0) (n : ℕ) (step : ℕ → Step A) (last : ℕ → A) (at i : ℕ) : Type 0 where
  pub left : ℕ
  pub enough : n ≤ left + i
  pub same : walk left n step last i ≡ over n step last at

module _ {A : Type 0} (n : ℕ) (step : ℕ → Step A) (last : ℕ → A) (at : ℕ) where
  onto' : (i e k : ℕ) → n ≤ k + i → walk k n step last i ≡ over n step last at → i < n → step i ≡ on e → i < e → Same A n step last at e
  unfolding walk
  onto' i e zero h q lt p f = absurd (omega arith)
  onto' i e (suc k) h q lt p f = record { left = k; enough = omega arith; same = rw (lt-ltb i n lt, p) at q }

  stops' : (i k : ℕ) (a : A) → n ≤ k + i → walk k n step last i ≡ over n step last at → i < n → step i ≡ done a → a ≡ over n step last at
  unfolding walk
  stops' i zero a h q lt p = absurd (omega arith)
  stops' i (suc k) a h q lt p = rw (lt-ltb i n lt, p) at q

  ends' : (i k : ℕ) → walk k n step last i ≡ over n step last at → n ≤ i → last i ≡ over n step last at
  unfolding walk
  ends' i zero q le = q
  ends' i (suc k) q le = rw (le-ltb i n le) at q

module _ {A : Type 0} {n : ℕ} {step : ℕ → Step A} {last : ℕ → A} {at : ℕ} where
  pub start : Same A n step last at at
  unfolding over
  start = record { left = n; enough = omega arith; same = refl }

  pub onto : {i e : ℕ} → Same A n step last at i → i < n → step i ≡ on e → i < e → Same A n step last at e
  onto {i} {e} q lt p f = onto' n step last at i e q.left q.enough q.same lt p f

  pub stops : {i : ℕ} {a : A} → Same A n step last at i → i < n → step i ≡ done a → a ≡ over n step last at
  stops {i} {a} q lt p = stops' n step last at i q.left a q.enough q.same lt p

  pub ends : {i : ℕ} → Same A n step last at i → n ≤ i → last i ≡ over n step last at
  ends {i} q le = ends' n step last at i q.left q.same le

  pub ends_for : {i : ℕ} → Same A n step last at i → n ≤ i → (at ≤ n → i ≤ n) → last (max at n) ≡ over n step last at
  ends_for {i} q le near = split (leb at n) refl
    where
      split : (b : Bool) → leb at n ≡ b → last (max at n) ≡ over n step last at
      split true t = let h : i ≤ n = near (leb-true at n t) in let z : max at n ≡ i = omega (arith, leb-true at n t) in rw z (ends q le)
      split false t = let z : max at n ≡ at = omega (arith, leb-false at n t) in rw z (ends start (omega (arith, leb-false at n t)))

-- What holds of the answer: P is kept by each step that goes on, which goes forward, and gives Q of each answer.
module _ {A : Type 0} (n : ℕ) (step : ℕ → Step A) (last : ℕ → A) (P : ℕ → Type 0) (Q : A → Type 0)
    (goes : (k e : ℕ) → k < n → P k → step k ≡ on e → (k < e) × P e) (gives : (k : ℕ) (a : A) → k < n → P k → step k ≡ done a → Q a) (final : (k : ℕ) → n ≤ k → P k → Q (last k)) where
  turn : (go : ℕ → A) (left k : ℕ) (st : Step A) (t : Bool) → ((e : ℕ) → n ≤ left + e → P e → Q (go e)) → n ≤ suc left + k → P k → step k ≡ st → ltb k n ≡ t → Q (onward t st go (last k))
  turn go left k (on e) true ih h p q t = let g : (k < e) × P e = goes k e (ltb-true k n t) p q in ih e (omega (arith, g.0)) g.1
  turn go left k (done a) true ih h p q t = gives k a (ltb-true k n t) p q
  turn go left k st false ih h p q t = final k (ltb-false k n t) p

  along : (left k : ℕ) → n ≤ left + k → P k → Q (walk left n step last k)
  unfolding walk
  along zero k h p = final k (omega arith) p
  along (suc left) k h p = turn (walk left n step last) left k (step k) (ltb k n) (along left) h p refl refl

  pub over-has : (k : ℕ) → P k → Q (over n step last k)
  unfolding over
  over-has k p = along n k (omega arith) p
