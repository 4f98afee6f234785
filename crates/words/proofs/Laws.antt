-- What callers need to know of the words: a class goes by the bytes alone, none stands twice, and a code belongs to one word.
use Prim.Native.Nat.{ℕ, zero, suc, ◌+◌, ◌*◌, ◌-◌, ◌^◌, ◌<◌, ◌≤◌}
use native.Mathlib.Omega.{arith}
use mathlib.Core.Path.{◌≡◌, refl, sym, ◌∙◌, ap}
use mathlib.Core.List.{List, [], ◌∷◌}
use mathlib.Core.Bool.{Bool, true, false, cond, not, ◌&&◌, ◌||◌, or-true}
use borrow.Author.Tests.{leb-true, eqb-true, eq-eqb, ne_eqb, le-leb}
use lib.Dec.{eqb, leb}
use lib.ListN.{length, take, drop}
use Rattle.words.specs.Kind.{Kind, unlisted, keyword_code, choice_code}
use Rattle.words.specs.Row.{Row, row, word, bytes, same, kind_in}
use Rattle.words.specs.Table.{word_rows}
use Rattle.words.specs.Class.{class_of, class_at}
use Rattle.words.proofs.Lengths.{both}

-- the class between two places is that of the bytes there
pub class-between : (s : List ℕ) (from to : ℕ) → from ≤ to → to ≤ length s → class_at s from to ≡ class_of (take (to - from) (drop from s))
unfolding class_at
class-between s from to h g = rw (le-leb from to h, le-leb to (length s) g)

-- whether a word stands in rows, and whether none stands twice
unfoldable pub stands : List ℕ → List Row → Bool
stands w [] = false
stands w (row v k ∷ rs) = same v w || stands w rs

unfoldable pub once : List Row → Bool
once [] = true
once (row v k ∷ rs) = not (stands v rs) && once rs

-- words that the test calls the same are the same
same-is : (v w : List ℕ) → same v w ≡ true → v ≡ w
unfolding same
same-is [] [] h = refl
same-is [] (b ∷ w) h = let z : ◌≡◌ {A = ℕ} 0 1 = cc in absurd (omega arith)
same-is (a ∷ v) [] h = let z : ◌≡◌ {A = ℕ} 0 1 = cc in absurd (omega arith)
same-is (a ∷ v) (b ∷ w) h =
    let p = both (eqb a b) (same v w) h in
    let x = eqb-true a b p.0 in
    let y = same-is v w p.1 in cc

-- a word's place in the order of the alphabet: its first m bytes as one number
unfoldable rank : ℕ → List ℕ → ℕ
rank zero v = 0
rank (suc m) [] = 0
rank (suc m) (a ∷ v) = a * 256 ^ m + rank m v

-- whether the words of rows are in that order, the first one past k
unfoldable ordered : ℕ → List Row → Bool
ordered k [] = true
ordered k (row v x ∷ rs) = leb (k + 1) (rank 28 v) && ordered (rank 28 v) rs

neither : (a b : Bool) → (a ≡ true → ⊥) → b ≡ false → (a || b) ≡ false
neither true b h e = absurd (h refl)
neither false b h e = e

-- a word up to k stands in none of them
before-all : (k : ℕ) (rs : List Row) (w : List ℕ) → ordered k rs ≡ true → rank 28 w ≤ k → stands w rs ≡ false
unfolding ordered stands
before-all k [] w t h = refl
before-all k (row v x ∷ rs) w t h =
    let p = both (leb (k + 1) (rank 28 v)) (ordered (rank 28 v) rs) t in
    let l = leb-true (k + 1) (rank 28 v) p.0 in
    neither (same v w) (stands w rs) (λ s. let e = ap (rank 28) (same-is v w s) in omega arith) (before-all (rank 28 v) rs w p.1 (omega arith))

ordered-once : (k : ℕ) (rs : List Row) → ordered k rs ≡ true → once rs ≡ true
unfolding ordered once
ordered-once k [] t = refl
ordered-once k (row v x ∷ rs) t =
    let p = both (leb (k + 1) (rank 28 v)) (ordered (rank 28 v) rs) t in
    rw (before-all (rank 28 v) rs v p.1 (omega arith), ordered-once (rank 28 v) rs p.1)

-- no word stands twice
pub words-once : once word_rows ≡ true
unfolding ordered rank word_rows word bytes
words-once = ordered-once 0 word_rows refl

-- whether a code, by a reading f of the kinds, stands in rows; and whether none above 0 stands twice
unfoldable pub code_stands : (Kind → ℕ) → ℕ → List Row → Bool
code_stands f c [] = false
code_stands f c (row v k ∷ rs) = eqb (f k) c || code_stands f c rs

unfoldable pub codes_once : (Kind → ℕ) → List Row → Bool
codes_once f [] = true
codes_once f (row v k ∷ rs) = (eqb (f k) 0 || not (code_stands f (f k) rs)) && codes_once f rs

module _ (f : Kind → ℕ) (zero-out : f unlisted ≡ 0) (c : ℕ) (some : 0 < c) where
  -- a code that a word has stands in the rows
  stand-turn : (b : Bool) (k x : Kind) (y : Bool) → (f x ≡ c → y ≡ true) → f (cond b k x) ≡ c → (eqb (f k) c || y) ≡ true
  stand-turn true k x y h e = rw (eq-eqb (f k) c e)
  stand-turn false k x y h e = rw (h e, or-true)

  code-stands : (rs : List Row) (w : List ℕ) → f (kind_in rs w) ≡ c → code_stands f c rs ≡ true
  unfolding kind_in code_stands
  code-stands [] w e = absurd (omega (arith, zero-out))
  code-stands (row v k ∷ rs) w e = stand-turn (same v w) k (kind_in rs w) (code_stands f c rs) (code-stands rs w) e

  -- it stands in no later row
  later-turn : (k : Kind) (y : Bool) → (eqb (f k) 0 || not y) ≡ true → f k ≡ c → y ≡ true → ⊥
  later-turn k y t d e =
      let n : eqb (f k) 0 ≡ false = ne_eqb (f k) 0 (λ z. omega arith) in
      let z : false ≡ true = rw (n, e) at t in
      let o : ◌≡◌ {A = ℕ} 0 1 = cc in omega arith

  later : (k : Kind) (rs : List Row) (w : List ℕ) → (eqb (f k) 0 || not (code_stands f (f k) rs)) ≡ true → f k ≡ c → f (kind_in rs w) ≡ c → ⊥
  later k rs w t d e = later-turn k (code_stands f (f k) rs) t d (rw d (code-stands rs w e))

  one-turn : (u v w : List ℕ) (k : Kind) (rs : List Row) (a b : Bool) → same u v ≡ a → same u w ≡ b → (eqb (f k) 0 || not (code_stands f (f k) rs)) ≡ true →
      f (cond a k (kind_in rs v)) ≡ c → f (cond b k (kind_in rs w)) ≡ c → (f (kind_in rs v) ≡ c → f (kind_in rs w) ≡ c → v ≡ w) → v ≡ w
  one-turn u v w k rs true true p q t d e h = sym (same-is u v p) ∙ same-is u w q
  one-turn u v w k rs true false p q t d e h = absurd (later k rs w t d e)
  one-turn u v w k rs false true p q t d e h = absurd (later k rs v t e d)
  one-turn u v w k rs false false p q t d e h = h d e

  -- two words with one code are one word
  one_word : (rs : List Row) (v w : List ℕ) → codes_once f rs ≡ true → f (kind_in rs v) ≡ c → f (kind_in rs w) ≡ c → v ≡ w
  unfolding kind_in codes_once
  one_word [] v w t d e = absurd (omega (arith, zero-out))
  one_word (row u k ∷ rs) v w t d e =
      let p = both (eqb (f k) 0 || not (code_stands f (f k) rs)) (codes_once f rs) t in
      one-turn u v w k rs (same u v) (same u w) refl refl p.0 d e (one_word rs v w p.1)

-- a keyword's code belongs to one word, and a choice's too
pub keyword-one : (v w : List ℕ) (c : ℕ) → 0 < c → keyword_code (class_of v) ≡ c → keyword_code (class_of w) ≡ c → v ≡ w
unfolding class_of keyword_code codes_once code_stands word_rows word bytes
keyword-one v w c h d e = one_word keyword_code refl c h word_rows v w refl d e

pub choice-one : (v w : List ℕ) (c : ℕ) → 0 < c → choice_code (class_of v) ≡ c → choice_code (class_of w) ≡ c → v ≡ w
unfolding class_of choice_code codes_once code_stands word_rows word bytes
choice-one v w c h d e = one_word choice_code refl c h word_rows v w refl d e
