-- Where the rows of a block begin: no row before is of that block.
use Prim.Native.Nat.{ℕ, zero, suc, ◌+◌, ◌≤◌}
use mathlib.Core.Path.{◌≡◌, refl}
use mathlib.Core.Bool.{Bool, true, not, ◌&&◌}
use native.Mathlib.Omega.{arith}
use borrow.Author.Rules.{rules}
use borrow.Author.Tests.{not-true}
use lib.Dec.{eqb}
use Rattle.text.proofs.Within.{and_left, and_right}
use Rattle.rows.specs.Rows.{rows}
use Rattle.rows.specs.Numbered.{row_at}
use Rattle.grammar.proofs.KeywordLaws.{Rowing, rowing_start, rowing-on}

-- none of the first n rows is that of the word w in the block b
unfoldable others : ℕ → ℕ → ℕ → Bool
others zero b w = true
others (suc i) b w = not (eqb (row_at i).parent b && eqb (row_at i).word w) && others i b w

past-others : (n b w : ℕ) → n ≤ 45 → others n b w ≡ true → Rowing b w n
unfolding others
past-others zero b w l h = rowing_start b w
past-others (suc n) b w l h =
    let t : Bool = eqb (row_at n).parent b && eqb (row_at n).word w in
    let q : Rowing b w n = past-others n b w (omega arith) (and_right (not t) (others n b w) h) in
    let z : suc n ≡ n + 1 = omega arith in
    rw z (rowing-on b w n q (omega arith) t refl (not-true t (and_left (not t) (others n b w) h)))

-- m is the block's number, and n where its rows begin
begins : (b m n w : ℕ) → b ≡ m → n ≤ 45 → others n m w ≡ true → Rowing b w n
begins b m n w p l h = rw p (past-others n m w l h)

-- o is the word's number
word-begins : (m n w o : ℕ) → w ≡ o → n ≤ 45 → others n m o ≡ true → Rowing m w n
word-begins m n w o p l h = rw p (past-others n m o l h)

module _ (w : ℕ) where
  pub module-axis-pts : w ≡ 7 → Rowing 2 w 22
  unfolding rows row_at others
  module-axis-pts p = word-begins 2 22 w 7 p (omega arith) refl

  pub module-characteristic : w ≡ 8 → Rowing 2 w 25
  unfolding rows row_at others
  module-characteristic p = word-begins 2 25 w 8 p (omega arith) refl

  pub module-measurement : w ≡ 10 → Rowing 2 w 34
  unfolding rows row_at others
  module-measurement p = word-begins 2 34 w 10 p (omega arith) refl

  pub module-any : Rowing 2 w 0
  module-any = rowing_start 2 w

pub ruleset modules = (module-axis-pts, module-characteristic, module-measurement, module-any, rules)

module _ (b w : ℕ) where
  pub rows_all : Rowing b w 0
  rows_all = rowing_start b w

  -- r is what `module_row` gave
  pub rows-module : (r : ℕ) → b ≡ 2 → Rowing 2 w r → Rowing b w r
  rows-module r p q = rw p q

  pub rows-common : b ≡ 3 → Rowing b w 3
  unfolding rows row_at others
  rows-common p = begins b 3 3 w p (omega arith) refl

  pub rows-method : b ≡ 4 → Rowing b w 8
  unfolding rows row_at others
  rows-method p = begins b 4 8 w p (omega arith) refl

  pub rows-table : b ≡ 5 → Rowing b w 12
  unfolding rows row_at others
  rows-table p = begins b 5 12 w p (omega arith) refl

  pub rows-layout : b ≡ 6 → Rowing b w 14
  unfolding rows row_at others
  rows-layout p = begins b 6 14 w p (omega arith) refl

  pub rows-axis-pts : b ≡ 7 → Rowing b w 23
  unfolding rows row_at others
  rows-axis-pts p = begins b 7 23 w p (omega arith) refl

  pub rows-characteristic : b ≡ 8 → Rowing b w 26
  unfolding rows row_at others
  rows-characteristic p = begins b 8 26 w p (omega arith) refl

  pub rows-axis : b ≡ 9 → Rowing b w 31
  unfolding rows row_at others
  rows-axis p = begins b 9 31 w p (omega arith) refl

  pub rows-measurement : b ≡ 10 → Rowing b w 35
  unfolding rows row_at others
  rows-measurement p = begins b 10 35 w p (omega arith) refl

  pub rows-any : b ≡ 255 → Rowing b w 38
  unfolding rows row_at others
  rows-any p = begins b 255 38 w p (omega arith) refl

pub ruleset beginnings = (rows_all, rows-module, rows-common, rows-method, rows-table, rows-layout, rows-axis-pts, rows-characteristic, rows-axis, rows-measurement, rows-any, rules)
