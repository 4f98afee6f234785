-- Tests of the grammar's tables that antt computes, as laws of every parameter and every row.
use Prim.Native.Nat.{ℕ, zero, suc}
use mathlib.Core.Path.{◌≡◌}
use mathlib.Core.List.{List, [], ◌∷◌}
use mathlib.Core.Bool.{Bool, true, false, not, ◌&&◌, ◌||◌, false≢true}
use borrow.Author.Tests.{eqb-false, not-true}
use lib.Dec.{eqb}
use lib.ListN.{get_or}
use Rattle.text.proofs.Within.{and_left, and_right}
use Rattle.rows.specs.Row.{Row}
use Rattle.rows.specs.Rows.{rows}
use Rattle.rows.specs.Numbered.{no_row, row_at, Placed, no_param, all_params, param_at}

-- a test of each of a list
abbrev pub every : {A : Type 0} → (A → Bool) → List A → Bool
every t [] = true
every t (r ∷ rs) = t r && every t rs

at : {A : Type 0} (t : A → Bool) (d : A) → t d ≡ true → (l : List A) → every t l ≡ true → (i : ℕ) → t (get_or l i d) ≡ true
at t d z [] h i = z
at t d z (r ∷ rs) h zero = and_left (t r) (every t rs) h
at t d z (r ∷ rs) h (suc i) = at t d z rs (and_right (t r) (every t rs) h) i

-- a test of a parameter's kind, slot, next parameter and section
abbrev pub of_param : (ℕ → ℕ → ℕ → ℕ → Bool) → Placed → Bool
of_param t p = t p.param.kind p.param.slot p.next p.sec

pub each-param : (t : ℕ → ℕ → ℕ → ℕ → Bool) → t 0 0 0 0 ≡ true → every (of_param t) all_params ≡ true → (p : ℕ) → of_param t (param_at p) ≡ true
unfolding param_at
each-param t z h p = at (of_param t) no_param z all_params h p

-- a test of a row's section and of the slot that counts it
abbrev pub of_row : (ℕ → ℕ → Bool) → Row → Bool
of_row t r = t r.sec r.once

pub each_row : (t : ℕ → ℕ → Bool) → t 0 0 ≡ true → every (of_row t) rows ≡ true → (i : ℕ) → of_row t (row_at i) ≡ true
unfolding row_at
each_row t z h i = at (of_row t) no_row z rows h i

-- a test that holds where another does
pub implied : (a b : Bool) → (not a || b) ≡ true → a ≡ true → b ≡ true
implied true b h e = h
implied false b h e = absurd (false≢true e)

pub differ : (k n : ℕ) → not (eqb k n) ≡ true → k ≡ n → ⊥
differ k n h = eqb-false k n (not-true (eqb k n) h)
