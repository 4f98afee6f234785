-- The names that were read end before the place that is reached, so that what lies ahead has no part in comparing them.
use Prim.Native.Nat.{ℕ, ◌≤◌, ◌<◌}
use mathlib.Core.Path.{◌≡◌, refl, subst}
use mathlib.Core.List.{List}
use mathlib.Core.Bool.{Bool, true, not, ◌||◌}
use native.Mathlib.Omega.{arith}
use borrow.Author.Tests.{eq-eqb}
use lib.Dec.{eqb}
use lib.ListN.{length}
use Rattle.records.specs.Records.{slot}
use Rattle.records.proofs.Encode.{Good}
use Rattle.rows.specs.Sections.{sections}
use Rattle.rows.specs.Slots.{own_name, own_name_past}
use Rattle.rows.specs.Rows.{rows}
use Rattle.rows.specs.Numbered.{all_params}
use Rattle.grammar.specs.Move.{view, applied, went}
use Rattle.grammar.specs.Parameter.{kind_of, sec_of}
use Rattle.grammar.specs.Read.{move, start}
use Rattle.grammar.specs.declared.state.State.{State}
use Rattle.grammar.specs.declared.state.Act.{Act}
use Rattle.facts.specs.Facts.{is_named}
use Rattle.facts.proofs.Slots.{start-slot}
use Rattle.facts.proofs.Tests.{every, of_param, each-param, implied}
use Rattle.facts.proofs.Numbers.{Number}
use Rattle.facts.proofs.Moves.{Leads, Calm, no_cases, move-leads}
use Rattle.facts.proofs.Texts.{Told, text-cases}
use Rattle.facts.proofs.Keeps.{named-text}

-- ---- a new record has a name

abbrev new_test : ℕ → ℕ → ℕ → ℕ → Bool
new_test w s n c = not (eqb w 6) || is_named c

news : every (of_param new_test) all_params ≡ true
unfolding all_params rows
news = refl

pub new-named : (s : State) → kind_of s ≡ 6 → is_named (sec_of s) ≡ true
new-named s h = implied (eqb (kind_of s) 6) (is_named (sec_of s)) (each-param new_test refl news s.param) (eq-eqb (kind_of s) 6 h)

-- ---- names end before a place

abbrev pub Before : ℕ → List (List (List ℕ)) → Type 0
Before k d = (j i : ℕ) → is_named j ≡ true → Told k (slot d j i own_name) (slot d j i own_name_past)

pub before-start : (k : ℕ) → Before k start
before-start k j i h = rw (start-slot j i 0, start-slot j i 1) ((omega arith, omega arith), λ z. absurd (z refl))

told-later : (k n a e : ℕ) → k ≤ n → Told k a e → Told n a e
told-later k n a e h t = ((t.0.0, omega (arith, t.0.1)), t.1)

-- what is true of a move that goes on
module _ (x : List ℕ) (d : List (List (List ℕ))) (s : State) (k : ℕ) (h : k ≤ length x) (calm : Calm s) (e : ℕ) (t : State) (a : Act) (q : move x (view d) s k ≡ went e t a) where
  abbrev Ahead : Type 0
  Ahead = (k < e) × (e ≤ length x) × Calm t

  pub went-ahead : Ahead
  went-ahead = of (subst (Leads (s.param ≡ 0) (λ i u w. (k < i) × (i ≤ length x) × Calm u × (i ≤ 0 → Unit {0})) (λ n p. (Number n × (p ≤ length x)) × (k ≤ p))) q
      (move-leads x (view d) s (λ u w. Unit {0}) 0 (no_cases 0 (view d) s) k h calm)) where
        of : (k < e) × (e ≤ length x) × Calm t × (e ≤ 0 → Unit {0}) → Ahead
        of r = (r.0, r.1, r.2)

  pub before-went : Good sections d → Before k d → Before e (applied a d)
  before-went g b j i n = of (subst (Leads (s.param ≡ 0) (λ i u w. (k < i) × (i ≤ length x) × Calm u × (i ≤ e → Keeps w)) (λ n p. (Number n × (p ≤ length x)) × (k ≤ p))) q
      (move-leads x (view d) s (λ u w. Keeps w) e (text-cases j 0 (named-text j n) e s d g (λ i. told-later k e _ _ (omega (arith, went-ahead.0)) (b j i n))) k h calm)) i where
        Keeps : Act → Type 0
        Keeps w = (i : ℕ) → Told e (slot (applied w d) j i own_name) (slot (applied w d) j i own_name_past)

        of : (k < e) × (e ≤ length x) × Calm t × (e ≤ e → Keeps a) → Keeps a
        of r = r.3 (omega arith)
