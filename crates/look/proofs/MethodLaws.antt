-- What a group's values are converted by, by the tests that the code makes.
use mathlib.Core.Path.{◌≡◌, ◌∙◌}
use mathlib.Core.List.{List}
use mathlib.Core.Bool.{false}
use Prim.Native.Nat.{ℕ, ◌-◌, min}
use borrow.Author.Rules.{rules}
use borrow.Author.Tests.{ne_eqb}
use lib.Dec.{eqb}
use Rattle.convert.specs.Method.{identical_of}
use Rattle.convert.specs.declared.method.Coefficients.{Coefficients}
use Rattle.tables.specs.Form.{method_section, tables_in, method_of, coefficients}
use Rattle.look.specs.Element.{past_records}
use Rattle.look.specs.Calls.{asks_by, is_tab_verb}
use Rattle.look.proofs.ElementLaws.{method-slot, near-coefficients}

module _ (t : List ℕ) (g m : ℕ) (p : m ≡ method_of (tables_in t) g) where
  pub verb-none : m ≡ 0 → false ≡ is_tab_verb (tables_in t) g
  unfolding is_tab_verb
  verb-none e = rw (← p, e)

  pub verb-is : (n k : ℕ) → (m ≡ 0 → ⊥) → n ≡ min (m - 1) past_records → k ≡ (tables_in t).slots method_section n 0 → eqb k 22 ≡ is_tab_verb (tables_in t) g
  unfolding is_tab_verb
  verb-is n k e q r = rw (r, q, method-slot t 0 (m - 1), ← p, ne_eqb m 0 e)

  pub asks-same : (f : Coefficients) → m ≡ 0 → f ≡ identical_of → f ≡ asks_by (tables_in t) g
  unfolding asks_by
  asks-same f e h = h ∙ rw (← p, e)

  pub asks-is : (n : ℕ) (f : Coefficients) → (m ≡ 0 → ⊥) → n ≡ min (m - 1) past_records → f ≡ coefficients (tables_in t) n → f ≡ asks_by (tables_in t) g
  unfolding asks_by
  asks-is n f e q h = h ∙ rw (q, near-coefficients t (m - 1), ← p, ne_eqb m 0 e)

pub ruleset methods = (verb-none, verb-is, asks-same, asks-is, rules)
