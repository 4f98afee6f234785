-- What specs/Facts.antt says is true of the records of every description that was read.
use Prim.Native.Nat.{ℕ}
use mathlib.Core.Path.{◌≡◌}
use mathlib.Core.List.{List}
use mathlib.Core.Bool.{true, ◌||◌}
use mathlib.Core.Logic.{◌⊎◌, inl, inr}
use borrow.Author.Tests.{eqb-true}
use lib.Dec.{eqb}
use Rattle.text.specs.Answer.{given}
use Rattle.text.proofs.Within.{or_case}
use Rattle.rows.specs.Sections.{method, table, entry, layout, object}
use Rattle.grammar.specs.Read.{read}
use Rattle.facts.specs.Facts.{is_named, Kept}
use Rattle.facts.proofs.Readings.{read-good}
use Rattle.facts.proofs.Limits.{object-limits, axis-limits}
use Rattle.facts.proofs.Texts.{is_text, text-inside, method-name, table-name, layout-name, object-name, table-default, pair-told}
use Rattle.facts.proofs.Firsts.{first_read}

-- the records of a section with names have them in slots 0 and 1
pub named-text : (j : ℕ) → is_named j ≡ true → is_text j 0 ≡ true
named-text j h = by-object (or_case (eqb j method || eqb j table || eqb j layout) (eqb j object) h) where
  by_method : (eqb j method ≡ true) ⊎ (eqb j table ≡ true) → is_text j 0 ≡ true
  by_method (inl e) = rw (eqb-true j method e) method-name
  by_method (inr e) = rw (eqb-true j table e) table-name

  by_layout : ((eqb j method || eqb j table) ≡ true) ⊎ (eqb j layout ≡ true) → is_text j 0 ≡ true
  by_layout (inl e) = by_method (or_case (eqb j method) (eqb j table) e)
  by_layout (inr e) = rw (eqb-true j layout e) layout-name

  by-object : ((eqb j method || eqb j table || eqb j layout) ≡ true) ⊎ (eqb j object ≡ true) → is_text j 0 ≡ true
  by-object (inl e) = by_layout (or_case (eqb j method || eqb j table) (eqb j layout) e)
  by-object (inr e) = rw (eqb-true j object e) object-name

module _ (x : List ℕ) (d : List (List (List ℕ))) (r : read x ≡ given d) where
  pub read_keeps : Kept x d
  read_keeps = record {
    names = λ j i h. text-inside j 0 (named-text j h) x d r i;
    defaults = text-inside table 7 table-default x d r;
    texts = text-inside entry 2 pair-told x d r;
    firsts = first_read x d r;
    limits = object-limits x d r;
    axis_limits = axis-limits x d r;
    good = read-good x d r;
  }
