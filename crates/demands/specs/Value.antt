-- "its physical value is the exact fraction or text, or none": what a raw number means by the conversion that the description names.
use Rattle.std.specs.Prelude.{ℕ, ◌≤◌, ◌<◌, ◌≡◌, List, true, false, not, eqb, ℤ}
use Rattle.text.specs.Bytes.{spells}
use Rattle.number.specs.Answer.{given}
use Rattle.number.specs.Signed.{signed_of}
use Rattle.convert.specs.Fraction.{Value, text, fraction}
use Rattle.convert.specs.Method.{identical_of}
use Rattle.convert.specs.Verbal.{default_of}
use Rattle.convert.specs.declared.method.Coefficients.{Coefficients}
use Rattle.rows.specs.Codes.{TAB-VERB}
use Rattle.rows.specs.Sections.{method, table, entry}
use Rattle.rows.specs.Slots.{first_held, conversion_type, compu_tab_ref, compu_tab_ref_past, default_value, default_value_past, entry_sign, entry_size, entry_text, entry_text_past}
use Rattle.grammar.specs.Move.{View}
use Rattle.methods.specs.Methods.{coefficients}
use Rattle.build.specs.Build.{entries_end}
use Rattle.demands.specs.Leads.{Bears}

-- "the entry with that number gives its text, else ..": entries have a number, and a text from its first byte up to the place past it; those of a table
-- are the ones from a first up to an end
pub data TextBy (number : ℕ → ℤ) (from past : ℕ → ℕ) (first end : ℕ) (other : Value) (z : ℤ) : Value → Type 0 where
  by_entry : (e : ℕ) → first ≤ e → e < end → number e ≡ z → ((f : ℕ) → first ≤ f → f < e → number f ≡ z → ⊥) → TextBy number from past first end other z (text (from e) (past e))
  by_other : ((e : ℕ) → first ≤ e → e < end → number e ≡ z → ⊥) → TextBy number from past first end other z other

module _ (x : List ℕ) (v : View) where
  -- a verbal entry's number
  abbrev pub number_entry : ℕ → ℤ
  number_entry e = signed_of (not (eqb (v.slots entry e entry_sign) 0)) (v.slots entry e entry_size)

  -- "TAB_VERB: the entry with that number gives its text, else DEFAULT_VALUE, else none.": by the COMPU_VTAB s
  abbrev pub TableText : ℕ → ℤ → Value → Type 0
  TableText s =
      TextBy number_entry (λ e. v.slots entry e entry_text) (λ e. v.slots entry e entry_text_past) (v.slots table s first_held) (entries_end v s)
      (default_of (v.slots table s default_value) (v.slots table s default_value_past))

  -- the conversion whose name stands from a up to e has the coefficients b, c, e and f
  pub data CoefficientsBy (a e : ℕ) : Coefficients → Type 0 where
    -- "IDENTICAL and NO_COMPU_METHOD are 1, 0, 0, 1."
    by_none : spells x a e "NO_COMPU_METHOD" ≡ true → CoefficientsBy a e identical_of
    -- IDENTICAL, LINEAR or RAT_FUNC: those of the COMPU_METHOD m
    by_method : (m : ℕ) (c : Coefficients) → spells x a e "NO_COMPU_METHOD" ≡ false → Bears x v method a e m → (v.slots method m conversion_type ≡ TAB-VERB → ⊥)
        → coefficients v m ≡ given c → CoefficientsBy a e c

  -- "TAB_VERB with COMPU_TAB_REF to a COMPU_VTAB": it has the verbal table s
  pub data TableBy (a e : ℕ) : ℕ → Type 0 where
    by_reference : (m s : ℕ) → spells x a e "NO_COMPU_METHOD" ≡ false → Bears x v method a e m → v.slots method m conversion_type ≡ TAB-VERB
        → Bears x v table (v.slots method m compu_tab_ref) (v.slots method m compu_tab_ref_past) s → TableBy a e s

  -- w is what the raw number z means by the conversion whose name stands from a up to e
  pub data ValueBy (a e : ℕ) (z : ℤ) : Value → Type 0 where
    -- "P = (f·INT − c)/(b − e·INT), both signs turned if the divisor is negative, not cancelled. Divisor 0: no value."
    by_fraction : (c : Coefficients) → CoefficientsBy a e c → ValueBy a e z (fraction c z)
    by_table : (s : ℕ) (w : Value) → TableBy a e s → TableText s z w → ValueBy a e z w
