-- The methods' rows, by the branches that the code takes.
use Prim.Native.Nat.{ℕ, zero, suc, ◌+◌, ◌<◌, ◌^◌}
use mathlib.Core.Path.{◌≡◌, refl, sym, ◌∙◌, ap}
use mathlib.Core.List.{List, [], ◌∷◌, ◌++◌}
use mathlib.Core.Bool.{Bool, true, false, cond, not, ◌&&◌}
use borrow.Author.Rules.{rules}
use borrow.Author.Tests.{eq-eqb, ne_eqb, le-ltb}
use lib.Dec.{eqb, ltb}
use lib.IntN.{ℤ, pos, negsuc, nat_abs}
use lib.Signed.{lt_z, mag}
use mir.Facts.{to_z-of_z}
use mir.Syntax.{w64}
use Rattle.std.specs.Prelude.{Option, Result, Ok, Err}
use Rattle.std.specs.Result.{result_unwrap_or}
use Rattle.cell.proofs.Signed.{back}
use lib.ListN.{length, replicate}
use native.Mathlib.Omega.{arith}
use Rattle.number.specs.Answer.{Answer, given, refused}
use Rattle.convert.specs.Method.{identical_of}
use Rattle.convert.specs.Told.{told_method}
use Rattle.convert.specs.declared.method.Coefficients.{Coefficients}
use Rattle.convert.specs.declared.method.NoConversion.{NoConversion}
use Rattle.records.specs.Cells.{section_in, count_in, put_in}
use Rattle.rows.specs.Sections.{method, table}
use Rattle.rows.specs.Slots.{conversion_type, compu_tab_ref, compu_tab_ref_past}
use Rattle.grammar.specs.Move.{View}
use Rattle.grammar.specs.Parameter.{find, found_at}
use Rattle.methods.specs.Methods.{coefficients}
use Rattle.tables.specs.Form.{table_sections}
use Rattle.tables.specs.Form as form
use Rattle.build.specs.Build.{flag, is_below, number_cells, coefficients_in, conversion_of, coefficient_cells, fraction_row, table_number, verbal_row, method_row}
use Rattle.build.specs.Row.{puts_at, opened, row_in}
use Rattle.build.proofs.RowLaws.{puts-on}

-- y is the number that was handed on
pub whole_is : (m k sign most : ℕ) (b : Bool) (y z : ℤ) (u w : List ℕ) → b ≡ is_below y → sign ≡ flag b → most ≡ nat_abs y → w ≡ puts_at u form.method_section m k (sign ∷ most ∷ []) → y ≡ z → w ≡ puts_at u form.method_section m k (number_cells z)
whole_is m k sign most b y z u w p q r s e = s ∙ rw (q, p, r, e)

pub ruleset wholes = (whole_is, rules)

-- b, c, e and f are the numbers that were handed on
pub coefficients-are : (m : ℕ) (k : Coefficients) (b c e f : ℤ) (u u₁ u₂ u₃ u₄ : List ℕ) → u₁ ≡ puts_at u form.method_section m 1 (number_cells b) → u₂ ≡ puts_at u₁ form.method_section m 3 (number_cells c)
    → u₃ ≡ puts_at u₂ form.method_section m 5 (number_cells e) → u₄ ≡ puts_at u₃ form.method_section m 7 (number_cells f) → b ≡ k.b → c ≡ k.c → e ≡ k.e → f ≡ k.f → u₄ ≡ puts_at u form.method_section m 1 (coefficient_cells k)
coefficients-are m k b c e f u u₁ u₂ u₃ u₄ p q r s pb pc pe pf =
    s ∙ rw (r, q, p, pb, pc, pe, pf) (sym
    (puts-on u form.method_section m 1 (number_cells k.b) (number_cells k.c ++ (number_cells k.e ++ number_cells k.f))
    ∙ puts-on (puts_at u form.method_section m 1 (number_cells k.b)) form.method_section m 3 (number_cells k.c) (number_cells k.e ++ number_cells k.f)
    ∙ puts-on (puts_at (puts_at u form.method_section m 1 (number_cells k.b)) form.method_section m 3 (number_cells k.c)) form.method_section m 5 (number_cells k.e) (number_cells k.f)))

-- a number that fits is handed on as it is
pub handed : (z : ℤ) → mag z < 2 ^ 63 → back z ≡ z
handed z h = to_z-of_z {w = w64} (record { sfits = h })

-- what there is of coefficients that were asked for
some-whole : (r : Result Coefficients NoConversion) (d : Coefficients) → d ≡ identical_of → result_unwrap_or r d ≡ coefficients_in (told_method r)
some-whole (Ok k) d p = refl
some-whole (Err e) d p = p

module _ (v : View) (i k : ℕ) (p : k ≡ v.slots method i conversion_type) where
  pub word-linear : k ≡ 20 → 20 ≡ conversion_of v i
  unfolding conversion_of
  word-linear h = rw (← p, eq-eqb k 20 h)

  pub word-rat : (k ≡ 20 → ⊥) → k ≡ 21 → 21 ≡ conversion_of v i
  unfolding conversion_of
  word-rat a h = rw (← p, ne_eqb k 20 a, eq-eqb k 21 h)

  pub word-other : (k ≡ 20 → ⊥) → (k ≡ 21 → ⊥) → 19 ≡ conversion_of v i
  unfolding conversion_of
  word-other a b = rw (← p, ne_eqb k 20 a, ne_eqb k 21 b)

pub ruleset conversions = (word-linear, word-rat, word-other, rules)

-- a record is opened, its first number put, then eight, then its last
row-of-ten : (a z m : ℕ) (bs : List ℕ) (u u₁ u₂ u₃ u₄ : List ℕ) → length bs ≡ 8 → m ≡ count_in u (section_in table_sections form.method_section) → u₁ ≡ opened u form.method_section
    → u₂ ≡ put_in u₁ (section_in table_sections form.method_section) m 0 a → u₃ ≡ puts_at u₂ form.method_section m 1 bs → u₄ ≡ put_in u₃ (section_in table_sections form.method_section) m 9 z → u₄ ≡ row_in u form.method_section (a ∷ (bs ++ (z ∷ [])))
unfolding row_in puts_at
row-of-ten a z m bs u u₁ u₂ u₃ u₄ l p o q r s =
    let e : 1 + length bs ≡ 9 = omega arith in
    s ∙ rw (r, q, o, p)
    (sym (puts-on (put_in (opened u form.method_section) (section_in table_sections form.method_section) (count_in u (section_in table_sections form.method_section)) 0 a) form.method_section (count_in u (section_in table_sections form.method_section)) 1 bs (z ∷ [])
    ∙ rw e))

pub fraction-is : (v : View) (i c m : ℕ) (a : Result Coefficients NoConversion) (d k : Coefficients) (u u₁ u₂ u₃ u₄ : List ℕ) → c ≡ conversion_of v i → told_method a ≡ coefficients v i → d ≡ identical_of → k ≡ result_unwrap_or a d
    → m ≡ count_in u (section_in table_sections form.method_section) → u₁ ≡ opened u form.method_section → u₂ ≡ put_in u₁ (section_in table_sections form.method_section) m 0 c → u₃ ≡ puts_at u₂ form.method_section m 1 (coefficient_cells k)
    → u₄ ≡ put_in u₃ (section_in table_sections form.method_section) m 9 0 → u₄ ≡ row_in u form.method_section (fraction_row v i)
fraction-is v i c m a d k u u₁ u₂ u₃ u₄ pc pa pd pk p o q r s =
    row-of-ten c 0 m (coefficient_cells k) u u₁ u₂ u₃ u₄ refl p o q r s
    ∙ ap (row_in u form.method_section) (rw (pc, pk ∙ some-whole a d pd ∙ ap coefficients_in pa))

pub ruleset fractions = (fraction-is, rules)

pub verbal-is : (n m : ℕ) (u u₁ u₂ u₃ u₄ : List ℕ) → m ≡ count_in u (section_in table_sections form.method_section) → u₁ ≡ opened u form.method_section → u₂ ≡ put_in u₁ (section_in table_sections form.method_section) m 0 22
    → u₃ ≡ puts_at u₂ form.method_section m 1 (replicate 8 0) → u₄ ≡ put_in u₃ (section_in table_sections form.method_section) m 9 n → u₄ ≡ row_in u form.method_section (verbal_row n)
verbal-is n m u u₁ u₂ u₃ u₄ p o q r s = row-of-ten 22 n m (replicate 8 0) u u₁ u₂ u₃ u₄ refl p o q r s

module _ (x : List ℕ) (v : View) (i k n : ℕ) (p : k ≡ v.slots method i conversion_type) (q : n ≡ table_number x v i) (u w : List ℕ) where
  pub method-verbal : (eqb k 22 && not (eqb n 0)) ≡ true → w ≡ row_in u form.method_section (verbal_row n) → w ≡ row_in u form.method_section (method_row x v i)
  unfolding method_row
  method-verbal h z = z ∙ rw (← p, ← q, h)

  pub method-fraction : (eqb k 22 && not (eqb n 0)) ≡ false → w ≡ row_in u form.method_section (fraction_row v i) → w ≡ row_in u form.method_section (method_row x v i)
  unfolding method_row
  method-fraction h z = z ∙ rw (← p, ← q, h)

pub ruleset method-rows = (method-verbal, method-fraction, rules)
