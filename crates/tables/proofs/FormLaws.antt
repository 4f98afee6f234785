-- The sections and the records in them, by the branches that the code takes.
use Prim.Native.Nat.{ℕ, zero, suc}
use mathlib.Core.Path.{◌≡◌, refl, sym, ◌∙◌, ap}
use mathlib.Core.List.{List}
use borrow.Author.Rules.{rules}
use Rattle.number.specs.Most.{most_objects, most_methods, most_tables, most_entries, most_groups}
use Rattle.records.specs.Cells.{section_in, count_in, slot_in, put_in, add_in}
use Rattle.records.specs.declared.Section.{Section}
use Rattle.tables.specs.Form.{table_sections}

abbrev sec : ℕ → ℕ → ℕ → Section
sec b w m = record { base = b; width = w; most = m }

-- r is what `section` gave for the number m
numbered : (j m : ℕ) (r : Section) → r ≡ section_in table_sections m → j ≡ m → r ≡ section_in table_sections j
numbered j m r p e = p ∙ ap (section_in table_sections) (sym e)

past : (j : ℕ) → (j ≡ 0 → ⊥) → (j ≡ 1 → ⊥) → (j ≡ 2 → ⊥) → (j ≡ 3 → ⊥) → (j ≡ 4 → ⊥) → (j ≡ 5 → ⊥) → sec 36617 0 0 ≡ section_in table_sections j
unfolding table_sections
past zero a b c d e f = absurd (a refl)
past (suc zero) a b c d e f = absurd (b refl)
past (suc (suc zero)) a b c d e f = absurd (c refl)
past (suc (suc (suc zero))) a b c d e f = absurd (d refl)
past (suc (suc (suc (suc zero)))) a b c d e f = absurd (e refl)
past (suc (suc (suc (suc (suc zero))))) a b c d e f = absurd (f refl)
past (suc (suc (suc (suc (suc (suc zero)))))) a b c d e f = refl
past (suc (suc (suc (suc (suc (suc (suc j))))))) a b c d e f = refl

module _ (j : ℕ) (r : Section) where
  pub section-0 : r ≡ sec 0 3 1 → j ≡ 0 → r ≡ section_in table_sections j
  unfolding table_sections
  section-0 p = numbered j 0 r p

  pub section-1 : r ≡ sec 4 3 most_objects → j ≡ 1 → r ≡ section_in table_sections j
  unfolding table_sections
  section-1 p = numbered j 1 r p

  pub section-2 : r ≡ sec 1541 19 most_groups → j ≡ 2 → r ≡ section_in table_sections j
  unfolding table_sections
  section-2 p = numbered j 2 r p

  pub section-3 : r ≡ sec 30726 10 most_methods → j ≡ 3 → r ≡ section_in table_sections j
  unfolding table_sections
  section-3 p = numbered j 3 r p

  pub section-4 : r ≡ sec 32007 4 most_tables → j ≡ 4 → r ≡ section_in table_sections j
  unfolding table_sections
  section-4 p = numbered j 4 r p

  pub section-5 : r ≡ sec 32520 4 most_entries → j ≡ 5 → r ≡ section_in table_sections j
  unfolding table_sections
  section-5 p = numbered j 5 r p

  pub section-none : r ≡ sec 36617 0 0 → (j ≡ 0 → ⊥) → (j ≡ 1 → ⊥) → (j ≡ 2 → ⊥) → (j ≡ 3 → ⊥) → (j ≡ 4 → ⊥) → (j ≡ 5 → ⊥) → r ≡ section_in table_sections j
  section-none p a b c d e f = p ∙ past j a b c d e f

pub ruleset numbered-sections = (section-0, section-1, section-2, section-3, section-4, section-5, section-none, rules)

-- c is what `section_of` gave
module _ (t : List ℕ) (j : ℕ) (c : Section) (p : c ≡ section_in table_sections j) where
  pub count-is : (n : ℕ) → n ≡ count_in t c → n ≡ count_in t (section_in table_sections j)
  count-is n q = q ∙ ap (count_in t) p

  pub slot_is : (i k v : ℕ) → v ≡ slot_in t c i k → v ≡ slot_in t (section_in table_sections j) i k
  slot_is i k v q = q ∙ ap (λ x. slot_in t x i k) p

  pub add_is : (u : List ℕ) → u ≡ add_in t c → u ≡ add_in t (section_in table_sections j)
  add_is u q = q ∙ ap (add_in t) p

  pub put_is : (i k v : ℕ) (u : List ℕ) → u ≡ put_in t c i k v → u ≡ put_in t (section_in table_sections j) i k v
  put_is i k v u q = q ∙ ap (λ x. put_in t x i k v) p

pub ruleset forms = (count-is, slot_is, add_is, put_is, rules)
