-- What can be asked of the records, and writing into them, by the branches that the code takes.
use Prim.Native.Nat.{ℕ, zero, suc, ◌+◌, ◌-◌, ◌≤◌, ◌<◌}
use Rattle.number.specs.Most.{most_objects, most_methods, most_tables, most_layouts, most_entries, most_axes}
use mathlib.Core.Path.{◌≡◌, refl, sym, ◌∙◌, ap}
use mathlib.Core.List.{List, [], ◌∷◌, ◌++◌}
use mathlib.Core.Bool.{and-false}
use native.Mathlib.Omega.{arith}
use native.Mathlib.Nat.{add-zero}
use borrow.Author.Rules.{rules}
use borrow.Author.Tests.{le-ltb}
use lib.ListN.{length, take}
use lib.Seq.{take-nil}
use Rattle.records.specs.Cells.{section_in, count_in, slot_in, put_in, add_in}
use Rattle.records.specs.declared.Section.{Section}
use Rattle.rows.specs.Sections.{sections}
use Rattle.grammar.specs.Move.{view_in, current, values, puts_in, applied_in}
use Rattle.grammar.specs.declared.state.Act.{Act}

abbrev sec : ℕ → ℕ → ℕ → Section
sec b w m = record { base = b; width = w; most = m }

-- r is what `section` gave for the number m
numbered : (j m : ℕ) (r : Section) → r ≡ section_in sections m → j ≡ m → r ≡ section_in sections j
numbered j m r p e = p ∙ ap (section_in sections) (sym e)

past : (j : ℕ) → (j ≡ 0 → ⊥) → (j ≡ 1 → ⊥) → (j ≡ 2 → ⊥) → (j ≡ 3 → ⊥) → (j ≡ 4 → ⊥) → (j ≡ 5 → ⊥) → (j ≡ 6 → ⊥) → sec 42578 0 0 ≡ section_in sections j
unfolding sections
past zero a b c d e f g = absurd (a refl)
past (suc zero) a b c d e f g = absurd (b refl)
past (suc (suc zero)) a b c d e f g = absurd (c refl)
past (suc (suc (suc zero))) a b c d e f g = absurd (d refl)
past (suc (suc (suc (suc zero)))) a b c d e f g = absurd (e refl)
past (suc (suc (suc (suc (suc zero))))) a b c d e f g = absurd (f refl)
past (suc (suc (suc (suc (suc (suc zero)))))) a b c d e f g = absurd (g refl)
past (suc (suc (suc (suc (suc (suc (suc zero))))))) a b c d e f g = refl
past (suc (suc (suc (suc (suc (suc (suc (suc j)))))))) a b c d e f g = refl

module _ (j : ℕ) (r : Section) where
  pub section-0 : r ≡ sec 0 11 1 → j ≡ 0 → r ≡ section_in sections j
  unfolding sections
  section-0 p = numbered j 0 r p

  pub section-1 : r ≡ sec 12 28 most_methods → j ≡ 1 → r ≡ section_in sections j
  unfolding sections
  section-1 p = numbered j 1 r p

  pub section-2 : r ≡ sec 3597 9 most_tables → j ≡ 2 → r ≡ section_in sections j
  unfolding sections
  section-2 p = numbered j 2 r p

  pub section-3 : r ≡ sec 4750 4 most_entries → j ≡ 3 → r ≡ section_in sections j
  unfolding sections
  section-3 p = numbered j 3 r p

  pub section-4 : r ≡ sec 8847 31 most_layouts → j ≡ 4 → r ≡ section_in sections j
  unfolding sections
  section-4 p = numbered j 4 r p

  pub section-5 : r ≡ sec 10832 28 most_objects → j ≡ 5 → r ≡ section_in sections j
  unfolding sections
  section-5 p = numbered j 5 r p

  pub section-6 : r ≡ sec 25169 17 most_axes → j ≡ 6 → r ≡ section_in sections j
  unfolding sections
  section-6 p = numbered j 6 r p

  pub section-none : r ≡ sec 42578 0 0 → (j ≡ 0 → ⊥) → (j ≡ 1 → ⊥) → (j ≡ 2 → ⊥) → (j ≡ 3 → ⊥) → (j ≡ 4 → ⊥) → (j ≡ 5 → ⊥) → (j ≡ 6 → ⊥) → r ≡ section_in sections j
  section-none p a b c d e f g = p ∙ past j a b c d e f g

pub ruleset numbered-sections = (section-0, section-1, section-2, section-3, section-4, section-5, section-6, section-none, rules)

-- c is what `section_of` gave
module _ (t : List ℕ) (j : ℕ) (c : Section) (p : c ≡ section_in sections j) where
  pub count-is : (n : ℕ) → n ≡ count_in t c → n ≡ count_in t (section_in sections j)
  count-is n q = q ∙ ap (count_in t) p

  pub slot_is : (i k v : ℕ) → v ≡ slot_in t c i k → v ≡ slot_in t (section_in sections j) i k
  slot_is i k v q = q ∙ ap (λ x. slot_in t x i k) p

pub current-is : (t : List ℕ) (j k n b v : ℕ) → n ≡ count_in t (section_in sections j) → b ≡ n - 1 → v ≡ slot_in t (section_in sections j) b k → v ≡ current (view_in t) j k
current-is t j k n b v p q r = rw (r, q, p)

-- c is what `section_of` gave
pub ruleset views = (count-is, slot_is, current-is, rules)

-- nothing is left to take
rest : (n : ℕ) → ◌≡◌ {A = List ℕ} (take n []) []
rest n = take-nil n

-- one number, or two, from slot k on
module _ (c : Section) (i k m x y : ℕ) (t : List ℕ) where
  pub two_none : m ≡ 0 → t ≡ puts_in t c i k (take m (x ∷ y ∷ []))
  two_none h = rw h

  module _ (u : List ℕ) (p : u ≡ put_in t c i k x) where
    pub two-one : m ≡ 1 → u ≡ puts_in t c i k (take m (x ∷ y ∷ []))
    two-one h = rw (h, p)

    more : (m ≡ 0 → ⊥) → (m ≡ 1 → ⊥) → take m (x ∷ y ∷ []) ≡ x ∷ y ∷ []
    more a b = let e : m ≡ suc (suc (m - 2)) = omega arith in rw (e, rest (m - 2))

    pub two-both : (w : List ℕ) → (m ≡ 0 → ⊥) → (m ≡ 1 → ⊥) → w ≡ put_in u c i (k + 1) y → w ≡ puts_in t c i k (take m (x ∷ y ∷ []))
    two-both w a b q = let e : k + 1 ≡ suc k = omega arith in rw (more a b, q, p, e)

    -- past the greatest slot nothing is written
    pub two_past : (m ≡ 0 → ⊥) → (m ≡ 1 → ⊥) → 65535 ≤ k → c.width < 256 → u ≡ puts_in t c i k (take m (x ∷ y ∷ []))
    unfolding put_in
    two_past a b h l = rw (more a b, p, le-ltb (suc k) c.width (omega arith), and-false)

pub ruleset twos = (two_none, two-one, two-both, two_past, rules)

-- k plus n numbers further
puts-on : (t : List ℕ) (c : Section) (i k : ℕ) (xs ys : List ℕ) → puts_in t c i k (xs ++ ys) ≡ puts_in (puts_in t c i k xs) c i (k + length xs) ys
puts-on t c i k [] ys = ap (λ n. puts_in t c i n ys) (sym (add-zero k))
puts-on t c i k (x ∷ xs) ys = let e : suc k + length xs ≡ k + suc (length xs) = omega arith in puts-on (put_in t c i k x) c i (suc k) xs ys ∙ ap (λ n. puts_in (puts_in (put_in t c i k x) c i (suc k) xs) c i n ys) e

first_two : (m x y : ℕ) (l : List ℕ) → 3 ≤ m → take m (x ∷ y ∷ l) ≡ x ∷ y ∷ take (m - 2) l
first_two zero x y l h = absurd (omega arith)
first_two (suc zero) x y l h = absurd (omega arith)
first_two (suc (suc m)) x y l h = let e : m ≡ suc (suc m) - 2 = omega arith in ap (λ n. x ∷ y ∷ take n l) e

module _ (a : Act) (i : ℕ) (c : Section) (t u : List ℕ) where
  pub values-few : a.many < 3 → u ≡ puts_in t c i a.slot (take a.many (a.a ∷ a.b ∷ [])) → u ≡ puts_in t c i a.slot (values a)
  values-few h p = p ∙ ap (puts_in t c i a.slot) (few a.many h) where
    few : (m : ℕ) → m < 3 → take m (a.a ∷ a.b ∷ []) ≡ take m (a.a ∷ a.b ∷ a.c ∷ a.d ∷ [])
    few zero h = refl
    few (suc zero) h = refl
    few (suc (suc zero)) h = refl
    few (suc (suc (suc m))) h = absurd (omega arith)

  pub values-many : (w : List ℕ) → 3 ≤ a.many → u ≡ puts_in t c i a.slot (take 2 (a.a ∷ a.b ∷ [])) → w ≡ puts_in u c i (a.slot + 2) (take (a.many - 2) (a.c ∷ a.d ∷ [])) → w ≡ puts_in t c i a.slot (values a)
  values-many w h p q =
      q ∙ ap (λ z. puts_in z c i (a.slot + 2) (take (a.many - 2) (a.c ∷ a.d ∷ []))) p
      ∙ sym (puts-on t c i a.slot (a.a ∷ a.b ∷ []) (take (a.many - 2) (a.c ∷ a.d ∷ [])))
      ∙ ap (puts_in t c i a.slot) (sym (first_two a.many a.a a.b (a.c ∷ a.d ∷ []) h))

pub ruleset valued = (values-few, values-many, rules)

-- a record is added, then its numbers are written
pub acts : (a : Act) (c e : Section) (t₀ t₁ t₂ : List ℕ) (n b : ℕ) → c ≡ section_in sections a.adds → t₁ ≡ add_in t₀ c → n ≡ count_in t₁ (section_in sections a.sec) → b ≡ n - 1
    → e ≡ section_in sections a.sec → t₂ ≡ puts_in t₁ e b a.slot (values a) → t₂ ≡ applied_in a t₀
unfolding applied_in
acts a c e t₀ t₁ t₂ n b p q r u x v = rw (v, x, u, r, q, p)

pub ruleset actions = (acts, rules)
