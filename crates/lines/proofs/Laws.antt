-- THE LAWS of fields, about the definitions that the contracts name.
use Prim.Native.Nat.{ℕ, zero, suc, ◌≤◌}
use native.Mathlib.Omega.{arith}
use mathlib.Core.Path.{◌≡◌, refl, ◌∙◌, ap}
use mathlib.Core.List.{List, [], ◌∷◌, ◌++◌}
use mathlib.Core.Bool.{Bool, true, false, cond}
use mathlib.Core.Logic.{◌⊎◌, inl, inr, ⊎_elim}
use lib.Dec.{eqb}
use lib.ListN.{length}
use Rattle.lines.specs.Field.{before, field_count, up_to_tab, past_tab, field_of}
use Rattle.lines.proofs.Fields.{field_of-none}

-- ---- bytes with no tab among them
tab-turn : (t : Bool) (n m : ℕ) → cond t 0 (suc n) ≡ suc m → (t ≡ false) × (n ≡ m)
tab-turn true n m e = absurd (omega arith)
tab-turn false n m e = (refl, omega arith)

split : (x : ℕ) (a : List ℕ) → before 9 (x ∷ a) ≡ length (x ∷ a) → (eqb x 9 ≡ false) × (before 9 a ≡ length a)
unfolding before
split x a h = tab-turn (eqb x 9) (before 9 a) (length a) h

-- A LINE WITH NO TAB is one field, and that field is the whole line.
pub one_field : (a : List ℕ) → before 9 a ≡ length a → field_of 0 a ≡ a
unfolding field_of up_to_tab
one_field [] h = refl
one_field (x ∷ a) h = let s = split x a h in rw s.0 (ap (λ (l : List ℕ). x ∷ l) (one_field a s.1))

pub one-count : (a : List ℕ) → before 9 a ≡ length a → field_count a ≡ 1
unfolding field_count
one-count [] h = refl
one-count (x ∷ a) h = let s = split x a h in rw s.0 (one-count a s.1)

-- THE BYTES BEFORE THE FIRST TAB are field 0; the fields of what follows it are the further ones, and there is one fewer of them.
pub first_field : (a b : List ℕ) → before 9 a ≡ length a → field_of 0 (a ++ 9 ∷ b) ≡ a
unfolding field_of up_to_tab
first_field [] b h = refl
first_field (x ∷ a) b h = let s = split x a h in rw s.0 (ap (λ (l : List ℕ). x ∷ l) (first_field a b s.1))

pub next_field : (k : ℕ) (a b : List ℕ) → before 9 a ≡ length a → field_of (suc k) (a ++ 9 ∷ b) ≡ field_of k b
unfolding field_of past_tab
next_field k [] b h = refl
next_field k (x ∷ a) b h = let s = split x a h in rw s.0 (next_field k a b s.1)

pub next-count : (a b : List ℕ) → before 9 a ≡ length a → field_count (a ++ 9 ∷ b) ≡ suc (field_count b)
unfolding field_count
next-count [] b h = refl
next-count (x ∷ a) b h = let s = split x a h in rw s.0 (next-count a b s.1)

-- A FIELD THAT THE LINE DOES NOT HAVE is empty.
count_turn : (t : Bool) (n : ℕ) (l p : List ℕ) → n ≡ field_count l → (p ≡ []) ⊎ (n ≡ suc (field_count p)) → (cond t l p ≡ []) ⊎ (cond t (suc n) n ≡ suc (field_count (cond t l p)))
count_turn true n l p e h = inr (ap suc e)
count_turn false n l p e h = h

past-count : (s : List ℕ) → (past_tab s ≡ []) ⊎ (field_count s ≡ suc (field_count (past_tab s)))
unfolding past_tab field_count
past-count [] = inl refl
past-count (b ∷ s) = count_turn (eqb b 9) (field_count s) s (past_tab s) refl (past-count s)

some_turn : (t : Bool) (n : ℕ) → 1 ≤ n → 1 ≤ cond t (suc n) n
some_turn true n h = omega arith
some_turn false n h = h

some-field : (s : List ℕ) → 1 ≤ field_count s
unfolding field_count
some-field [] = omega arith
some-field (b ∷ s) = some_turn (eqb b 9) (field_count s) (some-field s)

pub no_field : (k : ℕ) (s : List ℕ) → field_count s ≤ k → field_of k s ≡ []
unfolding field_of
no_field zero s h = absurd (omega (arith, some-field s))
no_field (suc k) s h = ⊎_elim (λ e. ap (field_of k) e ∙ field_of-none k) (λ e. no_field k (past_tab s) (omega arith)) (past-count s)
