-- THE SECOND DEMAND: "its physical value is the exact fraction", by the method that the description names.
--     method-held         a method of the description keeps its coefficients in the tables of an accepted load
--     asks-some, asks_none     and so a group whose method it is is asked by them, one without a method by 1, 0, 0, 1
use Prim.Native.Nat.{ℕ, suc, ◌-◌, ◌≤◌, ◌<◌, min}
use mathlib.Core.Path.{◌≡◌, refl, sym, ap, subst}
use mathlib.Core.List.{List}
use mathlib.Core.Bool.{true, false, not}
use native.Mathlib.Omega.{arith}
use borrow.Author.Tests.{ne_eqb}
use lib.Dec.{eqb}
use lib.IntN.{ℤ, pos, negsuc, neg_ℤ, nat_abs}
use lib.ListN.{get_or}
use Rattle.text.proofs.Within.{by-test, and_left}
use Rattle.number.specs.Answer.{given}
use Rattle.number.specs.Form.{is_given}
use Rattle.convert.specs.Whole.{all_small, Small}
use Rattle.convert.proofs.Wholes.{small-facts}
use Rattle.number.specs.Signed.{signed_of}
use Rattle.convert.specs.Method.{identical_of, same_products, sound_method}
use Rattle.convert.specs.declared.method.Coefficients.{Coefficients}
use Rattle.records.specs.Records.{count, slot}
use Rattle.rows.specs.Codes.{LINEAR, RAT-FUNC, TAB-VERB}
use Rattle.rows.specs.Sections as records
use Rattle.rows.specs.Slots.{conversion_type}
use Rattle.grammar.specs.Move.{View, view}
use Rattle.methods.specs.Methods as methods
use Rattle.tables.specs.declared.setting.Setting.{Setting}
use Rattle.build.specs.Build.{flag, is_below, coefficients_in, conversion_of, fraction_row, method_row, built}
use Rattle.build.proofs.BuiltLaws.{Within, slot-method}
use Rattle.tables.specs.Form.{method_section, conversion_cell, b_cell, c_cell, e_cell, f_cell, Tables, tables_of, tables_in, method_of, coefficient, coefficients}
use Rattle.tables.specs.Rule.{is_verbal}
use Rattle.load.specs.Load.{loaded}
use Rattle.tree.specs.Tree.{Records}
use Rattle.keeps.specs.Accepted.{all_elements}
use Rattle.keeps.proofs.Rows.{coefficients-sound}
use Rattle.look.specs.Calls.{asks_by, is_tab_verb}
use Rattle.demands.specs.Rules.{Fits, Keeps}
use Rattle.demands.proofs.Loaded.{within, same}

-- a whole number's two cells give it back
signed_back : (z : ℤ) → nat_abs z ≤ 1000000000 → signed_of (eqb (flag (is_below z)) 1) (min (nat_abs z) 1000000001) ≡ z
signed_back (pos n) h = let e : min n 1000000001 ≡ n = omega arith in ap pos e
signed_back (negsuc n) h = let e : min (suc n) 1000000001 ≡ suc n = omega arith in ap (λ k. neg_ℤ (pos k)) e

smalls : (k : Coefficients) → sound_method k ≡ true → Small k
unfolding sound_method
smalls k e = small-facts k (and_left (all_small k) (not (same_products k)) e)

-- IDENTICAL, LINEAR and RAT_FUNC are not verbal
not-verbal : (v : View) (j : ℕ) → is_verbal (conversion_of v j) ≡ false
unfolding conversion_of
not-verbal v j =
    by-test (λ (n : ℕ). is_verbal n ≡ false) (eqb (v.slots records.method j conversion_type) LINEAR) (λ t. refl)
    (λ t. by-test (λ (n : ℕ). is_verbal n ≡ false) (eqb (v.slots records.method j conversion_type) RAT-FUNC) (λ s. refl) (λ s. refl))

-- what method m of the tables holds
abbrev pub HasMethod : Tables → ℕ → Coefficients → Type 0
HasMethod T m c = (is_verbal (T.slots method_section m conversion_cell) ≡ false) × (coefficients T m ≡ c)

module _ (image : List ℕ) (setting : Setting) (x : List ℕ) (d : List (List (List ℕ))) (n : ℕ) (w : Within (view d)) (m : ℕ) (below : m < count d records.method) where
  abbrev T : Tables
  T = tables_of (built image setting x (view d) n)

  method-row : (slot d records.method m conversion_type ≡ TAB-VERB → ⊥) → (k : ℕ) → T.slots method_section m k ≡ get_or (fraction_row (view d) m) k 0
  unfolding method_row
  method-row z k = rw (ne_eqb (slot d records.method m conversion_type) TAB-VERB z) at (slot-method image setting x (view d) n w m k below)

  built-method : (slot d records.method m conversion_type ≡ TAB-VERB → ⊥) → (c : Coefficients) → methods.coefficients (view d) m ≡ given c → HasMethod T m c
  built-method z c e = (rw (method-row z 0) (not-verbal (view d) m), λ p. record { b = first p; c = second p; e = third p; f = fourth p })
    where
      is : sound_method c ≡ true
      is = subst (λ a. is_given a ≡ true → sound_method (coefficients_in a) ≡ true) e (coefficients-sound (view d) m) refl

      row : (k : ℕ) → T.slots method_section m k ≡ get_or (fraction_row (view d) m) k 0
      row = method-row z

      first : coefficient T m b_cell ≡ c.b
      first = rw (row 1, row 2, e) (signed_back c.b (smalls c is).b)

      second : coefficient T m c_cell ≡ c.c
      second = rw (row 3, row 4, e) (signed_back c.c (smalls c is).c)

      third : coefficient T m e_cell ≡ c.e
      third = rw (row 5, row 6, e) (signed_back c.e (smalls c is).e)

      fourth : coefficient T m f_cell ≡ c.f
      fourth = rw (row 7, row 8, e) (signed_back c.f (smalls c is).f)

-- ---- what a group with a method, and one with none, is asked by
module _ (T : Tables) (g : ℕ) where
  one_less : (m : ℕ) → suc m - 1 ≡ m
  one_less m = omega arith

  pub verbal-not : (m : ℕ) → method_of T g ≡ suc m → is_verbal (T.slots method_section m conversion_cell) ≡ false → is_tab_verb T g ≡ false
  unfolding is_tab_verb
  verbal-not m u v = rw (u, one_less m, v, ne_eqb (suc m) 0 (λ z. omega arith))

  pub asks-some : (m : ℕ) → method_of T g ≡ suc m → (c : Coefficients) → coefficients T m ≡ c → asks_by T g ≡ c
  unfolding asks_by
  asks-some m u c v = rw (u, one_less m, ne_eqb (suc m) 0 (λ z. omega arith)) v

  pub verbal-none : method_of T g ≡ 0 → is_tab_verb T g ≡ false
  unfolding is_tab_verb
  verbal-none u = rw u

  pub asks_none : method_of T g ≡ 0 → asks_by T g ≡ identical_of
  unfolding asks_by
  asks_none u = rw u

module _ (x image : List ℕ) (setting : Setting) (lent work : List ℕ) (f : Fits x image setting lent work) (k : Keeps x image setting.base) where
  abbrev d : Records
  d = k.records

  abbrev t : List ℕ
  t = (loaded x image setting lent work).tables

  pub method-held : (m : ℕ) → m < count d records.method → (slot d records.method m conversion_type ≡ TAB-VERB → ⊥) → (c : Coefficients) → methods.coefficients (view d) m ≡ given c → HasMethod (tables_in t) m c
  method-held m l z c e =
      subst (λ (T : Tables). HasMethod T m c) (sym (same x image setting lent work f k)) (built-method image setting x d (all_elements image setting.base x d) (within x image setting lent work f k) m l z c e)
