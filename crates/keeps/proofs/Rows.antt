-- Methods, verbal tables and entries of the tables that are built keep the table rule.
use Prim.Native.Nat.{ℕ, zero, suc, ◌+◌, ◌-◌, ◌^◌, ◌≤◌, ◌<◌, min, max}
use mathlib.Core.Path.{◌≡◌, refl, ◌∙◌, ap}
use mathlib.Core.List.{List, [], ◌∷◌, ◌++◌}
use mathlib.Core.Bool.{Bool, true, false, cond, not, ◌&&◌, false≢true}
use native.Mathlib.Omega.{arith}
use native.Mathlib.Numerals.{add-one}
use borrow.Author.Tests.{le-leb, eq-eqb, leb-true, eqb-false, not-true}
use lib.Dec.{eqb, ltb}
use lib.IntN.{ℤ, pos, negsuc, neg_ℤ, nat_abs}
use lib.ListN.{length, get_or, replicate}
use Rattle.text.specs.Answer as text
use Rattle.text.proofs.Within.{and_left, and_right, by-test}
use Rattle.number.specs.Answer.{Answer}
use Rattle.number.specs.Decimal.{Scaled}
use Rattle.number.specs.Form.{is_given}
use Rattle.number.specs.Signed.{signed_of}
use Rattle.convert.specs.Whole.{eq_z, small, all_small}
use Rattle.convert.specs.Limit.{formed}
use Rattle.convert.proofs.Limits.{formed-facts}
use Rattle.convert.specs.Method.{same_products, sound_method, judged_method, rat_func, linear_at, linear_of, identical_of}
use Rattle.convert.specs.declared.method.Coefficients.{Coefficients}
use Rattle.records.specs.Records.{count, slot}
use Rattle.rows.specs.Codes.{LINEAR, RAT-FUNC, TAB-VERB}
use Rattle.rows.specs.Sections as records
use Rattle.rows.specs.Slots.{own_name, first_held, conversion_type, linear_a, linear_b, compu_tab_ref, compu_tab_ref_past, default_value, default_value_past, entry_text, entry_text_past}
use Rattle.grammar.specs.Move.{View, view}
use Rattle.methods.specs.Methods as methods
use Rattle.methods.specs.Methods.{decimal_at, coefficients, converts_from, converts}
use Rattle.facts.specs.Facts.{Inside, Kept}
use Rattle.objects.proofs.Each.{find-below}
use Rattle.tables.specs.declared.setting.Setting.{Setting}
use Rattle.tables.specs.Form as form
use Rattle.tables.specs.Form.{method_section, table_section, entry_section, Tables, tables_of, coefficient}
use Rattle.number.specs.Below.{any_below}
use Rattle.tables.specs.Rule.{linear_rule, identical_rule, word_rule, is_fraction, is_verbal, text_rule, verbal_rule, signs_rule, fraction_rule, method_rule, table_rule, entry_rule}
use Rattle.tables.proofs.All.{all_of, any_at}
use Rattle.build.specs.Build.{flag, is_below, coefficients_in, conversion_of, table_number, verbal_row, fraction_row, method_row, entries_end, built}
use Rattle.build.proofs.BuiltLaws.{Within, within_of, count-tables, count_entries, slot-method, slot-table, slot-entry}
use Rattle.keeps.proofs.Bits.{and, both-test, flag-least}

-- ---- texts

pub text-keeps : (n a e b f : ℕ) → b ≡ a → f ≡ e → Inside n a e → text_rule n b f ≡ true
unfolding text_rule
text-keeps n a e b f p q h = and (le-leb b f (omega (arith, h.0))) (le-leb f n (omega (arith, h.1)))

-- ---- coefficients

-- an answer with coefficients has sound ones
abbrev Judged : Answer Coefficients → Type 0
Judged a = is_given a ≡ true → sound_method (coefficients_in a) ≡ true

judged-sound : (k : Coefficients) → Judged (judged_method k)
unfolding judged_method
judged-sound k = by-test Judged (sound_method k) (λ t e. t) (λ t e. absurd (false≢true e))

linear-sound : (v : View) (i : ℕ) → Judged (methods.linear_at v i)
unfolding methods.linear_at linear_of
linear-sound v i = by-test Judged (formed _ && formed _) (λ t. judged-sound _) (λ t e. absurd (false≢true e))

rat-func-sound : (v : View) (i : ℕ) → Judged (methods.rat_func_at v i)
unfolding methods.rat_func_at rat_func
rat-func-sound v i = by-test Judged (formed _ && formed _ && formed _ && formed _) (λ t. judged-sound _) (λ t e. absurd (false≢true e))

identical-sound : sound_method identical_of ≡ true
unfolding sound_method all_small
identical-sound = refl

pub coefficients-sound : (v : View) (i : ℕ) → Judged (coefficients v i)
unfolding coefficients
coefficients-sound v i =
    by-test Judged (eqb (v.slots records.method i conversion_type) LINEAR) (λ t. linear-sound v i)
    (λ t. by-test Judged (eqb (v.slots records.method i conversion_type) RAT-FUNC) (λ s. rat-func-sound v i) (λ s e. identical-sound))

-- ---- the coefficients that a conversion's word asks for

linear-word : (t : ℕ) (a b : Scaled) → t ≤ 6 → linear_rule (linear_at t a b) ≡ true
unfolding linear_rule
linear-word t a b h = and (any_at 7 (λ (n : ℕ). eq_z (pos (10 ^ t)) (pos (10 ^ n))) t (omega arith) (eq-eqb (10 ^ t) (10 ^ t) refl)) refl

identical-linear : linear_rule identical_of ≡ true
unfolding linear_rule any_below
identical-linear = refl

linear-keeps : (v : View) (i : ℕ) → linear_rule (coefficients_in (methods.linear_at v i)) ≡ true
unfolding methods.linear_at linear_of judged_method
linear-keeps v i =
    let a : Scaled = decimal_at v i linear_a in
    let b : Scaled = decimal_at v i linear_b in
    by-test (λ (z : Answer Coefficients). linear_rule (coefficients_in z) ≡ true) (formed a && formed b)
    (λ t. by-test (λ (z : Answer Coefficients). linear_rule (coefficients_in z) ≡ true) (sound_method (linear_at (max a.tens b.tens) a b))
    (λ u. linear-word (max a.tens b.tens) a b (omega (arith, (formed-facts a (and_left (formed a) (formed b) t)).tens_most, (formed-facts b (and_right (formed a) (formed b) t)).tens_most)))
    (λ u. identical-linear))
    (λ t. identical-linear)

word_keeps : (v : View) (i : ℕ) → word_rule (conversion_of v i) (coefficients_in (coefficients v i)) ≡ true
unfolding conversion_of coefficients word_rule identical_rule
word_keeps v i =
    both-test (λ (w : ℕ) (z : Answer Coefficients). word_rule w (coefficients_in z) ≡ true) (eqb (v.slots records.method i conversion_type) LINEAR) (λ t. linear-keeps v i)
    (λ t. both-test (λ (w : ℕ) (z : Answer Coefficients). word_rule w (coefficients_in z) ≡ true) (eqb (v.slots records.method i conversion_type) RAT-FUNC) (λ s. refl) (λ s. refl))

-- where the conversions are accepted each method has coefficients
converts-each : (f : ℕ) (v : View) (i : ℕ) → converts_from f v i ≡ text.given tt → (k : ℕ) → k < f → is_given (coefficients v (i + k)) ≡ true
unfolding converts_from
converts-each zero v i h k l = absurd (omega arith)
converts-each (suc f) v i h k l = turn (is_given (coefficients v i)) refl h k l (λ e m o. converts-each f v (suc i) e m o) where
  later : converts_from f v (suc i) ≡ text.given tt → (k : ℕ) → k < suc f → is_given (coefficients v i) ≡ true
      → (converts_from f v (suc i) ≡ text.given tt → (m : ℕ) → m < f → is_given (coefficients v (suc i + m)) ≡ true) → is_given (coefficients v (i + k)) ≡ true
  later h zero l e ih = let z : i + 0 ≡ i = omega arith in rw z e
  later h (suc k) l e ih = let z : i + suc k ≡ suc i + k = omega arith in rw z (ih h k (omega arith))

  turn : (b : Bool) → is_given (coefficients v i) ≡ b → cond b (converts_from f v (suc i)) (text.refused 10 (v.slots records.method i own_name)) ≡ text.given tt → (k : ℕ) → k < suc f
      → (converts_from f v (suc i) ≡ text.given tt → (m : ℕ) → m < f → is_given (coefficients v (suc i + m)) ≡ true) → is_given (coefficients v (i + k)) ≡ true
  turn true e h k l ih = later h k l e ih
  turn false e h k l ih = let z : ◌≡◌ {A = ℕ} 0 1 = cc in absurd (omega arith)

pub converted : (v : View) → converts v ≡ text.given tt → (i : ℕ) → i < v.counts records.method → is_given (coefficients v i) ≡ true
converted v h i l = let z : 0 + i ≡ i = omega arith in rw z at (converts-each (v.counts records.method) v 0 h i l)

-- a whole number's two cells give it back
signed_back : (z : ℤ) → nat_abs z ≤ 1000000000 → signed_of (eqb (flag (is_below z)) 1) (min (nat_abs z) 1000000001) ≡ z
signed_back (pos n) h = let e : min n 1000000001 ≡ n = omega arith in ap pos e
signed_back (negsuc n) h = let e : min (suc n) 1000000001 ≡ suc n = omega arith in ap (λ k. neg_ℤ (pos k)) e

-- ---- rows

zero-front : (m k n : ℕ) → k < m → ◌≡◌ {A = ℕ} (get_or (replicate m 0 ++ (n ∷ [])) k 0) 0
zero-front zero k n h = absurd (omega arith)
zero-front (suc m) zero n h = refl
zero-front (suc m) (suc k) n h = zero-front m k n (omega arith)

module _ (T : Tables) (i : ℕ) where
  -- method i's numbers are those of a row
  abbrev Holds : List ℕ → Type 0
  Holds r = (k : ℕ) → T.slots method_section i k ≡ get_or r k 0

  verbal-keeps : (n : ℕ) → Holds (verbal_row n) → (n ≡ 0 → ⊥) → n ≤ T.counts table_section → method_rule T i ≡ true
  unfolding method_rule verbal_rule
  verbal-keeps n h z l =
      rw (h 0)
      (and (and (all_of 8 (λ k. eqb (T.slots method_section i (k + 1)) 0) (λ k p. eq-eqb (T.slots method_section i (k + 1)) 0 (rw (add-one k) (h (suc k) ∙ zero-front 8 k n p))))
      (le-leb 1 (T.slots method_section i 9) (omega (arith, h 9, z)))) (le-leb (T.slots method_section i 9) (T.counts table_section) (omega (arith, h 9))))

  -- a method j of the records with coefficients k
  module _ (v : View) (j : ℕ) (k : Coefficients) (h : Holds (conversion_of v j ∷ flag (is_below k.b) ∷ nat_abs k.b ∷ flag (is_below k.c) ∷ nat_abs k.c ∷ flag (is_below k.e) ∷ nat_abs k.e ∷ flag (is_below k.f) ∷ nat_abs k.f ∷ 0 ∷ [])) where
    conversion-kind : (is_fraction (conversion_of v j) ≡ true) × (is_verbal (conversion_of v j) ≡ false)
    unfolding conversion_of
    conversion-kind =
        by-test (λ (n : ℕ). (is_fraction n ≡ true) × (is_verbal n ≡ false)) (eqb (v.slots records.method j conversion_type) LINEAR) (λ t. (refl, refl))
        (λ t. by-test (λ (n : ℕ). (is_fraction n ≡ true) × (is_verbal n ≡ false)) (eqb (v.slots records.method j conversion_type) RAT-FUNC) (λ s. (refl, refl)) (λ s. (refl, refl)))

    signs-keep : signs_rule T i ≡ true
    unfolding signs_rule
    signs-keep =
        and (and (and (le-leb (T.slots method_section i 1) 1 (omega (arith, h 1, flag-least (is_below k.b)))) (le-leb (T.slots method_section i 3) 1 (omega (arith, h 3, flag-least (is_below k.c)))))
        (le-leb (T.slots method_section i 5) 1 (omega (arith, h 5, flag-least (is_below k.e))))) (le-leb (T.slots method_section i 7) 1 (omega (arith, h 7, flag-least (is_below k.f))))

    all_small_lem : sound_method k ≡ true → all_small k ≡ true
    unfolding sound_method
    all_small_lem e = and_left (all_small k) (not (same_products k)) e

    smalls : sound_method k ≡ true → (nat_abs k.b ≤ 1000000000) × (nat_abs k.c ≤ 1000000000) × (nat_abs k.e ≤ 1000000000) × (nat_abs k.f ≤ 1000000000)
    unfolding all_small
    smalls e =
        let a = all_small_lem e in
        let b = and_left (small k.b && small k.c && small k.e) (small k.f) a in
        let c = and_left (small k.b && small k.c) (small k.e) b in (
          leb-true (nat_abs k.b) 1000000000 (and_left (small k.b) (small k.c) c),
          leb-true (nat_abs k.c) 1000000000 (and_right (small k.b) (small k.c) c),
          leb-true (nat_abs k.e) 1000000000 (and_right (small k.b && small k.c) (small k.e) b),
          leb-true (nat_abs k.f) 1000000000 (and_right (small k.b && small k.c && small k.e) (small k.f) a),
        )

    coefficients-are : sound_method k ≡ true → form.coefficients T i ≡ k
    coefficients-are e = let s = smalls e in λ p. record { b = first s.0 p; c = second s.1 p; e = third s.2 p; f = fourth s.3 p } where
      first : nat_abs k.b ≤ 1000000000 → coefficient T i 1 ≡ k.b
      first l = rw (h 1, h 2) (signed_back k.b l)

      second : nat_abs k.c ≤ 1000000000 → coefficient T i 3 ≡ k.c
      second l = rw (h 3, h 4) (signed_back k.c l)

      third : nat_abs k.e ≤ 1000000000 → coefficient T i 5 ≡ k.e
      third l = rw (h 5, h 6) (signed_back k.e l)

      fourth : nat_abs k.f ≤ 1000000000 → coefficient T i 7 ≡ k.f
      fourth l = rw (h 7, h 8) (signed_back k.f l)

    fraction-keeps : sound_method k ≡ true → word_rule (conversion_of v j) k ≡ true → method_rule T i ≡ true
    unfolding method_rule fraction_rule
    fraction-keeps e f =
        let c : is_verbal (T.slots method_section i 0) ≡ false = rw (h 0) conversion-kind.1 in
        let d : is_fraction (T.slots method_section i 0) ≡ true = rw (h 0) conversion-kind.0 in
        rw c (and (and (and (and d signs-keep) (rw (coefficients-are e) e)) (rw (coefficients-are e, h 0) f)) (eq-eqb (T.slots method_section i 9) 0 (h 9)))

module _ (image : List ℕ) (setting : Setting) (x : List ℕ) (d : List (List (List ℕ))) (n : ℕ) (k : Kept x d) where
  abbrev T : Tables
  T = tables_of (built image setting x (view d) n)

  w : Within (view d)
  w = within_of d k.good

  pub method-keeps : converts (view d) ≡ text.given tt → (i : ℕ) → i < count d records.method → method_rule T i ≡ true
  unfolding method_row
  method-keeps c i h = row (λ j. slot-method image setting x (view d) n w i j h) where
    t : ℕ
    t = table_number x (view d) i

    few : t ≤ T.counts table_section
    few = rw (count-tables image setting x (view d) n w) (find-below x (view d) records.table (slot d records.method i compu_tab_ref) (slot d records.method i compu_tab_ref_past))

    verbal : (eqb (slot d records.method i conversion_type) TAB-VERB && not (eqb t 0)) ≡ true → Holds T i (verbal_row t) → method_rule T i ≡ true
    verbal e q = verbal-keeps T i t q (eqb-false t 0 (not-true (eqb t 0) (and_right (eqb (slot d records.method i conversion_type) TAB-VERB) (not (eqb t 0)) e))) few

    fraction : Holds T i (fraction_row (view d) i) → method_rule T i ≡ true
    fraction q = fraction-keeps T i (view d) i (coefficients_in (coefficients (view d) i)) q (coefficients-sound (view d) i (converted (view d) c i h)) (word_keeps (view d) i)

    row : Holds T i (method_row x (view d) i) → method_rule T i ≡ true
    row = by-test (λ (r : List ℕ). Holds T i r → method_rule T i ≡ true) (eqb (slot d records.method i conversion_type) TAB-VERB && not (eqb t 0)) verbal (λ e. fraction)

  pub table-keeps : (i : ℕ) → i < count d records.table → table_rule T (length x) i ≡ true
  unfolding table_rule entries_end
  table-keeps i h =
      let e = slot-table image setting x (view d) n w i in
      let s : slot d records.table i first_held + (entries_end (view d) i - slot d records.table i first_held) ≤ count d records.entry = fit in
      and (le-leb (T.slots table_section i 0 + T.slots table_section i 1) (T.counts entry_section) (omega (arith, e 0 h, e 1 h, count_entries image setting x (view d) n w)))
      (text-keeps (length x) (slot d records.table i default_value) (slot d records.table i default_value_past) (T.slots table_section i 2) (T.slots table_section i 3) (e 2 h) (e 3 h) (k.defaults i))
    where
      end : entries_end (view d) i ≤ count d records.entry
      end = by-test (λ (m : ℕ). m ≤ count d records.entry) (ltb (i + 1) (count d records.table)) (λ t. k.firsts (i + 1)) (λ t. omega arith)

      fit : slot d records.table i first_held + (entries_end (view d) i - slot d records.table i first_held) ≤ count d records.entry
      fit = omega (arith, end, k.firsts i)

  pub entry-keeps : (i : ℕ) → i < count d records.entry → entry_rule T (length x) i ≡ true
  unfolding entry_rule
  entry-keeps i h =
      let e = slot-entry image setting x (view d) n w i in
      and (le-leb (T.slots entry_section i 0) 1 (omega (arith, e 0 h)))
      (text-keeps (length x) (slot d records.entry i entry_text) (slot d records.entry i entry_text_past) (T.slots entry_section i 2) (T.slots entry_section i 3) (e 2 h) (e 3 h) (k.texts i))
