-- Where the conversion of a part is named: the name is there, and stands for none or leads to a method.
--     method-named     which method a part's conversion is
use Prim.Native.Nat.{ℕ, zero, suc, ◌+◌, ◌≤◌, ◌<◌}
use mathlib.Core.Path.{◌≡◌, refl, sym, ◌∙◌}
use mathlib.Core.List.{List}
use mathlib.Core.Bool.{Bool, true, false, cond, ◌||◌, false≢true}
use mathlib.Core.Logic.{inl, inr}
use native.Mathlib.Omega.{arith}
use borrow.Author.Tests.{eqb-true}
use lib.Dec.{eqb}
use Rattle.text.specs.Bytes.{spells}
use Rattle.text.proofs.Within.{by-test}
use Rattle.number.specs.Most.{most_axes}
use Rattle.records.specs.Records.{count, slot}
use Rattle.records.proofs.Encode.{fit-few}
use Rattle.rows.specs.Codes.{AXIS-PTS, CHARACTERISTIC, VAL-BLK, CURVE, MAP}
use Rattle.rows.specs.Sections.{sections, method, object, axis}
use Rattle.rows.specs.Slots.{block_code, object_type, object_conversion, axis_conversion}
use Rattle.grammar.specs.Move.{View, view}
use Rattle.grammar.specs.Keyword.{axes_of}
use Rattle.grammar.specs.Parameter.{find}
use Rattle.refer.specs.Refer.{row, inner_rows, reference_rows, is_free}
use Rattle.place.specs.declared.rules.Need.{Need}
use Rattle.objects.specs.Object.{axis_at, value_need, axis_pts_need, block_need, curve_need, map_need, characteristic_need, need_of}
use Rattle.facts.proofs.Keeps.{read_keeps}
use Rattle.build.specs.Build.{of_object, of_axis, method_number, method_in}
use Rattle.build.specs.declared.part.Source.{Source}
use Rattle.tree.specs.Tree.{Records}
use Rattle.tree.specs.Points.{Pointed}
use Rattle.tree.proofs.Points.{read-pointed}
use Rattle.tree.proofs.Accepted as tree
use Rattle.keeps.specs.Stands.{Part, points_x, points_y, values, needed}
use Rattle.demands.specs.Leads.{Bears, Leads}
use Rattle.demands.specs.Rules.{Keeps}
use Rattle.demands.specs.Standing.{source_of, conversion_from, conversion_past}
use Rattle.demands.proofs.Leading.{bears-found}

-- an object and an AXIS_DESCR name their conversion, and there is such a record
data Naming (d : Records) : Source → Type 0 where
  an_object : (i : ℕ) → i < count d object → Naming d (of_object i)
  an_axis : (a : ℕ) → a < count d axis → Naming d (of_axis a)

module _ (image : List ℕ) (base : ℕ) (x : List ℕ) (d : Records) (r : Pointed d) (few : count d axis ≤ most_axes) (i : ℕ) (l : i < count d object) where
  -- the AXIS_DESCR of a CURVE and of a MAP are there
  axis-below : (n : ℕ) → slot d object i block_code ≡ CHARACTERISTIC → n < axes_of (slot d object i object_type) → axis_at (view d) i n < count d axis
  axis-below n e h = omega (arith, r.axes i e)

  -- what needs its x points has a first AXIS_DESCR, and what needs its y points a second one
  abbrev Described : ℕ → Need → Type 0
  Described zero n = n.x.stored ≡ true → axis_at (view d) i 0 < count d axis
  Described (suc k) n = n.y.stored ≡ true → axis_at (view d) i 1 < count d axis

  value-described : (k : ℕ) → Described k value_need
  value-described zero = λ h. absurd (false≢true h)
  value-described (suc k) = λ h. absurd (false≢true h)

  block-described : (k : ℕ) → Described k (block_need (view d) i)
  unfolding block_need
  block-described zero = λ h. absurd (false≢true h)
  block-described (suc k) = λ h. absurd (false≢true h)

  module _ (c : slot d object i block_code ≡ CHARACTERISTIC) where
    curve-described : (k : ℕ) → slot d object i object_type ≡ CURVE → Described k (curve_need image base x (view d) i)
    unfolding curve_need
    curve-described zero t = λ h. axis-below 0 c (rw t (omega arith))
    curve-described (suc k) t = λ h. absurd (false≢true h)

    map-described : (k : ℕ) → slot d object i object_type ≡ MAP → Described k (map_need image base x (view d) i)
    unfolding map_need
    map-described zero t = λ h. axis-below 0 c (rw t (omega arith))
    map-described (suc k) t = λ h. axis-below 1 c (rw t (omega arith))

    characteristic-described : (k : ℕ) → Described k (characteristic_need image base x (view d) i)
    unfolding characteristic_need
    characteristic-described k =
        by-test (Described k) (eqb (slot d object i object_type) VAL-BLK) (λ t. block-described k) λ t.
        by-test (Described k) (eqb (slot d object i object_type) CURVE) (λ u. curve-described k (eqb-true (slot d object i object_type) CURVE u)) λ u.
        by-test (Described k) (eqb (slot d object i object_type) MAP) (λ w. map-described k (eqb-true (slot d object i object_type) MAP w)) (λ w. value-described k)

  -- of what is no AXIS_PTS
  other-described : (k : ℕ) → eqb (slot d object i block_code) AXIS-PTS ≡ false → Described k (need_of image base x (view d) i)
  unfolding need_of
  other-described k e = rw e (by-test (Described k) (eqb (slot d object i block_code) CHARACTERISTIC) (λ t. characteristic-described (eqb-true (slot d object i block_code) CHARACTERISTIC t) k) (λ t. value-described k))

  -- an AXIS_PTS has no y points
  points_none : eqb (slot d object i block_code) AXIS-PTS ≡ true → (need_of image base x (view d) i).y.stored ≡ true → ⊥
  unfolding need_of axis_pts_need
  points_none e h = false≢true (rw e at h)

  part-naming : (p : Part) → needed (need_of image base x (view d) i) p ≡ true → Naming d (source_of x (view d) i p)
  part-naming values h = an_object i l
  part-naming points_x h = by-case (eqb (slot d object i block_code) AXIS-PTS) refl
    where
      by-case : (b : Bool) → eqb (slot d object i block_code) AXIS-PTS ≡ b → Naming d (cond b (of_object i) (of_axis (axis_at (view d) i 0)))
      by-case true e = an_object i l
      by-case false e = an_axis (axis_at (view d) i 0) (other-described 0 e h)
  part-naming points_y h = an_axis (axis_at (view d) i 1) (by-case (eqb (slot d object i block_code) AXIS-PTS) refl)
    where
      by-case : (b : Bool) → eqb (slot d object i block_code) AXIS-PTS ≡ b → axis_at (view d) i 1 < count d axis
      by-case true e = absurd (points_none e h)
      by-case false e = other-described 1 e h

-- ---- the method

-- the name from a up to e stands for no method, or a method bears it
pub data MethodBy (x : List ℕ) (v : View) (a e : ℕ) : ℕ → Type 0 where
  no_method : spells x a e "NO_COMPU_METHOD" ≡ true → MethodBy x v a e 0
  a_method : (m : ℕ) → spells x a e "NO_COMPU_METHOD" ≡ false → Bears x v method a e m → MethodBy x v a e (suc m)

free-spells : (x : List ℕ) (a e : ℕ) → is_free x 1 a e ≡ true → spells x a e "NO_COMPU_METHOD" ≡ true
unfolding is_free
free-spells x a e h = or-false (spells x a e "NO_COMPU_METHOD") h
  where
    or-false : (b : Bool) → (b || false) ≡ true → b ≡ true
    or-false true q = refl
    or-false false q = q

module _ (x : List ℕ) (v : View) (j k a e : ℕ) where
  number_by : Leads x v (row j k method 0 1) a e → MethodBy x v a e (method_number x v a e)
  unfolding method_number
  number_by h = by_word (spells x a e "NO_COMPU_METHOD") refl h
    where
      by_word : (b : Bool) → spells x a e "NO_COMPU_METHOD" ≡ b → Leads x v (row j k method 0 1) a e → MethodBy x v a e (cond b 0 (find x v method a e))
      by_word true s q = no_method s
      by_word false s (inl q) = absurd (false≢true (sym s ∙ free-spells x a e q))
      by_word false s (inr q) = rw (bears-found x v method a e q.0 q.1) (a_method q.0 s q.1)

module _ (x image : List ℕ) (base : ℕ) (k : Keeps x image base) where
  abbrev d : Records
  d = k.records

  pub pointed : Pointed d
  pointed = read-pointed x d ((tree.accepted-exactly x d).1 k.tree)

  few-axes : count d axis ≤ most_axes
  unfolding sections
  few-axes = fit-few sections d axis (read_keeps x d ((tree.accepted-exactly x d).1 k.tree)).good

  naming-method : (s : Source) → Naming d s
      → MethodBy x (view d) (slot d s.sec s.number s.conversion) (slot d s.sec s.number (s.conversion + 1)) (method_in x (view d) s)
  unfolding method_in reference_rows inner_rows
  naming-method s (an_object i l) =
      let a = slot d object i object_conversion in
      let e = slot d object i (object_conversion + 1) in
      number_by x (view d) object object_conversion a e (k.references (row object object_conversion method 0 1) (inr (inl refl)) i l (λ z. let c = pointed.converted i l in omega arith))
  naming-method s (an_axis i l) =
      let a = slot d axis i axis_conversion in
      let e = slot d axis i (axis_conversion + 1) in
      number_by x (view d) axis axis_conversion a e (k.references (row axis axis_conversion method 0 1) (inr (inr (inr (inr (inl refl))))) i l (λ z. let c = pointed.axis_converted i l in omega arith))

  -- the method that a part of object i is converted by
  pub method-named : (i : ℕ) → i < count d object → (p : Part) → needed (need_of image base x (view d) i) p ≡ true
      → MethodBy x (view d) (conversion_from x (view d) i p) (conversion_past x (view d) i p) (method_in x (view d) (source_of x (view d) i p))
  method-named i l p e = naming-method (source_of x (view d) i p) (part-naming image base x d pointed few-axes i l p e)
