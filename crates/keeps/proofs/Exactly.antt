-- A description is accepted exactly if each stage's rules hold (specs/Accepted.antt).
--     accepted-is      tables that a load gives are those of an accepted description
--     accepted-given   an accepted description's tables are given
use Prim.Native.Nat.{ℕ, zero, suc, ◌+◌, ◌≤◌, ◌<◌}
use mathlib.Core.Path.{◌≡◌, refl, sym, ◌∙◌, ap, subst}
use mathlib.Core.List.{List, [], ◌∷◌}
use mathlib.Core.Bool.{Bool, true, false, cond, ◌&&◌, ◌||◌, false≢true}
use mathlib.Core.Logic.{inl, inr}
use native.Mathlib.Omega.{arith}
use borrow.Author.Tests.{ne_eqb, ltb-true, ltb-false, le-ltb, le-leb}
use lib.Dec.{eqb, ltb, leb}
use lib.ListN.{length, get_or, set, replicate, length-set, length-replicate}
use Rattle.text.specs.Answer.{Answer, given, refused, with}
use Rattle.text.proofs.Within.{by-test, and_left, and_right}
use Rattle.number.specs.Answer as number
use Rattle.number.specs.Form.{is_given}
use Rattle.number.specs.Most.{most_objects, most_elements}
use Rattle.records.specs.Records.{count}
use Rattle.rows.specs.Sections.{method, object, axis}
use Rattle.rows.specs.Slots.{own_name}
use Rattle.grammar.specs.Move.{View, view}
use Rattle.grammar.specs.Read.{read}
use Rattle.refer.specs.Refer.{inner_rows, reference_rows, leads, failing, least_from, least_of, least_in, referred}
use Rattle.refer.specs.declared.Row.{Row}
use Rattle.methods.specs.Methods.{coefficients, converts_from, converts}
use Rattle.place.specs.Judge.{elements_stored, all_inside, weighed, after, judged_object}
use Rattle.place.specs.Walk.{placement}
use Rattle.place.specs.declared.walk.Reached.{Reached}
use Rattle.objects.specs.Object.{layout_of, ground_of, need_of, mask_fits, places_in, judge_object, places_of, elements_of}
use Rattle.objects.specs.Stage as stage
use Rattle.number.specs.Below.{sum_below}
use Rattle.objects.specs.Stage.{turns_from, marked, turn, judge_each, judge_all}
use Rattle.objects.proofs.Shares.{Share, share}
use Rattle.objects.proofs.Each.{In, Stands, judge-all-each}
use Rattle.objects.proofs.Totals.{counted, sum_of, sum-marked, turns-below, sum-none, total-is, total-most}
use Rattle.facts.proofs.Texts.{is_text, text-inside, text-some, reference-names}
use Rattle.facts.proofs.Keeps.{read_keeps}
use Rattle.tables.specs.declared.setting.Setting.{Setting}
use Rattle.build.specs.Build.{built}
use Rattle.build.proofs.BuiltLaws.{within_of}
use Rattle.load.specs.Load.{described}
use Rattle.tree.specs.Tree.{Among}
use Rattle.keeps.specs.Accepted.{all_elements, Accepted, Taken}
use Rattle.keeps.proofs.Rows.{converted}

-- nothing is refused
abbrev fine : Answer (Unit {0})
fine = given tt

-- ---- references

module _ (x : List ℕ) (v : View) where
  -- record i's reference is there and leads somewhere, or is not there
  abbrev Leading : Row → ℕ → Type 0
  Leading r i = (v.slots r.sec i (r.slot + 1) ≡ 0 → ⊥) → v.slots r.sec i r.slot < length x → leads x v r (v.slots r.sec i r.slot) (v.slots r.sec i (r.slot + 1)) ≡ true

  module _ (r : Row) where
    fails-not : (i : ℕ) → length x ≤ failing x v r i → Leading r i
    unfolding failing
    fails-not i h z l = turn (leads x v r (v.slots r.sec i r.slot) (v.slots r.sec i (r.slot + 1))) refl where
      turn : (b : Bool) → leads x v r (v.slots r.sec i r.slot) (v.slots r.sec i (r.slot + 1)) ≡ b → b ≡ true
      turn true e = refl
      turn false e = absurd (let y : length x ≤ v.slots r.sec i r.slot = rw (ne_eqb (v.slots r.sec i (r.slot + 1)) 0 z, e) at h in omega arith)

    not-fails : (i : ℕ) → Leading r i → length x ≤ failing x v r i
    unfolding failing
    not-fails i h = turn (eqb (v.slots r.sec i (r.slot + 1)) 0) (leads x v r (v.slots r.sec i r.slot) (v.slots r.sec i (r.slot + 1))) refl refl where
      none : (eqb (v.slots r.sec i (r.slot + 1)) 0 ≡ false) → v.slots r.sec i (r.slot + 1) ≡ 0 → ⊥
      none e z = false≢true (sym e ∙ rw z)

      late : (t : Bool) → ltb (v.slots r.sec i r.slot) (length x) ≡ t → eqb (v.slots r.sec i (r.slot + 1)) 0 ≡ false → leads x v r (v.slots r.sec i r.slot) (v.slots r.sec i (r.slot + 1)) ≡ false
          → length x ≤ v.slots r.sec i r.slot
      late true t e f = absurd (false≢true (sym f ∙ h (none e) (ltb-true (v.slots r.sec i r.slot) (length x) t)))
      late false t e f = ltb-false (v.slots r.sec i r.slot) (length x) t

      turn : (a b : Bool) → eqb (v.slots r.sec i (r.slot + 1)) 0 ≡ a → leads x v r (v.slots r.sec i r.slot) (v.slots r.sec i (r.slot + 1)) ≡ b
          → length x ≤ cond (a || b) (length x) (v.slots r.sec i r.slot)
      turn true b e f = omega arith
      turn false true e f = omega arith
      turn false false e f = late (ltb (v.slots r.sec i r.slot) (length x)) refl e f

    least-each : (f i : ℕ) → length x ≤ least_from f x v r i → (k : ℕ) → k < f → length x ≤ failing x v r (i + k)
    unfolding least_from
    least-each zero i h k l = absurd (omega arith)
    least-each (suc f) i h zero l = let z : i + 0 ≡ i = omega arith in rw z (omega arith)
    least-each (suc f) i h (suc k) l = let z : i + suc k ≡ suc i + k = omega arith in rw z (least-each f (suc i) (omega arith) k (omega arith))

    each-least : (f i : ℕ) → ((k : ℕ) → k < f → length x ≤ failing x v r (i + k)) → length x ≤ least_from f x v r i
    unfolding least_from
    each-least zero i h = omega arith
    each-least (suc f) i h =
        let z : i + 0 ≡ i = omega arith in
        let a : length x ≤ failing x v r i = rw z at (h 0 (omega arith)) in
        let b : length x ≤ least_from f x v r (suc i) = each-least f (suc i) (λ k l. let y : suc i + k ≡ i + suc k = omega arith in rw y (h (suc k) (omega arith))) in
        omega arith

    least-of : length x ≤ least_of x v r → (i : ℕ) → i < v.counts r.sec → Leading r i
    least-of h i l = let z : 0 + i ≡ i = omega arith in fails-not i (rw z at (least-each (v.counts r.sec) 0 h i l))

    of-least : ((i : ℕ) → i < v.counts r.sec → Leading r i) → length x ≤ least_of x v r
    of-least h = each-least (v.counts r.sec) 0 (λ k l. let z : 0 + k ≡ k = omega arith in rw z (not-fails k (h k l)))

  least-in : (rs : List Row) → length x ≤ least_in x v rs → (r : Row) → Among r rs → (i : ℕ) → i < v.counts r.sec → Leading r i
  least-in [] h r m = absurd m
  least-in (s ∷ rs) h r (inl e) = rw e (least-of s (omega arith))
  least-in (s ∷ rs) h r (inr m) = least-in rs (omega arith) r m

  in-least : (rs : List Row) → ((r : Row) → Among r rs → (i : ℕ) → i < v.counts r.sec → Leading r i) → length x ≤ least_in x v rs
  in-least [] h = omega arith
  in-least (s ∷ rs) h =
      let a : length x ≤ least_of x v s = of-least s (h s (inl refl)) in
      let b : length x ≤ least_in x v rs = in-least rs (λ r m. h r (inr m)) in
      omega arith

  referred-each : referred x v ≡ given tt → (r : Row) → Among r reference_rows → (i : ℕ) → i < v.counts r.sec → Leading r i
  unfolding referred
  referred-each h = least-in reference_rows (turn (ltb (least_in x v reference_rows) (length x)) refl h) where
    turn : (b : Bool) → ltb (least_in x v reference_rows) (length x) ≡ b → cond b (refused 7 (least_in x v reference_rows)) fine ≡ fine → length x ≤ least_in x v reference_rows
    turn true e q = let z : ◌≡◌ {A = ℕ} 0 1 = cc in absurd (omega arith)
    turn false e q = ltb-false (least_in x v reference_rows) (length x) e

  each-referred : ((r : Row) → Among r reference_rows → (i : ℕ) → i < v.counts r.sec → Leading r i) → referred x v ≡ given tt
  unfolding referred
  each-referred h = rw (le-ltb (least_in x v reference_rows) (length x) (in-least reference_rows h))

-- what holds of each row
abbrev Each : (Row → Type 0) → List Row → Type 0
Each P [] = Unit {0}
Each P (r ∷ rs) = P r × Each P rs

among-each : (P : Row → Type 0) (rs : List Row) → Each P rs → (r : Row) → Among r rs → P r
among-each P [] h r m = absurd m
among-each P (s ∷ rs) h r (inl e) = subst P (sym e) h.0
among-each P (s ∷ rs) h r (inr m) = among-each P rs h.1 r m

-- the records keep the name of a reference as a text
row-text : (r : Row) → Among r reference_rows → is_text r.sec r.slot ≡ true
unfolding reference_rows inner_rows
row-text = among-each (λ (r : Row). is_text r.sec r.slot ≡ true) reference_rows (b.0, (c.0, (d.0, (e.0, (f.0, (f.1, (a.0, tt)))))))
  where
    two : (p q : Bool) → (p && q) ≡ true → (p ≡ true) × (q ≡ true)
    two p q h = (and_left p q h, and_right p q h)

    a : (is_text method 26 ≡ true) × ((is_text object 6 && (is_text object 8 && (is_text object 10 && (is_text axis 2 && (is_text axis 4 && is_text axis 14))))) ≡ true)
    a = two (is_text method 26) _ reference-names

    b : (is_text object 6 ≡ true) × ((is_text object 8 && (is_text object 10 && (is_text axis 2 && (is_text axis 4 && is_text axis 14)))) ≡ true)
    b = two (is_text object 6) _ a.1

    c : (is_text object 8 ≡ true) × ((is_text object 10 && (is_text axis 2 && (is_text axis 4 && is_text axis 14))) ≡ true)
    c = two (is_text object 8) _ b.1

    d : (is_text object 10 ≡ true) × ((is_text axis 2 && (is_text axis 4 && is_text axis 14)) ≡ true)
    d = two (is_text object 10) _ c.1

    e : (is_text axis 2 ≡ true) × ((is_text axis 4 && is_text axis 14) ≡ true)
    e = two (is_text axis 2) _ d.1

    f : (is_text axis 4 ≡ true) × (is_text axis 14 ≡ true)
    f = two (is_text axis 4) (is_text axis 14) e.1

-- ---- conversions

each-converts : (f : ℕ) (v : View) (i : ℕ) → ((k : ℕ) → k < f → is_given (coefficients v (i + k)) ≡ true) → converts_from f v i ≡ given tt
unfolding converts_from
each-converts zero v i h = refl
each-converts (suc f) v i h =
    let z : i + 0 ≡ i = omega arith in
    let a : is_given (coefficients v i) ≡ true = rw z at (h 0 (omega arith)) in
    rw a (each-converts f v (suc i) (λ k l. let y : suc i + k ≡ i + suc k = omega arith in rw y (h (suc k) (omega arith))))

converts-all : (v : View) → ((i : ℕ) → i < v.counts method → is_given (coefficients v i) ≡ true) → converts v ≡ given tt
converts-all v h = each-converts (v.counts method) v 0 (λ k l. let z : 0 + k ≡ k = omega arith in rw z (h k l))

-- ---- objects

sum-most : (n : ℕ) (f g : ℕ → ℕ) → ((k : ℕ) → f k ≤ g k) → sum_below n f ≤ sum_below n g
unfolding sum_below
sum-most zero f g h = omega arith
sum-most (suc n) f g h = omega (arith, sum-most n f g h, h n)

module _ (image : List ℕ) (base : ℕ) (x : List ℕ) (v : View) where
  -- object i keeps the mask's rule, is placed, and has its elements inside the image
  pub record Fits (i : ℕ) : Type 0 where
    pub mask : mask_fits x v i ≡ true
    pub placed : is_given (placement (ground_of x v base i) (need_of image base x v i) image (layout_of x v i)) ≡ true
    pub inside : all_inside image base (need_of image base x v i) (layout_of x v i) (places_of image base x v i) ≡ true

  abbrev total : ℕ
  total = sum_below (v.counts object) (elements_of image base x v)

  module _ (i used : ℕ) (f : Fits i) (l : used + elements_of image base x v i ≤ most_elements) where
    after-given : (a : number.Answer Reached) → placement (ground_of x v base i) (need_of image base x v i) image (layout_of x v i) ≡ a → is_given a ≡ true
        → after image (ground_of x v base i) (need_of image base x v i) (layout_of x v i) used a ≡ number.given (record { places = places_of image base x v i; total = used + elements_of image base x v i })
    unfolding weighed ground_of elements_of places_of
    after-given (number.given r) e g =
        let p : places_of image base x v i ≡ r.places = ap places_in e in
        let a : leb (used + elements_stored (need_of image base x v i) r.places) most_elements ≡ true = rw (← p) (le-leb (used + elements_of image base x v i) most_elements l) in
        let b : all_inside image base (need_of image base x v i) (layout_of x v i) r.places ≡ true = rw (← p) f.inside in
        rw (a, b, ← p)
    after-given (number.refused k) e g = absurd (false≢true g)

    judge-given : judge_object image base x v i used ≡ number.given (record { places = places_of image base x v i; total = used + elements_of image base x v i })
    unfolding judge_object judged_object
    judge-given = rw f.mask (after-given (placement (ground_of x v base i) (need_of image base x v i) image (layout_of x v i)) refl f.placed)

  counted-most : (seen : List ℕ) (k : ℕ) → counted image base x v seen k ≤ elements_of image base x v k
  counted-most seen k = by-test (λ (n : ℕ). n ≤ elements_of image base x v k) (eqb (get_or seen k 0) 0) (λ t. omega arith) (λ t. omega arith)

  sum-within : (seen : List ℕ) → sum_of image base x v seen ≤ total
  sum-within seen = sum-most (v.counts object) (counted image base x v seen) (elements_of image base x v) (counted-most seen)

  -- an answer that is given
  pub record Gives (a : Answer ℕ) : Type 0 where
    pub value : ℕ
    pub is : a ≡ given value

  module _ (all : (i : ℕ) → i < v.counts object → Fits i) (most : total ≤ most_elements) where
    -- object j's turn and then those of js; ih is what is known of those
    turn-gives : (j : ℕ) (js seen : List ℕ) (used : ℕ) → v.counts object ≤ length seen → j < v.counts object → used ≡ sum_of image base x v seen
        → ((u : ℕ) → v.counts object ≤ length (marked seen j) → u ≡ sum_of image base x v (marked seen j) → Gives (judge_each image base x v (marked seen j) js u))
        → Gives (with (turn image base x v seen j used) (judge_each image base x v (marked seen j) js))
    unfolding turn
    turn-gives j js seen used l h e ih = by (eqb (get_or seen j 0) 0) refl ih where
      by : (b : Bool) → eqb (get_or seen j 0) 0 ≡ b
          → ((u : ℕ) → v.counts object ≤ length (cond b (set seen j 1) seen) → u ≡ sum_of image base x v (cond b (set seen j 1) seen) → Gives (judge_each image base x v (cond b (set seen j 1) seen) js u))
          → Gives (with (cond b (stage.total_or (v.slots object j own_name) (judge_object image base x v j used)) (given used)) (judge_each image base x v (cond b (set seen j 1) seen) js))
      by true t k =
          let s : sum_of image base x v (set seen j 1) ≡ sum_of image base x v seen + elements_of image base x v j = sum-marked image base x v seen j (omega arith) h t in
          let m : used + elements_of image base x v j ≤ most_elements = omega (arith, sum-within (set seen j 1)) in
          rw (judge-given j used (all j h) m) (k (used + elements_of image base x v j) (rw (length-set seen j 1) l) (omega arith))
      by false t k = k used l e

    each-gives : (is seen : List ℕ) (used : ℕ) → v.counts object ≤ length seen → ((j : ℕ) → In j is → j < v.counts object) → used ≡ sum_of image base x v seen → Gives (judge_each image base x v seen is used)
    unfolding judge_each
    each-gives [] seen used l b e = record { value = used; is = refl }
    each-gives (j ∷ js) seen used l b e = turn-gives j js seen used l (b j (inl refl)) e (λ u m s. each-gives js (marked seen j) u m (λ i o. b i (inr o)) s)

    all-gives : v.counts object ≤ most_objects → Gives (judge_all image base x v)
    unfolding judge_all
    all-gives few =
        let l : length {A = ℕ} (replicate most_objects 0) ≡ most_objects = length-replicate {A = ℕ} most_objects 0 in
        each-gives (turns_from (v.counts object) x v 0) (replicate most_objects 0) 0 (omega arith) (λ j m. turns-below image base x v (v.counts object) 0 j (omega arith) m) (sym (sum-none image base x v most_objects (v.counts object)))

    -- all objects are accepted, and have so many elements
    pub judge-all-given : v.counts object ≤ most_objects → judge_all image base x v ≡ given total
    judge-all-given few =
        let g : Gives (judge_all image base x v) = all-gives few in
        g.is ∙ ap given (total-is image base x v few g.value g.is)

-- ---- the load

-- an answer that went on
record Went {A B : Type 0} (a : Answer A) (f : A → Answer B) (b : B) : Type 0 where
  value : A
  is : a ≡ given value
  on : f value ≡ given b

went : {A B : Type 0} (a : Answer A) (f : A → Answer B) (b : B) → with a f ≡ given b → Went a f b
went (given v) f b h = record { value = v; is = refl; on = h }
went (refused k p) f b h = let z : ◌≡◌ {A = ℕ} 0 1 = cc in absurd (omega arith)

module _ (image : List ℕ) (base : ℕ) (x : List ℕ) where
  module _ (d : List (List (List ℕ))) (r : read x ≡ given d) where
    few : count d object ≤ most_objects
    few = (within_of d (read_keeps x d r).good).objects

    -- the rules of all stages hold
    pub stages : referred x (view d) ≡ given tt → converts (view d) ≡ given tt → (n : ℕ) → judge_all image base x (view d) ≡ given n → Accepted image base x d
    stages p q n j =
        record {
          references = λ s m i l z. referred-each x (view d) p s m i l z (omega (arith, text-some s.sec s.slot (row-text s m) x d r i z, (text-inside s.sec s.slot (row-text s m) x d r i).1));
          conversions = converted (view d) q;
          masks = λ i l. (stood i l).mask;
          places = λ i l. rw (stood i l).placed refl;
          bytes = λ i l. (stood i l).inside;
          elements = let e : n ≡ all_elements image base x d = total-is image base x (view d) few n j in omega (arith, total-most image base x (view d) few n j);
        }
      where
        stands : (i : ℕ) → i < count d object → Stands image base x (view d) i
        stands i l = judge-all-each image base x (view d) n j i l

        stood : (i : ℕ) (l : i < count d object) → Share image base x (view d) i (stands i l).used (stands i l).standing
        stood i l = share image base x (view d) i (stands i l).used (stands i l).standing (stands i l).is

module _ (image : List ℕ) (setting : Setting) (x : List ℕ) where
  -- the stages of a load that gave D
  pub record Drawn (D : List (List (List ℕ))) : Type 0 where
    pub records : List (List (List ℕ))
    pub elements : ℕ
    pub is_read : read x ≡ given records
    pub refers : referred x (view records) ≡ given tt
    pub converts_are : converts (view records) ≡ given tt
    pub judged : judge_all image setting.base x (view records) ≡ given elements
    pub is_built : D ≡ built image setting x (view records) elements

  pub drawn : (D : List (List (List ℕ))) → described image setting x ≡ given D → Drawn D
  unfolding described
  drawn D h =
      let a = went (read x) _ D h in
      let b = went (referred x (view a.value)) _ D a.on in
      let c = went (converts (view a.value)) _ D b.on in
      let e = went (judge_all image setting.base x (view a.value)) _ D c.on in
      record {
        records = a.value;
        elements = e.value;
        is_read = a.is;
        refers = b.is;
        converts_are = c.is;
        judged = e.is;
        is_built = let o : given (built image setting x (view a.value) e.value) ≡ given D = e.on in cc;
      }

  pub accepted-is : (D : List (List (List ℕ))) → described image setting x ≡ given D → Taken image setting x D
  accepted-is D h =
      let s : Drawn D = drawn D h in
      let t : s.elements ≡ all_elements image setting.base x s.records = total-is image setting.base x (view s.records) (few image setting.base x s.records s.is_read) s.elements s.judged in
      record {
        records = s.records;
        is_read = s.is_read;
        accepted = stages image setting.base x s.records s.is_read s.refers s.converts_are s.elements s.judged;
        is_built = s.is_built ∙ ap (built image setting x (view s.records)) t;
      }

  -- the last stage of an accepted description
  pub taken-judged : (D : List (List (List ℕ))) (t : Taken image setting x D) → judge_all image setting.base x (view t.records) ≡ given (all_elements image setting.base x t.records)
  taken-judged D t =
      judge-all-given image setting.base x (view t.records) (λ i l. record { mask = t.accepted.masks i l; placed = t.accepted.places i l; inside = t.accepted.bytes i l }) t.accepted.elements
      (few image setting.base x t.records t.is_read)

  pub accepted-given : (D : List (List (List ℕ))) → Taken image setting x D → described image setting x ≡ given D
  unfolding described
  accepted-given D t =
      let r : referred x (view t.records) ≡ given tt = each-referred x (view t.records) (λ s m i l z y. t.accepted.references s m i l z) in
      let c : converts (view t.records) ≡ given tt = converts-all (view t.records) t.accepted.conversions in
      rw (t.is_read, r, c, taken-judged D t, t.is_built)
