-- Where all objects are accepted, their element total is the sum of each one's elements, and at most 4,096.
use Prim.Native.Nat.{ℕ, zero, suc, ◌+◌, ◌≤◌, ◌<◌}
use mathlib.Core.Path.{◌≡◌, refl, sym, ◌∙◌, ap}
use mathlib.Core.List.{List, [], ◌∷◌, ◌++◌}
use mathlib.Core.Bool.{Bool, true, false, cond}
use mathlib.Core.Logic.{◌⊎◌, inl, inr}
use native.Mathlib.Omega.{arith}
use borrow.Author.Tests.{eqb-true, eqb-false}
use lib.Dec.{eqb}
use lib.ListN.{length, get_or, set, replicate, length-set, length-replicate}
use lib.Seq.{get_or-set_same, get_or-set_other}
use Rattle.text.specs.Answer.{Answer, given, refused, with}
use Rattle.number.specs.Answer as number
use Rattle.number.specs.Most.{most_objects, most_elements}
use Rattle.rows.specs.Sections.{object}
use Rattle.rows.specs.Slots.{own_name}
use Rattle.grammar.specs.Move.{View}
use Rattle.place.specs.declared.judge.Standing.{Standing}
use Rattle.objects.specs.Object.{axis_at, shared_by, judge_object, elements_of}
use Rattle.objects.specs.Stage as stage
use Rattle.number.specs.Below.{sum_below}
use Rattle.objects.specs.Stage.{names, named, turns_of, turns_from, marked, turn, judge_each, judge_all}
use Rattle.objects.proofs.Shares.{Share, share}
use Rattle.objects.proofs.Each.{led-below, In, in_either, each_turn, unmarked, still}

-- ---- sums

pub sum_same : (n : ℕ) (f g : ℕ → ℕ) → ((k : ℕ) → k < n → f k ≡ g k) → sum_below n f ≡ sum_below n g
unfolding sum_below
sum_same zero f g h = refl
sum_same (suc n) f g h = rw (sum_same n f g (λ k l. h k (omega arith)), h n (omega arith))

-- g is f, and has d more at j
module _ (f g : ℕ → ℕ) (j d : ℕ) (other : (k : ℕ) → (k ≡ j → ⊥) → g k ≡ f k) (more : g j ≡ f j + d) where
  pub sum_more : (n : ℕ) → j < n → sum_below n g ≡ sum_below n f + d
  unfolding sum_below
  sum_more zero h = absurd (omega arith)
  sum_more (suc n) h = last (eqb j n) refl (sum_more n)
    where
      last : (b : Bool) → eqb j n ≡ b → (j < n → sum_below n g ≡ sum_below n f + d) → sum_below n g + g n ≡ sum_below n f + f n + d
      last true e ih = let s : sum_below n g ≡ sum_below n f = sum_same n g f (λ k l. other k (omega (arith, eqb-true j n e))) in
          let q : g n ≡ f n + d = rw (← eqb-true j n e) more in omega arith
      last false e ih = omega (arith, ih (omega (arith, eqb-false j n e)), other n (λ y. eqb-false j n e (sym y)))

module _ (image : List ℕ) (base : ℕ) (x : List ℕ) (v : View) where
  share-told : (i used p u : ℕ) (a : number.Answer Standing) → judge_object image base x v i used ≡ a → stage.total_or p a ≡ given u → (u ≡ used + elements_of image base x v i) × (u ≤ most_elements)
  share-told i used p u (number.given s) e q =
      let t : s.total ≡ u = cc in
      let k : Share image base x v i used s = share image base x v i used s e in
      (sym t ∙ k.total, omega (arith, k.most))
  share-told i used p u (number.refused n) e q = let z : ◌≡◌ {A = ℕ} 0 1 = cc in absurd (omega arith)

  -- ---- the sum over the objects that were judged

  abbrev pub counted : List ℕ → ℕ → ℕ
  counted seen i = cond (eqb (get_or seen i 0) 0) 0 (elements_of image base x v i)

  abbrev pub sum_of : List ℕ → ℕ
  sum_of seen = sum_below (v.counts object) (counted seen)

  counted-other : (seen : List ℕ) (j k : ℕ) → (k ≡ j → ⊥) → counted (set seen j 1) k ≡ counted seen k
  counted-other seen j k h = rw (get_or-set_other seen j k 1 0 h)

  counted-more : (seen : List ℕ) (j : ℕ) → j < length seen → eqb (get_or seen j 0) 0 ≡ true → counted (set seen j 1) j ≡ counted seen j + elements_of image base x v j
  counted-more seen j l e = rw (get_or-set_same seen j 1 0 l, e) (let z : 0 + elements_of image base x v j ≡ elements_of image base x v j = omega arith in sym z)

  pub sum-marked : (seen : List ℕ) (j : ℕ) → j < length seen → j < v.counts object → eqb (get_or seen j 0) 0 ≡ true → sum_of (set seen j 1) ≡ sum_of seen + elements_of image base x v j
  sum-marked seen j l h e = sum_more (counted seen) (counted (set seen j 1)) j (elements_of image base x v j) (counted-other seen j) (counted-more seen j l e) (v.counts object) h

  -- object j's turn, after which there are u elements
  pub record Took (seen : List ℕ) (j used u : ℕ) : Type 0 where
    pub total : used ≡ sum_of seen → u ≡ sum_of (marked seen j)
    pub most : used ≤ most_elements → u ≤ most_elements
    pub long : length (marked seen j) ≡ length seen
    pub own : eqb (get_or (marked seen j) j 0) 0 ≡ false

  took-turn : (seen : List ℕ) (j used u : ℕ) → j < length seen → j < v.counts object → (b : Bool) → eqb (get_or seen j 0) 0 ≡ b
      → cond b (stage.total_or (v.slots object j own_name) (judge_object image base x v j used)) (given used) ≡ given u → Took seen j used u
  took-turn seen j used u l h true e q =
      let k : (u ≡ used + elements_of image base x v j) × (u ≤ most_elements) = share-told j used (v.slots object j own_name) u (judge_object image base x v j used) refl q in
      record {
        total = λ t. rw e (k.0 ∙ rw t (sym (sum-marked seen j l h e)));
        most = λ t. k.1;
        long = rw e (length-set seen j 1);
        own = rw (e, get_or-set_same seen j 1 0 l);
      }
  took-turn seen j used u l h false e q =
      let t : used ≡ u = cc in
      record { total = λ y. rw e (sym t ∙ y); most = λ y. omega arith; long = rw e; own = rw (e, e) }

  took : (seen : List ℕ) (j used u : ℕ) → j < length seen → j < v.counts object → turn image base x v seen j used ≡ given u → Took seen j used u
  unfolding turn
  took seen j used u l h q = took-turn seen j used u l h (eqb (get_or seen j 0) 0) refl q

  -- the turns of is, after which there are n elements: the marks after them
  pub record Ran (is seen : List ℕ) (n : ℕ) : Type 0 where
    pub after : List ℕ
    pub total : n ≡ sum_of after
    pub most : n ≤ most_elements
    pub kept : (i : ℕ) → eqb (get_or seen i 0) 0 ≡ false → eqb (get_or after i 0) 0 ≡ false
    pub all : (i : ℕ) → In i is → eqb (get_or after i 0) 0 ≡ false

  kept-one : (seen : List ℕ) (i j : ℕ) (b : Bool) → eqb i j ≡ b → eqb (get_or (marked seen j) j 0) 0 ≡ false → eqb (get_or seen i 0) 0 ≡ false → eqb (get_or (marked seen j) i 0) 0 ≡ false
  kept-one seen i j true e o h = rw (eqb-true i j e) o
  kept-one seen i j false e o h = ap (λ (k : ℕ). eqb k 0) (still seen i j (eqb-false i j e)) ∙ h

  all_one : (js seen after : List ℕ) (j : ℕ) → eqb (get_or (marked seen j) j 0) 0 ≡ false → ((i : ℕ) → eqb (get_or (marked seen j) i 0) 0 ≡ false → eqb (get_or after i 0) 0 ≡ false)
      → ((i : ℕ) → In i js → eqb (get_or after i 0) 0 ≡ false) → (i : ℕ) → In i (j ∷ js) → eqb (get_or after i 0) 0 ≡ false
  all_one js seen after j o k a i (inl e) = rw e (k j o)
  all_one js seen after j o k a i (inr m) = a i m

  -- object j's turn and then those of js; ih is what is known of those
  module _ (j : ℕ) (js seen : List ℕ) (used n : ℕ) (l : j < length seen) (h : j < v.counts object) (t : used ≡ sum_of seen) (y : used ≤ most_elements)
      (ih : (u : ℕ) → judge_each image base x v (marked seen j) js u ≡ given n → u ≡ sum_of (marked seen j) → u ≤ most_elements → length (marked seen j) ≡ length seen → Ran js (marked seen j) n) where
    ran-turn : (a : Answer ℕ) → turn image base x v seen j used ≡ a → with a (judge_each image base x v (marked seen j) js) ≡ given n → Ran (j ∷ js) seen n
    ran-turn (given u) q r =
        let k : Took seen j used u = took seen j used u l h q in
        let m : Ran js (marked seen j) n = ih u r (k.total t) (k.most y) k.long in
        record {
          after = m.after;
          total = m.total;
          most = m.most;
          kept = λ i z. m.kept i (kept-one seen i j (eqb i j) refl k.own z);
          all = all_one js seen m.after j k.own m.kept m.all;
        }
    ran-turn (refused k p) q r = let z : ◌≡◌ {A = ℕ} 0 1 = cc in absurd (omega arith)

  ran : (is seen : List ℕ) (used n : ℕ) → v.counts object ≤ length seen → ((j : ℕ) → In j is → j < v.counts object) → used ≡ sum_of seen → used ≤ most_elements
      → judge_each image base x v seen is used ≡ given n → Ran is seen n
  unfolding judge_each
  ran [] seen used n l b t y q = let e : used ≡ n = cc in record { after = seen; total = sym e ∙ t; most = omega arith; kept = λ i h. h; all = λ i m. absurd m }
  ran (j ∷ js) seen used n l b t y q =
      let h : j < v.counts object = b j (inl refl) in
      ran-turn j js seen used n (omega arith) h t y (λ u r s z w. ran js (marked seen j) u n (omega arith) (λ i m. b i (inr m)) s z r) (turn image base x v seen j used) refl q

  -- ---- the turns are those of objects

  named-turn : (i k j : ℕ) (b : Bool) → 0 < v.counts object → In j (cond b (shared_by x v (axis_at v i k) ∷ []) []) → j < v.counts object
  named-turn i k j true h (inl e) = rw e (led-below x v object _ _ h)
  named-turn i k j true h (inr m) = absurd m
  named-turn i k j false h m = absurd m

  named-below : (i k j : ℕ) → 0 < v.counts object → In j (named x v i k) → j < v.counts object
  unfolding named
  named-below i k j h m = named-turn i k j (names v i k) h m

  own_below : (i j : ℕ) → i < v.counts object → In j (i ∷ []) → j < v.counts object
  own_below i j h (inl e) = rw e h
  own_below i j h (inr m) = absurd m

  later-below : (i j : ℕ) → i < v.counts object → In j (named x v i 1) ⊎ In j (i ∷ []) → j < v.counts object
  later-below i j h (inl m) = named-below i 1 j (omega arith) m
  later-below i j h (inr m) = own_below i j h m

  turn_below : (i j : ℕ) → i < v.counts object → In j (named x v i 0) ⊎ In j (named x v i 1 ++ (i ∷ [])) → j < v.counts object
  turn_below i j h (inl m) = named-below i 0 j (omega arith) m
  turn_below i j h (inr m) = later-below i j h (in_either j (named x v i 1) (i ∷ []) m)

  below-either : (f i j : ℕ) → i < v.counts object → (In j (turns_from f x v (suc i)) → j < v.counts object) → In j (turns_of x v i) ⊎ In j (turns_from f x v (suc i)) → j < v.counts object
  below-either f i j h ih (inl m) = turn_below i j h (in_either j (named x v i 0) (named x v i 1 ++ (i ∷ [])) m)
  below-either f i j h ih (inr m) = ih m

  pub turns-below : (f i j : ℕ) → i + f ≤ v.counts object → In j (turns_from f x v i) → j < v.counts object
  unfolding turns_from
  turns-below zero i j h m = absurd m
  turns-below (suc f) i j h m = below-either f i j (omega arith) (turns-below f (suc i) j (omega arith)) (in_either j (turns_of x v i) (turns_from f x v (suc i)) m)

  -- ---- all objects

  pub sum-none : (k n : ℕ) → sum_below n (counted (replicate k 0)) ≡ 0
  unfolding sum_below
  sum-none k zero = refl
  sum-none k (suc n) = rw (unmarked k n, sum-none k n)

  module _ (few : v.counts object ≤ most_objects) (n : ℕ) (p : judge_all image base x v ≡ given n) where
    all-ran : Ran (turns_from (v.counts object) x v 0) (replicate most_objects 0) n
    unfolding judge_all
    all-ran =
        let l : length {A = ℕ} (replicate most_objects 0) ≡ most_objects = length-replicate {A = ℕ} most_objects 0 in
        ran (turns_from (v.counts object) x v 0) (replicate most_objects 0) 0 n (omega arith) (λ j m. turns-below (v.counts object) 0 j (omega arith) m) (sym (sum-none most_objects (v.counts object))) (omega arith) p

    -- the element total is the sum of each one's elements
    pub total-is : n ≡ sum_below (v.counts object) (elements_of image base x v)
    total-is = all-ran.total ∙ sum_same (v.counts object) (counted all-ran.after) (elements_of image base x v) each
      where
        each : (i : ℕ) → i < v.counts object → counted all-ran.after i ≡ elements_of image base x v i
        each i h = let z : 0 + i ≡ i = omega arith in rw (all-ran.all i (rw z at (each_turn x v (v.counts object) 0 i h)))

    -- "4,096 elements in all objects"
    pub total-most : n ≤ most_elements
    total-most = all-ran.most
