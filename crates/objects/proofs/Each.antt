-- Where all objects are accepted, each was judged and stands.
use Prim.Native.Nat.{ℕ, zero, suc, ◌+◌, ◌≤◌, ◌<◌}
use mathlib.Core.Path.{◌≡◌, refl, ◌∙◌}
use mathlib.Core.List.{List, [], ◌∷◌, ◌++◌}
use mathlib.Core.Bool.{Bool, true, false, cond}
use mathlib.Core.Logic.{◌⊎◌, inl, inr}
use native.Mathlib.Omega.{arith}
use borrow.Author.Tests.{eq-eqb, eqb-true, eqb-false}
use lib.Dec.{eqb}
use lib.ListN.{get_or, set, replicate}
use lib.Seq.{get_or-set_other}
use Rattle.text.specs.Answer.{Answer, given, refused, with}
use Rattle.text.specs.Bytes.{same_part}
use Rattle.number.specs.Answer as number
use Rattle.number.specs.Most.{most_objects}
use Rattle.records.specs.Cells.{count_in}
use Rattle.rows.specs.Sections.{sections, object}
use Rattle.rows.specs.Slots.{own_name, own_name_past}
use Rattle.grammar.specs.Move.{View, view_in}
use Rattle.grammar.specs.Parameter.{find_from, find}
use Rattle.place.specs.declared.judge.Standing.{Standing}
use Rattle.objects.specs.Object.{led, judge_object}
use Rattle.objects.specs.Stage.{named, turns_of, turns_from, total_or, marked, turn, judge_each, judge_all}

-- ---- a name that is searched leads to no record past the last

module _ (x : List ℕ) (v : View) (j a e : ℕ) where
  below-turn : (t : Bool) (f i n : ℕ) → n ≤ suc i + f → cond t (suc i) n ≤ i + suc f
  below-turn true f i n h = omega arith
  below-turn false f i n h = omega arith

  below-from : (f i : ℕ) → find_from f x v j i a e ≤ i + f
  unfolding find_from
  below-from zero i = omega arith
  below-from (suc f) i = below-turn (same_part x (v.slots j i own_name) (v.slots j i own_name_past) x a e) f i (find_from f x v j (suc i) a e) (below-from f (suc i))

  pub find-below : find x v j a e ≤ v.counts j
  find-below = omega (arith, below-from (v.counts j) 0)

  pub led-below : 0 < v.counts j → led x v j a e < v.counts j
  led-below h = omega (arith, find-below)

-- "512 objects"
pub objects-few : (t : List ℕ) → (view_in t).counts object ≤ most_objects
unfolding count_in sections
objects-few t = omega arith

-- ---- the turns

-- i is one of them
abbrev pub In : ℕ → List ℕ → Type 0
In i [] = ⊥
In i (j ∷ js) = (i ≡ j) ⊎ In i js

pub in_left : (i : ℕ) (is js : List ℕ) → In i is → In i (is ++ js)
in_left i [] js m = absurd m
in_left i (j ∷ is) js (inl e) = inl e
in_left i (j ∷ is) js (inr m) = inr (in_left i is js m)

pub in_right : (i : ℕ) (is js : List ℕ) → In i js → In i (is ++ js)
in_right i [] js m = m
in_right i (j ∷ is) js m = inr (in_right i is js m)

pub in_either : (i : ℕ) (is js : List ℕ) → In i (is ++ js) → In i is ⊎ In i js
in_either i [] js m = inr m
in_either i (j ∷ is) js (inl e) = inl (inl e)
in_either i (j ∷ is) js (inr m) = either (in_either i is js m)
  where
    either : In i is ⊎ In i js → In i (j ∷ is) ⊎ In i js
    either (inl a) = inl (inr a)
    either (inr b) = inr b

module _ (x : List ℕ) (v : View) where
  -- each object has a turn of its own
  pub own_turn : (i : ℕ) → In i (turns_of x v i)
  own_turn i = in_right i (named x v i 0) (named x v i 1 ++ (i ∷ [])) (in_right i (named x v i 1) (i ∷ []) (inl refl))

  pub each_turn : (f i k : ℕ) → k < f → In (i + k) (turns_from f x v i)
  unfolding turns_from
  each_turn zero i k h = absurd (omega arith)
  each_turn (suc f) i zero h = let z : i + 0 ≡ i = omega arith in rw z (in_left i (turns_of x v i) (turns_from f x v (suc i)) (own_turn i))
  each_turn (suc f) i (suc k) h =
      let z : i + suc k ≡ suc i + k = omega arith in
      rw z (in_right (suc i + k) (turns_of x v i) (turns_from f x v (suc i)) (each_turn f (suc i) k (omega arith)))

-- at first nothing is marked
pub unmarked : (k i : ℕ) → ◌≡◌ {A = ℕ} (get_or (replicate k 0) i 0) 0
unmarked zero i = refl
unmarked (suc k) zero = refl
unmarked (suc k) (suc i) = unmarked k i

still-turn : (b : Bool) (seen : List ℕ) (i j : ℕ) → (i ≡ j → ⊥) → get_or (cond b (set seen j 1) seen) i 0 ≡ get_or seen i 0
still-turn true seen i j h = get_or-set_other seen j i 1 0 h
still-turn false seen i j h = refl

-- another's turn marks no object
pub still : (seen : List ℕ) (i j : ℕ) → (i ≡ j → ⊥) → get_or (marked seen j) i 0 ≡ get_or seen i 0
still seen i j h = still-turn (eqb (get_or seen j 0) 0) seen i j h

module _ (image : List ℕ) (base : ℕ) (x : List ℕ) (v : View) where
  -- object i was judged after others with so many elements, and stands
  pub record Stands (i : ℕ) : Type 0 where
    pub used : ℕ
    pub standing : Standing
    pub is : judge_object image base x v i used ≡ number.given standing

  weighed-stands : (i used u p : ℕ) (a : number.Answer Standing) → judge_object image base x v i used ≡ a → total_or p a ≡ given u → Stands i
  weighed-stands i used u p (number.given s) e q = record { used = used; standing = s; is = e }
  weighed-stands i used u p (number.refused n) e q = let z : ◌≡◌ {A = ℕ} 0 1 = cc in absurd (omega arith)

  turn-stands : (seen : List ℕ) (i used u : ℕ) → get_or seen i 0 ≡ 0 → turn image base x v seen i used ≡ given u → Stands i
  unfolding turn
  turn-stands seen i used u z q = weighed-stands i used u (v.slots object i own_name) (judge_object image base x v i used) refl (rw (eq-eqb (get_or seen i 0) 0 z) at q)

  -- object j's turn and then those of js; ih is what is known of those
  module _ (j : ℕ) (js seen : List ℕ) (used n i : ℕ) (z : get_or seen i 0 ≡ 0) (m : In i (j ∷ js))
      (ih : (u : ℕ) → judge_each image base x v (marked seen j) js u ≡ given n → In i js → get_or (marked seen j) i 0 ≡ 0 → Stands i) where
    at_once : (b : Bool) → eqb i j ≡ b → (u : ℕ) → turn image base x v seen j used ≡ given u → judge_each image base x v (marked seen j) js u ≡ given n → (i ≡ j) ⊎ In i js → Stands i
    at_once true e u q r o = turn-stands seen i used u z (rw (eqb-true i j e) q)
    at_once false e u q r (inl f) = absurd (eqb-false i j e f)
    at_once false e u q r (inr k) = ih u r k (still seen i j (eqb-false i j e) ∙ z)

    at_turn : (a : Answer ℕ) → turn image base x v seen j used ≡ a → with a (judge_each image base x v (marked seen j) js) ≡ given n → Stands i
    at_turn (given u) q r = at_once (eqb i j) refl u q r m
    at_turn (refused k l) q r = let y : ◌≡◌ {A = ℕ} 0 1 = cc in absurd (omega arith)

  judged-in : (is seen : List ℕ) (used n i : ℕ) → judge_each image base x v seen is used ≡ given n → In i is → get_or seen i 0 ≡ 0 → Stands i
  unfolding judge_each
  judged-in [] seen used n i p m z = absurd m
  judged-in (j ∷ js) seen used n i p m z = at_turn j js seen used n i z m (λ u r k y. judged-in js (marked seen j) u n i r k y) (turn image base x v seen j used) refl p

  -- every object was judged, and stands
  pub judge-all-each : (n : ℕ) → judge_all image base x v ≡ given n → (i : ℕ) → i < v.counts object → Stands i
  unfolding judge_all
  judge-all-each n p i h =
      let z : 0 + i ≡ i = omega arith in
      judged-in (turns_from (v.counts object) x v 0) (replicate most_objects 0) 0 n i p (rw z at (each_turn x v (v.counts object) 0 i h)) (unmarked most_objects i)
