-- What an accepted object keeps, and its share of the element total.
use Prim.Native.Nat.{ℕ, ◌+◌, ◌≤◌}
use mathlib.Core.Path.{◌≡◌, refl, sym}
use mathlib.Core.List.{List}
use mathlib.Core.Bool.{Bool, true, false, cond}
use native.Mathlib.Omega.{arith}
use borrow.Author.Tests.{leb-true}
use lib.Dec.{leb}
use Rattle.number.specs.Answer.{Answer, given, refused}
use Rattle.number.specs.Most.{most_elements}
use Rattle.grammar.specs.Move.{View}
use Rattle.place.specs.Judge.{elements_stored, all_inside, weighed, after, judged_object}
use Rattle.place.specs.Walk.{placement}
use Rattle.place.specs.declared.judge.Standing.{Standing}
use Rattle.place.specs.declared.order.Layout.{Layout}
use Rattle.place.specs.declared.rules.Need.{Need}
use Rattle.place.specs.declared.walk.Places.{Places}
use Rattle.place.specs.declared.walk.Reached.{Reached}
use Rattle.objects.specs.Object.{layout_of, ground_of, need_of, mask_fits, judge_object, places_of, elements_of}

-- s is where an object stands whose parts are placed at p
pub record Weighed (image : List ℕ) (base : ℕ) (n : Need) (l : Layout) (used : ℕ) (s : Standing) (p : Places) : Type 0 where
  pub places : s.places ≡ p
  pub inside : all_inside image base n l p ≡ true
  pub total : s.total ≡ used + elements_stored n p
  pub most : s.total ≤ most_elements

-- object i stands at s, after others with so many elements
pub record Share (image : List ℕ) (base : ℕ) (x : List ℕ) (v : View) (i used : ℕ) (s : Standing) : Type 0 where
  pub mask : mask_fits x v i ≡ true
  pub reached : Reached
  pub placed : placement (ground_of x v base i) (need_of image base x v i) image (layout_of x v i) ≡ given reached
  pub places : s.places ≡ places_of image base x v i
  pub inside : all_inside image base (need_of image base x v i) (layout_of x v i) (places_of image base x v i) ≡ true
  pub total : s.total ≡ used + elements_of image base x v i
  pub most : s.total ≤ most_elements

module _ (image : List ℕ) (base : ℕ) (n : Need) (l : Layout) (used : ℕ) (s : Standing) where
  weighed-turn : (p : Places) (a b : Bool) → leb (used + elements_stored n p) most_elements ≡ a → all_inside image base n l p ≡ b
      → cond a (cond b (given (record { places = p; total = used + elements_stored n p })) (refused 12)) (refused 8) ≡ given s → Weighed image base n l used s p
  weighed-turn p true true e f q =
      let t : used + elements_stored n p ≡ s.total = cc in
      record { places = cc; inside = f; total = sym t; most = omega (arith, leb-true (used + elements_stored n p) most_elements e) }
  weighed-turn p true false e f q = let z : ◌≡◌ {A = ℕ} 0 1 = cc in absurd (omega arith)
  weighed-turn p false b e f q = let z : ◌≡◌ {A = ℕ} 0 1 = cc in absurd (omega arith)

  weighed-is : (p : Places) → weighed image base n l used p ≡ given s → Weighed image base n l used s p
  unfolding weighed
  weighed-is p q = weighed-turn p (leb (used + elements_stored n p) most_elements) (all_inside image base n l p) refl refl q

module _ (image : List ℕ) (base : ℕ) (x : List ℕ) (v : View) (i used : ℕ) (s : Standing) where
  share-after : (a : Answer Reached) → placement (ground_of x v base i) (need_of image base x v i) image (layout_of x v i) ≡ a → mask_fits x v i ≡ true
      → after image (ground_of x v base i) (need_of image base x v i) (layout_of x v i) used a ≡ given s → Share image base x v i used s
  unfolding ground_of elements_of places_of
  share-after (given r) e m q =
      let w : Weighed image base (need_of image base x v i) (layout_of x v i) used s r.places = weighed-is image base (need_of image base x v i) (layout_of x v i) used s r.places q in
      record { mask = m; reached = r; placed = e; places = rw e w.places; inside = rw e w.inside; total = rw e w.total; most = w.most }
  share-after (refused k) e m q = let z : ◌≡◌ {A = ℕ} 0 1 = cc in absurd (omega arith)

  share-masked : (b : Bool) → mask_fits x v i ≡ b → cond b (judged_object image (ground_of x v base i) (need_of image base x v i) (layout_of x v i) used) (refused 11) ≡ given s → Share image base x v i used s
  unfolding judged_object
  share-masked true m q = share-after (placement (ground_of x v base i) (need_of image base x v i) image (layout_of x v i)) refl m q
  share-masked false m q = let z : ◌≡◌ {A = ℕ} 0 1 = cc in absurd (omega arith)

  -- an accepted object keeps all that, and adds its elements
  pub share : judge_object image base x v i used ≡ given s → Share image base x v i used s
  unfolding judge_object
  share q = share-masked (mask_fits x v i) refl q
