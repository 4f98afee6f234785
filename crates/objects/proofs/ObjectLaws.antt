-- One object, by the branches that the code takes.
use Prim.Native.Nat.{ℕ}
use mathlib.Core.Path.{◌≡◌, sym, ◌∙◌, ap}
use mathlib.Core.List.{List}
use mathlib.Core.Bool.{Bool, true, false, ◌||◌}
use lib.Dec.{eqb}
use Rattle.std.specs.Prelude.{Result, Ok, Err}
use Rattle.number.specs.Answer.{refused}
use Rattle.cell.specs.Kind.{shape_of}
use Rattle.cell.specs.Mask.{mask_rule}
use Rattle.rows.specs.Sections.{object}
use Rattle.rows.specs.Slots.{bit_mask_seen, bit_mask}
use Rattle.grammar.specs.Move.{View, view_in}
use Rattle.place.specs.Judge.{judged_object}
use Rattle.place.specs.Told.{told_placed, told_judged}
use Rattle.place.specs.Walk.{placement}
use Rattle.place.specs.declared.judge.Standing.{Standing}
use Rattle.place.specs.declared.refusal.PlaceRefusal.{PlaceRefusal}
use Rattle.place.specs.declared.order.Layout.{Layout}
use Rattle.place.specs.declared.rules.Need.{Need}
use Rattle.place.specs.declared.walk.Ground.{Ground}
use Rattle.place.specs.declared.walk.Places.{Places}
use Rattle.place.specs.declared.walk.Reached.{Reached}
use Rattle.objects.specs.Object.{basis_of, need_of, mask_fits, judge_object, no_places, places_in, places_of}
use Rattle.objects.specs.declared.basis.Basis.{Basis}

pub mask_is : (t : List ℕ) (i has mask kind : ℕ) (b : Bool) → has ≡ (view_in t).slots object i bit_mask_seen → mask ≡ (view_in t).slots object i bit_mask → b ≡ mask_rule (shape_of kind) mask
    → (eqb has 0 || b) ≡ (eqb ((view_in t).slots object i bit_mask_seen) 0 || mask_rule (shape_of kind) ((view_in t).slots object i bit_mask))
mask_is t i has mask kind b ph pm pb = rw (pb, pm, ph)

-- o is what `basis_of` gave, b what `mask_fits` gave
module _ (image : List ℕ) (base : ℕ) (x : List ℕ) (v : View) (i used : ℕ) (o : Basis) (po : o ≡ basis_of x v base i)
    (b : Bool) (p : b ≡ (eqb (v.slots object i bit_mask_seen) 0 || mask_rule (shape_of o.layout.values.kind) (v.slots object i bit_mask))) where
  fits : b ≡ mask_fits x v i
  unfolding mask_fits
  fits = p ∙ rw po

  pub judge-masked : b ≡ false → refused 11 ≡ judge_object image base x v i used
  unfolding judge_object
  judge-masked h = rw (← fits, h)

  pub judge-is : b ≡ true → (n : Need) (r : Result Standing PlaceRefusal) → n ≡ need_of image base x v i → told_judged r ≡ judged_object image o.footing n o.layout used → told_judged r ≡ judge_object image base x v i used
  unfolding judge_object
  judge-is h n r pn pr = rw (← fits, h, pr, pn, po)

-- q is what `place_parts` gave
module _ (image : List ℕ) (g : Ground) (n : Need) (l : Layout) (q : Result Reached PlaceRefusal) (pq : told_placed q ≡ placement g n image l) where
  pub places-at : (r : Reached) → q ≡ Ok r → r.places ≡ places_in (placement g n image l)
  places-at r y = sym (ap (λ (z : Result Reached PlaceRefusal). places_in (told_placed z)) y) ∙ ap places_in pq

  pub places-none : (k : PlaceRefusal) (s : Places) → q ≡ Err k → s ≡ no_places → s ≡ places_in (placement g n image l)
  places-none k s y e = e ∙ sym (ap (λ (z : Result Reached PlaceRefusal). places_in (told_placed z)) y) ∙ ap places_in pq

-- by what object i rests on and what it needs
pub places-are : (image : List ℕ) (base : ℕ) (x : List ℕ) (v : View) (i : ℕ) (o : Basis) (n : Need) → o ≡ basis_of x v base i → n ≡ need_of image base x v i → places_in (placement o.footing n image o.layout) ≡ places_of image base x v i
unfolding places_of
places-are image base x v i o n po pn = rw (po, pn)

pub ruleset judgements = (mask_is, judge-masked, judge-is)

pub ruleset places = (places-at, places-none)
