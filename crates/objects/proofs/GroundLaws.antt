-- The ground of an object, by the branches that the code takes.
use Prim.Native.Nat.{ℕ, min}
use mathlib.Core.Path.{◌≡◌}
use mathlib.Core.List.{List}
use mathlib.Core.Bool.{Bool}
use borrow.Author.Tests.{eq-eqb, ne_eqb}
use lib.Dec.{eqb}
use Rattle.rows.specs.Sections.{file, layout, object}
use Rattle.rows.specs.Slots.{common_byte_order, common_alignment_byte, common_alignment_word, common_alignment_long, layout_alignment_byte, layout_alignment_word, layout_alignment_long, object_address, object_byte_order}
use Rattle.grammar.specs.Move.{View, view_in}
use Rattle.place.specs.declared.order.Aligns.{Aligns}
use Rattle.place.specs.declared.walk.Ground.{Ground}
use Rattle.objects.specs.Object.{word, aligns_of, first_of}

-- w is the layout's own word
module _ (v : View) (l k c w : ℕ) (p : w ≡ v.slots layout l k) where
  pub word-common : w ≡ 0 → (m r : ℕ) → m ≡ v.slots file 0 c → r ≡ min m 255 → r ≡ word v l k c
  unfolding word
  word-common h m r pm pr = rw (← p, eq-eqb w 0 h, pr, pm)

  pub word-own : (w ≡ 0 → ⊥) → (r : ℕ) → r ≡ min w 255 → r ≡ word v l k c
  unfolding word
  word-own h r pr = rw (← p, ne_eqb w 0 h, pr)

pub aligns-are : (v : View) (l a b c : ℕ) → a ≡ word v l layout_alignment_byte common_alignment_byte → b ≡ word v l layout_alignment_word common_alignment_word → c ≡ word v l layout_alignment_long common_alignment_long → ◌≡◌ {A = Aligns} (record { byte = a; word = b; long = c }) (aligns_of v l)
unfolding aligns_of
aligns-are v l a b c pa pb pc = rw (pa, pb, pc)

-- w is the object's own byte order
module _ (v : View) (i w : ℕ) (p : w ≡ v.slots object i object_byte_order) where
  pub first-common : w ≡ 0 → (m : ℕ) → m ≡ v.slots file 0 common_byte_order → eqb m 8 ≡ first_of v i
  unfolding first_of
  first-common h m pm = rw (← p, eq-eqb w 0 h, pm)

  pub first-own : (w ≡ 0 → ⊥) → eqb w 8 ≡ first_of v i
  unfolding first_of
  first-own h = rw (← p, ne_eqb w 0 h)

-- l is the number of the layout
pub ground-is : (t : List ℕ) (base i at address l : ℕ) (first : Bool) (aligns : Aligns) → at ≡ (view_in t).slots object i object_address → address ≡ min at 4294967295 → first ≡ first_of (view_in t) i → aligns ≡ aligns_of (view_in t) l
    → ◌≡◌ {A = Ground} (record { address = address; base = base; first = first; aligns = aligns }) (record { address = min ((view_in t).slots object i object_address) 4294967295; base = base; first = first_of (view_in t) i; aligns = aligns_of (view_in t) l })
ground-is t base i at address l first aligns pt pa pf pw = rw (pa, pt, pf, pw)

pub ruleset grounds = (word-common, word-own, aligns-are, first-common, first-own, ground-is)
