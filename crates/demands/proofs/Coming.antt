-- What parts still to come leave as it is: one that is placed writes the address of its own role, and a count the points of its axis.
use Prim.Native.Nat.{ℕ, ◌<◌}
use mathlib.Core.Path.{◌≡◌, refl, sym, ◌∙◌, ap}
use mathlib.Core.List.{List, [], ◌∷◌}
use mathlib.Core.Bool.{true, false, false≢true}
use mathlib.Core.Logic.{◌⊎◌, inl, inr}
use native.Mathlib.Omega.{arith}
use Rattle.place.specs.Order.{parts}
use Rattle.place.specs.declared.order.Layout.{Layout}
use Rattle.place.specs.declared.order.Part.{Part}
use Rattle.place.specs.declared.order.Role.{Role}
use Rattle.place.specs.declared.order.Role.TheVariants.{Values, PointsX, PointsY, CountX, CountY}
use Rattle.place.specs.declared.rules.Need.{Need}
use Rattle.place.specs.declared.walk.Places.{Places}
use Rattle.tree.specs.Tree.{Among}
use Rattle.demands.specs.Placed.{address_for, elements_for, Before, LayoutKeeps}
use Rattle.demands.proofs.Ordering.{InRow}
use Rattle.demands.proofs.Roles.{entry_for, its_own, same-role, wrote, wrote-here, wrote-other, wrote-x, wrote-y}

-- none of the parts rs that the layout has is of the role o
abbrev pub Lacks : Role → List Part → Type 0
Lacks o rs = (r : Part) → Among r rs → r.entry.present ≡ true → r.role ≡ o → ⊥

-- no count comes that a part with a role is packed by
abbrev pub Settled : Role → List Part → Type 0
Settled Values rs = Lacks CountX rs × Lacks CountY rs
Settled PointsX rs = Lacks CountX rs
Settled PointsY rs = Lacks CountY rs
Settled CountX rs = Unit {0}
Settled CountY rs = Unit {0}

-- each part that the layout has comes once, and no count comes after what is packed by it
abbrev pub Well : List Part → Type 0
Well [] = Unit {0}
Well (r ∷ rs) = (r.entry.present ≡ true → Lacks r.role rs × Settled r.role rs) × Well rs

module _ (n : Need) (l : Layout) (k : LayoutKeeps n l) where
  pub well : (rs : List Part) → ((r : Part) → Among r rs → Among r (parts l)) → InRow rs → Well rs
  well [] has w = tt
  well (r ∷ rs) has w = (λ p. (λ q m p' e. (w.0 q m).0 e, settled r.role refl p), well rs (λ q m. has q (inr m)) w.1)
    where
      comes-first : (o q : Role) → Before (entry_for l q) (entry_for l o) → r.role ≡ o → r.entry.present ≡ true → Lacks q rs
      comes-first o q b e p s m p' e' =
          let f : r.entry ≡ entry_for l o = ap (λ (z : Part). z.entry) (its_own l r (has r (inl refl))) ∙ ap (entry_for l) e in
          let f' : s.entry ≡ entry_for l q = ap (λ (z : Part). z.entry) (its_own l s (has s (inr m))) ∙ ap (entry_for l) e' in
          let h : s.entry.position < r.entry.position = rw (f, f') (b (rw f' at p') (rw f at p)) in
          let h' = (w.0 s m).1 in
          omega arith

      settled : (o : Role) → r.role ≡ o → r.entry.present ≡ true → Settled o rs
      settled Values e p = (comes-first Values CountX k.before_values.0 e p, comes-first Values CountY k.before_values.1 e p)
      settled PointsX e p = comes-first PointsX CountX k.before_x e p
      settled PointsY e p = comes-first PointsY CountY k.before_y e p
      settled CountX e p = tt
      settled CountY e p = tt

-- the places a are those of p but for what the parts rs will write
pub record Agree (rs : List Part) (a p : Places) : Type 0 where
  pub address : (o : Role) → Lacks o rs → address_for a o ≡ address_for p o
  pub points_x : Lacks CountX rs → a.cx ≡ p.cx
  pub points_y : Lacks CountY rs → a.cy ≡ p.cy

pub elements-agree : (rs : List Part) (a p : Places) → Agree rs a p → (o : Role) → Settled o rs → elements_for a o ≡ elements_for p o
elements-agree rs a p k Values s = rw (k.points_x s.0, k.points_y s.1)
elements-agree rs a p k PointsX s = k.points_x s
elements-agree rs a p k PointsY s = k.points_y s
elements-agree rs a p k CountX s = refl
elements-agree rs a p k CountY s = refl

-- the count that a part with a role gives
abbrev pub count_for : Places → Role → ℕ
count_for p Values = 0
count_for p PointsX = 0
count_for p PointsY = 0
count_for p CountX = p.cx
count_for p CountY = p.cy

module _ (r : Part) (rs : List Part) (present : r.entry.present ≡ true) (p : Places) (at c : ℕ) (a : Places) where
  abbrev o : Role
  o = r.role

  not-it : (q : Role) → Lacks q (r ∷ rs) → q ≡ o → ⊥
  not-it q h e = h r (inl refl) present (sym e)

  -- back over one part
  pub agree-before : Agree rs (wrote at c a o) p → Agree (r ∷ rs) a p
  agree-before k =
      record {
        address = λ q h. sym (wrote-other at c a o q (not-it q h)) ∙ k.address q (λ s m. h s (inr m));
        points_x = λ h. sym (wrote-x at c a o (not-it CountX h)) ∙ k.points_x (λ s m. h s (inr m));
        points_y = λ h. sym (wrote-y at c a o (not-it CountY h)) ∙ k.points_y (λ s m. h s (inr m));
      }

  lacks-more : (q : Role) → (q ≡ o → ⊥) → Lacks q rs → Lacks q (r ∷ rs)
  lacks-more q d h s (inl e) p' e' = d (sym e' ∙ ap (λ (z : Part). z.role) e)
  lacks-more q d h s (inr m) p' e' = h s m p' e'

  -- on over one part, which stands where p has it
  pub agree_after : at ≡ address_for p o → c ≡ count_for p o → Agree (r ∷ rs) a p → Agree rs (wrote at c a o) p
  agree_after e f k = record { address = λ q h. by_address q h (same-role q o); points_x = λ h. by-x h (same-role CountX o); points_y = λ h. by-y h (same-role CountY o) }
    where
      by_address : (q : Role) → Lacks q rs → (q ≡ o) ⊎ (q ≡ o → ⊥) → address_for (wrote at c a o) q ≡ address_for p q
      by_address q h (inl d) = rw d (wrote-here at c a o ∙ e)
      by_address q h (inr d) = wrote-other at c a o q d ∙ k.address q (lacks-more q d h)

      by-x : Lacks CountX rs → (CountX ≡ o) ⊎ (CountX ≡ o → ⊥) → (wrote at c a o).cx ≡ p.cx
      by-x h (inl d) = rw (← d) (rw (← d) at f)
      by-x h (inr d) = wrote-x at c a o d ∙ k.points_x (lacks-more CountX d h)

      by-y : Lacks CountY rs → (CountY ≡ o) ⊎ (CountY ≡ o → ⊥) → (wrote at c a o).cy ≡ p.cy
      by-y h (inl d) = rw (← d) (rw (← d) at f)
      by-y h (inr d) = wrote-y at c a o d ∙ k.points_y (lacks-more CountY d h)

-- a part that the layout has not writes nothing
module _ (r : Part) (rs : List Part) (e : r.entry.present ≡ false) (p a : Places) where
  absent-lacks : (q : Role) → Lacks q rs → Lacks q (r ∷ rs)
  absent-lacks q h s (inl d) f z = false≢true (sym e ∙ ap (λ (v : Part). v.entry.present) (sym d) ∙ f)
  absent-lacks q h s (inr m) f z = h s m f z

  pub agree-absent : Agree (r ∷ rs) a p → Agree rs a p
  agree-absent k = record { address = λ q h. k.address q (absent-lacks q h); points_x = λ h. k.points_x (absent-lacks CountX h); points_y = λ h. k.points_y (absent-lacks CountY h) }
