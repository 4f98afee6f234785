-- The parts of a layout by their roles, and the places after one more part.
use Prim.Native.Nat.{ℕ, zero, suc}
use mathlib.Core.Path.{◌≡◌, refl, sym, ◌∙◌, ap}
use mathlib.Core.List.{List, [], ◌∷◌}
use mathlib.Core.Bool.{Bool, true, false, ◌&&◌}
use mathlib.Core.Logic.{◌⊎◌, inl, inr}
use native.Mathlib.Omega.{arith}
use borrow.Author.Tests.{eqb-true, eqb-false, ltb-true}
use lib.Dec.{eqb, ltb}
use lib.ListN.{get_or, set}
use lib.Seq.{get_or-set_other}
use Rattle.text.proofs.Within.{and_left, and_right}
use Rattle.place.specs.Order.{parts}
use Rattle.place.specs.declared.order.Entry.{Entry}
use Rattle.place.specs.declared.order.Layout.{Layout}
use Rattle.place.specs.declared.order.Part.{Part}
use Rattle.place.specs.declared.order.Role.{Role}
use Rattle.place.specs.declared.order.Role.TheVariants.{Values, PointsX, PointsY, CountX, CountY}
use Rattle.place.specs.declared.walk.Places.{Places}
use Rattle.tree.specs.Tree.{Among}
use Rattle.demands.specs.Placed.{address_for}
use Rattle.demands.proofs.Ordering.{Other, Differing}

-- ---- roles
abbrev pub nth : Role → ℕ
nth Values = 0
nth PointsX = 1
nth PointsY = 2
nth CountX = 3
nth CountY = 4

abbrev role_at : ℕ → Role
role_at zero = Values
role_at (suc zero) = PointsX
role_at (suc (suc zero)) = PointsY
role_at (suc (suc (suc zero))) = CountX
role_at (suc (suc (suc (suc k)))) = CountY

role-back : (o : Role) → role_at (nth o) ≡ o
role-back Values = refl
role-back PointsX = refl
role-back PointsY = refl
role-back CountX = refl
role-back CountY = refl

same-nth : (o q : Role) → nth o ≡ nth q → o ≡ q
same-nth o q e = sym (role-back o) ∙ ap role_at e ∙ role-back q

pub same-role : (o q : Role) → (o ≡ q) ⊎ (o ≡ q → ⊥)
same-role o q = go (eqb (nth o) (nth q)) refl
  where
    go : (b : Bool) → eqb (nth o) (nth q) ≡ b → (o ≡ q) ⊎ (o ≡ q → ⊥)
    go true e = inl (same-nth o q (eqb-true (nth o) (nth q) e))
    go false e = inr (λ d. eqb-false (nth o) (nth q) e (ap nth d))

-- what a layout says of the part with a role
abbrev pub entry_for : Layout → Role → Entry
entry_for l Values = l.values
entry_for l PointsX = l.x
entry_for l PointsY = l.y
entry_for l CountX = l.nx
entry_for l CountY = l.ny

module _ (l : Layout) where
  abbrev pub part_for : Role → Part
  part_for o = record { role = o; entry = entry_for l o }

  pub its_own : (r : Part) → Among r (parts l) → r ≡ part_for r.role
  unfolding parts
  its_own r (inl e) = rw e
  its_own r (inr (inl e)) = rw e
  its_own r (inr (inr (inl e))) = rw e
  its_own r (inr (inr (inr (inl e)))) = rw e
  its_own r (inr (inr (inr (inr (inl e))))) = rw e
  its_own r (inr (inr (inr (inr (inr m))))) = absurd m

  pub has_part : (o : Role) → Among (part_for o) (parts l)
  unfolding parts
  has_part Values = inl refl
  has_part PointsX = inr (inl refl)
  has_part PointsY = inr (inr (inl refl))
  has_part CountX = inr (inr (inr (inl refl)))
  has_part CountY = inr (inr (inr (inr (inl refl))))

-- no two of its parts have the same role
abbrev above : ℕ → List Part → Bool
above k [] = true
above k (p ∷ ps) = ltb k (nth p.role) && above k ps

abbrev rising : List Part → Bool
rising [] = true
rising (p ∷ ps) = above (nth p.role) ps && rising ps

above_other : (r : Part) (ps : List Part) → above (nth r.role) ps ≡ true → Other r ps
above_other r [] h q m d = elim m [ ]
above_other r (p ∷ ps) h q (inl e) d =
    let u = ltb-true (nth r.role) (nth p.role) (and_left (ltb (nth r.role) (nth p.role)) (above (nth r.role) ps) h) in
    omega (arith, ap nth d, ap (λ (z : Part). nth z.role) e)
above_other r (p ∷ ps) h q (inr m) d = above_other r ps (and_right (ltb (nth r.role) (nth p.role)) (above (nth r.role) ps) h) q m d

rising-differs : (ps : List Part) → rising ps ≡ true → Differing ps
rising-differs [] h = tt
rising-differs (p ∷ ps) h = (above_other p ps (and_left (above (nth p.role) ps) (rising ps) h), rising-differs ps (and_right (above (nth p.role) ps) (rising ps) h))

pub differing : (l : Layout) → Differing (parts l)
unfolding parts
differing l = rising-differs (parts l) refl

-- ---- the places after one more part: it stands at an address, and where it is a count its axis has c points
module _ (at c : ℕ) (a : Places) where
  abbrev pub wrote : Role → Places
  wrote Values = record { values = at; x = a.x; y = a.y; nx = a.nx; ny = a.ny; cx = a.cx; cy = a.cy }
  wrote PointsX = record { values = a.values; x = at; y = a.y; nx = a.nx; ny = a.ny; cx = a.cx; cy = a.cy }
  wrote PointsY = record { values = a.values; x = a.x; y = at; nx = a.nx; ny = a.ny; cx = a.cx; cy = a.cy }
  wrote CountX = record { values = a.values; x = a.x; y = a.y; nx = at; ny = a.ny; cx = c; cy = a.cy }
  wrote CountY = record { values = a.values; x = a.x; y = a.y; nx = a.nx; ny = at; cx = a.cx; cy = c }

  abbrev row : Places → List ℕ
  row p = p.values ∷ p.x ∷ p.y ∷ p.nx ∷ p.ny ∷ []

  row-at : (p : Places) (q : Role) → address_for p q ≡ get_or (row p) (nth q) 0
  row-at p Values = refl
  row-at p PointsX = refl
  row-at p PointsY = refl
  row-at p CountX = refl
  row-at p CountY = refl

  row_wrote : (o : Role) → row (wrote o) ≡ set (row a) (nth o) at
  row_wrote Values = refl
  row_wrote PointsX = refl
  row_wrote PointsY = refl
  row_wrote CountX = refl
  row_wrote CountY = refl

  pub wrote-here : (o : Role) → address_for (wrote o) o ≡ at
  wrote-here Values = refl
  wrote-here PointsX = refl
  wrote-here PointsY = refl
  wrote-here CountX = refl
  wrote-here CountY = refl

  pub wrote-other : (o q : Role) → (q ≡ o → ⊥) → address_for (wrote o) q ≡ address_for a q
  wrote-other o q d = row-at (wrote o) q ∙ ap (λ (w : List ℕ). get_or w (nth q) 0) (row_wrote o) ∙ get_or-set_other (row a) (nth o) (nth q) at 0 (λ e. d (same-nth q o e)) ∙ sym (row-at a q)

  pub wrote-x : (o : Role) → (CountX ≡ o → ⊥) → (wrote o).cx ≡ a.cx
  wrote-x Values d = refl
  wrote-x PointsX d = refl
  wrote-x PointsY d = refl
  wrote-x CountX d = absurd (d refl)
  wrote-x CountY d = refl

  pub wrote-y : (o : Role) → (CountY ≡ o → ⊥) → (wrote o).cy ≡ a.cy
  wrote-y Values d = refl
  wrote-y PointsX d = refl
  wrote-y PointsY d = refl
  wrote-y CountX d = refl
  wrote-y CountY d = absurd (d refl)
