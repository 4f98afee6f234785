-- "Parts stand in order of Position".
--     in-order-keeps      putting parts in order of Position keeps exactly the parts
--     in-order-long       and as many
--     in-order-row        no part comes after one with the same role, nor after one with a later position
use Prim.Native.Nat.{suc, ◌≤◌, ◌<◌}
use mathlib.Core.Path.{◌≡◌, refl, sym, ◌∙◌, ap}
use mathlib.Core.List.{List, [], ◌∷◌}
use mathlib.Core.Bool.{Bool, true, false, cond}
use mathlib.Core.Logic.{◌↔◌, ◌⊎◌, inl, inr}
use native.Mathlib.Omega.{arith}
use borrow.Author.Tests.{ltb-true, ltb-false}
use lib.Dec.{ltb}
use lib.ListN.{length}
use Rattle.place.specs.Order.{insert, in_order}
use Rattle.place.specs.declared.order.Part.{Part}
use Rattle.tree.specs.Tree.{Among}

-- ---- exactly the parts
module _ (r : Part) where
  insert-has : (p : Part) (qs : List Part) → Among r (insert p qs) → (r ≡ p) ⊎ Among r qs
  unfolding insert
  insert-has p [] h = h
  insert-has p (q ∷ qs) h = go (ltb p.entry.position q.entry.position) (insert-has p qs) h
    where
      pass : (r ≡ p) ⊎ Among r qs → (r ≡ p) ⊎ Among r (q ∷ qs)
      pass (inl e) = inl e
      pass (inr m) = inr (inr m)

      go : (b : Bool) → (Among r (insert p qs) → (r ≡ p) ⊎ Among r qs) → Among r (cond b (p ∷ q ∷ qs) (q ∷ insert p qs)) → (r ≡ p) ⊎ Among r (q ∷ qs)
      go true ih m = m
      go false ih (inl e) = inr (inl e)
      go false ih (inr m) = pass (ih m)

  has-insert : (p : Part) (qs : List Part) → (r ≡ p) ⊎ Among r qs → Among r (insert p qs)
  unfolding insert
  has-insert p [] h = h
  has-insert p (q ∷ qs) h = go (ltb p.entry.position q.entry.position) (has-insert p qs) h
    where
      go : (b : Bool) → ((r ≡ p) ⊎ Among r qs → Among r (insert p qs)) → (r ≡ p) ⊎ Among r (q ∷ qs) → Among r (cond b (p ∷ q ∷ qs) (q ∷ insert p qs))
      go true ih m = m
      go false ih (inl e) = inr (ih (inl e))
      go false ih (inr (inl e)) = inl e
      go false ih (inr (inr m)) = inr (ih (inr m))

  ordered-has : (ps : List Part) → Among r (in_order ps) → Among r ps
  unfolding in_order
  ordered-has [] m = m
  ordered-has (p ∷ ps) m = pass (ordered-has ps) (insert-has p (in_order ps) m)
    where
      pass : (Among r (in_order ps) → Among r ps) → (r ≡ p) ⊎ Among r (in_order ps) → Among r (p ∷ ps)
      pass ih (inl e) = inl e
      pass ih (inr m) = inr (ih m)

  has-ordered : (ps : List Part) → Among r ps → Among r (in_order ps)
  unfolding in_order
  has-ordered [] m = m
  has-ordered (p ∷ ps) (inl e) = has-insert p (in_order ps) (inl e)
  has-ordered (p ∷ ps) (inr m) = has-insert p (in_order ps) (inr (has-ordered ps m))

  -- "Parts stand in order of Position": `in-order-rises` (place, Rises) says that positions rise, and these are the same parts
  pub in-order-keeps : (ps : List Part) → Among r (in_order ps) ↔ Among r ps
  in-order-keeps ps = (ordered-has ps, has-ordered ps)

insert-long : (p : Part) (qs : List Part) → length (insert p qs) ≡ suc (length qs)
unfolding insert
insert-long p [] = refl
insert-long p (q ∷ qs) = go (ltb p.entry.position q.entry.position) (insert-long p qs)
  where
    go : (b : Bool) → length (insert p qs) ≡ suc (length qs) → length (cond b (p ∷ q ∷ qs) (q ∷ insert p qs)) ≡ suc (suc (length qs))
    go true e = refl
    go false e = ap suc e

-- and as many
pub in-order-long : (ps : List Part) → length (in_order ps) ≡ length ps
unfolding in_order
in-order-long [] = refl
in-order-long (p ∷ ps) = insert-long p (in_order ps) ∙ ap suc (in-order-long ps)

-- ---- in a row

-- the part q may come after r
abbrev pub Later : Part → Part → Type 0
Later r q = (q.role ≡ r.role → ⊥) × (r.entry.position ≤ q.entry.position)

abbrev pub InRow : List Part → Type 0
InRow [] = Unit {0}
InRow (r ∷ rs) = ((q : Part) → Among q rs → Later r q) × InRow rs

-- no part of a list has the role of r; no two have the same
abbrev pub Other : Part → List Part → Type 0
Other r qs = (q : Part) → Among q qs → q.role ≡ r.role → ⊥

abbrev pub Differing : List Part → Type 0
Differing [] = Unit {0}
Differing (r ∷ rs) = Other r rs × Differing rs

row-insert : (p : Part) (qs : List Part) → Other p qs → InRow qs → InRow (insert p qs)
unfolding insert
row-insert p [] o w = (λ q m. absurd m, tt)
row-insert p (q ∷ qs) o w = go (ltb p.entry.position q.entry.position) refl (row-insert p qs (λ r m. o r (inr m)) w.1)
  where
    first : p.entry.position < q.entry.position → (r : Part) → Among r (q ∷ qs) → Later p r
    first h r (inl e) = (o r (inl e), rw e (omega arith))
    first h r (inr m) = (o r (inr m), omega (arith, (w.0 r m).1))

    after : q.entry.position ≤ p.entry.position → (r : Part) → (r ≡ p) ⊎ Among r qs → Later q r
    after h r (inl e) = rw e (λ d. o q (inl refl) (sym d), h)
    after h r (inr m) = w.0 r m

    go : (b : Bool) → ltb p.entry.position q.entry.position ≡ b → InRow (insert p qs) → InRow (cond b (p ∷ q ∷ qs) (q ∷ insert p qs))
    go true e v = (first (ltb-true p.entry.position q.entry.position e), w)
    go false e v = (λ r m. after (ltb-false p.entry.position q.entry.position e) r (insert-has r p qs m), v)

pub in-order-row : (ps : List Part) → Differing ps → InRow (in_order ps)
unfolding in_order
in-order-row [] d = tt
in-order-row (p ∷ ps) d = row-insert p (in_order ps) (λ q m. d.0 q (ordered-has q ps m)) (in-order-row ps d.1)
