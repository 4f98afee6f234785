-- THE SECOND DEMAND: "every element then stands at the address .. its layout gives": the walk over the parts finds where they stand.
--     placed-exactly      an object is placed at p exactly if its parts stand so
use Prim.Native.Nat.{ℕ, ◌<◌}
use mathlib.Core.Path.{◌≡◌, refl, sym, ◌∙◌, ap, subst}
use mathlib.Core.List.{List, [], ◌∷◌}
use mathlib.Core.Bool.{Bool, true, false, cond, ◌&&◌, false≢true}
use mathlib.Core.Logic.{◌↔◌, inl, inr}
use Rattle.number.specs.Answer.{Answer, given, refused}
use Rattle.cell.specs.Kind.{shape_of}
use Rattle.place.specs.Align.{alignment}
use Rattle.place.specs.Order.{in_order, parts}
use Rattle.place.specs.Rules.{sound_layout}
use Rattle.place.specs.Walk.{start_of, within, standing, place_one, step, all_placed, start, placement}
use Rattle.place.specs.declared.order.Entry.{Entry}
use Rattle.place.specs.declared.order.Layout.{Layout}
use Rattle.place.specs.declared.order.Part.{Part}
use Rattle.place.specs.declared.order.Role.{Role}
use Rattle.place.specs.declared.order.Role.TheVariants.{Values, PointsX, PointsY, CountX, CountY}
use Rattle.place.specs.declared.rules.Need.{Need}
use Rattle.place.specs.declared.walk.Ground.{Ground}
use Rattle.place.specs.declared.walk.Places.{Places}
use Rattle.place.specs.declared.walk.Reached.{Reached}
use Rattle.list.proofs.Writes.{never, same-given}
use Rattle.tree.specs.Tree.{Among}
use Rattle.demands.specs.Placed.{StartsAt, address_for, past_part, Stand, no_more, absent, stands, LayoutKeeps, ObjectPlaced}
use Rattle.demands.proofs.Ordering.{in-order-keeps, in-order-row}
use Rattle.demands.proofs.Roles.{entry_for, part_for, its_own, has_part, differing, wrote, wrote-here}
use Rattle.demands.proofs.Layouts.{layout-keeps, has-points, points-within, points-are}
use Rattle.demands.proofs.Coming.{Lacks, Settled, Well, well, Agree, elements-agree, count_for, agree-before, agree_after, agree-absent}
use Rattle.demands.proofs.Starting.{alignment-some, starts, starts-one, Reads, past, reads-standing, standing-reads}

module _ (g : Ground) (n : Need) (image : List ℕ) where
  -- one part that stands where p has it
  module _ (r : Part) (rs : List Part) (p : Places) (at c : ℕ) (a : Places) (k : Agree rs (wrote at c a r.role) p) (lacks : Lacks r.role rs) (settled : Settled r.role rs) where
    address_is : at ≡ address_for p r.role
    address_is = sym (wrote-here at c a r.role) ∙ k.address r.role lacks

    past_is : (past r.entry.kind at c a r.role).free ≡ past_part p r
    past_is = rw (elements-agree rs (wrote at c a r.role) p k r.role settled, address_is)

    reads-final : Reads g n image r.role r.entry.kind at c → Reads g n image r.role r.entry.kind (address_for p r.role) (count_for p r.role)
    reads-final = go r.role lacks k
      where
        go : (o : Role) → Lacks o rs → Agree rs (wrote at c a o) p → Reads g n image o r.entry.kind at c → Reads g n image o r.entry.kind (address_for p o) (count_for p o)
        go Values h z m = tt
        go PointsX h z m = tt
        go PointsY h z m = tt
        go CountX h z m = let e : at ≡ p.nx = z.address CountX h in let f : c ≡ p.cx = z.points_x h in rw (← e, ← f) m
        go CountY h z m = let e : at ≡ p.ny = z.address CountY h in let f : c ≡ p.cy = z.points_y h in rw (← e, ← f) m

  abbrev align_of : Part → ℕ
  align_of r = alignment g.aligns (shape_of r.entry.kind)

  align_of-some : (r : Part) → 0 < align_of r
  align_of-some r = alignment-some g.aligns r.entry.kind

  stays-refused : (k : ℕ) (rs : List Part) → all_placed g n image (refused k) rs ≡ refused k
  unfolding all_placed
  stays-refused k [] = refl
  stays-refused k (r ∷ rs) = stays-refused k rs

  -- every count is read where it stands
  abbrev AllRead : List Part → Places → Type 0
  AllRead rs p = (r : Part) → Among r rs → r.entry.present ≡ true → Reads g n image r.role r.entry.kind (address_for p r.role) (count_for p r.role)

  -- what the walk from s over the parts rs, which ends at the places p, says of p
  record Reaches (s : Reached) (rs : List Part) (p : Places) : Type 0 where
    agree : Agree rs s.places p
    stand : Stand g.aligns p s.any s.free rs
    read : AllRead rs p

  module _ (r : Part) (rs : List Part) (w : Well (r ∷ rs)) (s t : Reached) (ih : (u : Reached) → all_placed g n image (given u) rs ≡ given t → Reaches u rs t.places) where
    abbrev at : ℕ
    at = start_of (align_of r) s

    on_one : r.entry.present ≡ true → (u : Reached) → standing g n image r.entry.kind at s r.role ≡ given u → all_placed g n image (given u) rs ≡ given t → Reaches s (r ∷ rs) t.places
    on_one e u q h =
        let z = standing-reads g n image r.entry.kind at s r.role u q in
        let c = z.0 in
        let p = t.places in
        let k : Reaches (past r.entry.kind at c s.places r.role) rs p = subst (λ (v : Reached). Reaches v rs p) (sym z.2) (ih u h) in
        let lacks = (w.0 e).0 in
        let settled = (w.0 e).1 in
        let is : at ≡ address_for p r.role = address_is r rs p at c s.places k.agree lacks settled in
        record {
          agree = agree-before r rs e p at c s.places k.agree;
          stand = stands e (rw is at (starts (align_of r) s (align_of-some r))) (rw (past_is r rs p at c s.places k.agree lacks settled) at k.stand);
          read = reads c k lacks settled z.1;
        }
      where
        reads : (c : ℕ) → Reaches (past r.entry.kind at c s.places r.role) rs t.places → Lacks r.role rs → Settled r.role rs → Reads g n image r.role r.entry.kind at c → AllRead (r ∷ rs) t.places
        reads c k lacks settled z v (inl d) f = rw d (reads-final r rs t.places at c s.places k.agree lacks settled z)
        reads c k lacks settled z v (inr m) f = k.read v m f

    by_answer : r.entry.present ≡ true → (a : Answer Reached) → standing g n image r.entry.kind at s r.role ≡ a → all_placed g n image a rs ≡ given t → Reaches s (r ∷ rs) t.places
    by_answer e (given u) q h = on_one e u q h
    by_answer e (refused k) q h = absurd (never k t (sym (stays-refused k rs) ∙ h))

    skip : r.entry.present ≡ false → Reaches s rs t.places → Reaches s (r ∷ rs) t.places
    skip e k = record { agree = over k.agree; stand = absent e k.stand; read = reads }
      where
        over : Agree rs s.places t.places → Agree (r ∷ rs) s.places t.places
        over z = record { address = λ q h. z.address q (λ v m. h v (inr m)); points_x = λ h. z.points_x (λ v m. h v (inr m)); points_y = λ h. z.points_y (λ v m. h v (inr m)) }

        reads : AllRead (r ∷ rs) t.places
        reads v (inl d) f = absurd (false≢true (sym e ∙ ap (λ (z : Part). z.entry.present) (sym d) ∙ f))
        reads v (inr m) f = k.read v m f

    by-present : (b : Bool) → r.entry.present ≡ b → all_placed g n image (cond b (place_one g n image s r) (given s)) rs ≡ given t → Reaches s (r ∷ rs) t.places
    unfolding place_one
    by-present true e h = by_answer e (standing g n image r.entry.kind at s r.role) refl h
    by-present false e h = skip e (ih s h)

  reaches : (rs : List Part) → Well rs → (s t : Reached) → all_placed g n image (given s) rs ≡ given t → Reaches s rs t.places
  unfolding all_placed
  reaches [] w s t h =
      let e : s.places ≡ t.places = ap (λ (u : Reached). u.places) (same-given s t h) in
      record { agree = record { address = λ q z. rw e; points_x = λ z. rw e; points_y = λ z. rw e }; stand = no_more; read = λ r m. absurd m }
  reaches (r ∷ rs) w s t h = by-present r rs w s t (λ u. reaches rs w.1 u t) r.entry.present refl h

  -- the walk from s over the parts rs ends at the places p
  abbrev Ends : Reached → List Part → Places → Type 0
  Ends s rs p = (t : Reached) × (all_placed g n image (given s) rs ≡ given t) × (t.places ≡ p)

  module _ (p : Places) where
    all-agree : (a : Places) → Agree [] a p → a ≡ p
    all-agree a k =
        let v : a.values ≡ p.values = k.address Values (λ r m. absurd m) in
        let x : a.x ≡ p.x = k.address PointsX (λ r m. absurd m) in
        let y : a.y ≡ p.y = k.address PointsY (λ r m. absurd m) in
        let nx : a.nx ≡ p.nx = k.address CountX (λ r m. absurd m) in
        let ny : a.ny ≡ p.ny = k.address CountY (λ r m. absurd m) in
        let cx : a.cx ≡ p.cx = k.points_x (λ r m. absurd m) in
        let cy : a.cy ≡ p.cy = k.points_y (λ r m. absurd m) in
        λ i. record { values = v i; x = x i; y = y i; nx = nx i; ny = ny i; cx = cx i; cy = cy i }

    abbrev on : Part → Places → Reached
    on r a = record { free = past_part p r; any = true; places = wrote (address_for p r.role) (count_for p r.role) a r.role }

    module _ (r : Part) (rs : List Part) (any : Bool) (free : ℕ) (a : Places) where
      one-step : r.entry.present ≡ true → StartsAt any (align_of r) free (address_for p r.role) → Settled r.role rs → Agree rs (on r a).places p
          → Reads g n image r.role r.entry.kind (address_for p r.role) (count_for p r.role) → step g n image (given (record { free = free; any = any; places = a })) r ≡ given (on r a)
      unfolding place_one
      one-step e h settled k z =
          let s : Reached = record { free = free; any = any; places = a } in
          rw (e, starts-one (align_of r) s (address_for p r.role) (align_of-some r) h, reads-standing g n image r.entry.kind (address_for p r.role) s r.role (count_for p r.role) z, elements-agree rs (on r a).places p k r.role settled)

    ends : {any : Bool} {free : ℕ} {rs : List Part} → Stand g.aligns p any free rs → Well rs → AllRead rs p → (a : Places) → Agree rs a p → Ends (record { free = free; any = any; places = a }) rs p
    unfolding all_placed
    ends (no_more {any = any} {free = free}) w z a k = (record { free = free; any = any; places = a }, refl, all-agree a k)
    ends (absent {r = r} {rs = rs} e s) w z a k = rw e (ends s w.1 (λ v m. z v (inr m)) a (agree-absent r rs e p a k))
    ends (stands {any = any} {free = free} {r = r} {rs = rs} e h s) w z a k =
        let k' = agree_after r rs e p (address_for p r.role) (count_for p r.role) a refl refl k in
        rw (one-step r rs any free a e h (w.0 e).1 k' (z r (inl refl) e)) (ends s w.1 (λ v m. z v (inr m)) (on r a).places k')

  -- ---- a layout
  module _ (l : Layout) where
    abbrev ps : List Part
    ps = in_order (parts l)

    ordered : LayoutKeeps n l → Well ps
    ordered k = well n l k ps (λ r. (in-order-keeps r (parts l)).0) (in-order-row (parts l) (differing l))

    there : (o : Role) → Among (part_for l o) ps
    there o = (in-order-keeps (part_for l o) (parts l)).1 (has_part l o)

    entry-is : (r : Part) → Among r ps → r.entry ≡ entry_for l r.role
    entry-is r m = ap (λ (z : Part). z.entry) (its_own l r ((in-order-keeps r (parts l)).0 m))

    absent-lacked : (o : Role) → (entry_for l o).present ≡ false → Lacks o ps
    absent-lacked o e r m f d = false≢true (sym e ∙ ap (λ (q : Role). (entry_for l q).present) (sym d) ∙ ap (λ (z : Entry). z.present) (sym (entry-is r m)) ∙ f)

    lacked-absent : (o : Role) → Lacks o ps → (entry_for l o).present ≡ false
    lacked-absent o h = go (entry_for l o).present refl
      where
        go : (b : Bool) → (entry_for l o).present ≡ b → (entry_for l o).present ≡ false
        go true e = absurd (h (part_for l o) (there o) e refl)
        go false e = e

    starts-nowhere : (o : Role) → address_for (start g n).places o ≡ 0
    unfolding start
    starts-nowhere Values = refl
    starts-nowhere PointsX = refl
    starts-nowhere PointsY = refl
    starts-nowhere CountX = refl
    starts-nowhere CountY = refl

    is-placed : LayoutKeeps n l → within n.x ≡ true → within n.y ≡ true → (t : Reached) → all_placed g n image (given (start g n)) ps ≡ given t → ObjectPlaced g n image t.places l
    unfolding start
    is-placed k x y t h =
        let r : Reaches (start g n) ps t.places = reaches ps (ordered k) (start g n) t h in
        record {
          rules = k;
          points_x = has-points image g n.x l.nx t.places.nx t.places.cx k.beside_x x (λ e. r.read (part_for l CountX) (there CountX) e) (λ e. sym (r.agree.points_x (absent-lacked CountX e)));
          points_y = has-points image g n.y l.ny t.places.ny t.places.cy k.beside_y y (λ e. r.read (part_for l CountY) (there CountY) e) (λ e. sym (r.agree.points_y (absent-lacked CountY e)));
          stand = r.stand;
          nowhere = λ q m e. sym (r.agree.address q.role (absent-lacked q.role (rw (its_own l q m) at e))) ∙ starts-nowhere q.role;
        }

    module _ (p : Places) (k : ObjectPlaced g n image p l) where
      agrees : Agree ps (start g n).places p
      unfolding start
      agrees =
          record {
            address = λ o h. starts-nowhere o ∙ sym (k.nowhere (part_for l o) (has_part l o) (lacked-absent o h));
            points_x = λ h. sym (points-are image g n.x l.nx p.nx p.cx k.points_x (lacked-absent CountX h));
            points_y = λ h. sym (points-are image g n.y l.ny p.ny p.cy k.points_y (lacked-absent CountY h));
          }

      reads-own : (o : Role) → (entry_for l o).present ≡ true → Reads g n image o (entry_for l o).kind (address_for p o) (count_for p o)
      reads-own Values e = tt
      reads-own PointsX e = tt
      reads-own PointsY e = tt
      reads-own CountX e = k.points_x.counted e
      reads-own CountY e = k.points_y.counted e

      all_read : AllRead ps p
      all_read r m e = rw (entry-is r m) (reads-own r.role (rw (entry-is r m) at e))

      placed-is : (t : Reached) × (placement g n image l ≡ given t) × (t.places ≡ p)
      unfolding placement start
      placed-is =
          rw ((layout-keeps n l).1 k.rules, points-within image g n.x l.nx p.nx p.cx k.points_x, points-within image g n.y l.ny p.ny p.cy k.points_y)
          (ends p k.stand (ordered k.rules) all_read (start g n).places agrees)

  -- an object's layout gives where its parts stand, and how many points they have, exactly if they stand so
  pub placed-exactly : (l : Layout) (p : Places) → ((t : Reached) × (placement g n image l ≡ given t) × (t.places ≡ p)) ↔ ObjectPlaced g n image p l
  unfolding placement
  placed-exactly l p = (λ z. subst (λ (q : Places). ObjectPlaced g n image q l) z.2 (forth z.0 (sound_layout n l) (within n.x) (within n.y) refl refl refl z.1), placed-is l p)
    where
      forth : (t : Reached) (a b c : Bool) → sound_layout n l ≡ a → within n.x ≡ b → within n.y ≡ c
          → cond a (cond (b && c) (all_placed g n image (given (start g n)) (in_order (parts l))) (refused 13)) (refused 11) ≡ given t → ObjectPlaced g n image t.places l
      forth t true true true e f h q = is-placed l ((layout-keeps n l).0 e) f h t q
      forth t true true false e f h q = absurd (never 13 t q)
      forth t true false c e f h q = absurd (never 13 t q)
      forth t false b c e f h q = absurd (never 11 t q)
