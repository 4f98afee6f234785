-- THE FIRST DEMAND: "each call ends with an answer or one numbered refusal", for a load.
--     refusal-listed     a load's refusal has a number of document 01's list and a place in the text, or the text's length
--     refusal-leaves     "20 leaves tables untouched, other load refusals leave them zero"
use Prim.Native.Nat.{ℕ, zero, suc, ◌+◌, ◌-◌, ◌≤◌}
use mathlib.Core.Path.{◌≡◌, refl, subst}
use mathlib.Core.List.{List, [], ◌∷◌}
use mathlib.Core.Bool.{Bool, ◌&&◌}
use mathlib.Core.Logic.{◌⊎◌, inl, inr}
use native.Mathlib.Omega.{arith}
use borrow.Author.Tests.{ltb-true}
use lib.Dec.{ltb, leb, eqb}
use lib.IntN.{ℤ, pos, negsuc}
use lib.ListN.{length, get_or, replicate}
use Rattle.text.specs.Answer.{Answer, given, refused, with}
use Rattle.text.proofs.Within.{by-test}
use Rattle.number.specs.Answer as number
use Rattle.number.specs.Form.{is_given}
use Rattle.number.specs.Most.{most_objects, most_elements}
use Rattle.records.specs.Records.{count, slot}
use Rattle.records.specs.Cells.{room}
use Rattle.rows.specs.Sections as records
use Rattle.rows.specs.Sections.{method, object}
use Rattle.rows.specs.Slots.{own_name}
use Rattle.grammar.specs.Move.{view}
use Rattle.grammar.specs.Read.{read}
use Rattle.refer.specs.Refer.{reference_rows, least_in, referred}
use Rattle.methods.specs.Methods.{coefficients, converts_from, converts}
use Rattle.cell.specs.Kind.{shape_of}
use Rattle.cell.specs.Raw.{raw_at}
use Rattle.place.specs.Align.{alignment}
use Rattle.place.specs.Inside.{inside}
use Rattle.place.specs.Order.{in_order, parts}
use Rattle.place.specs.Rules.{sound_layout}
use Rattle.place.specs.Walk.{start_of, count_stored, count_at, within, count_x_at, count_y_at, standing, place_one, step, all_placed, start, placement}
use Rattle.place.specs.Judge.{elements_stored, all_inside, weighed, after, judged_object}
use Rattle.place.specs.declared.judge.Standing.{Standing}
use Rattle.place.specs.declared.order.Layout.{Layout}
use Rattle.place.specs.declared.order.Role.{Role}
use Rattle.place.specs.declared.order.Role.TheVariants.{Values, PointsX, PointsY, CountX, CountY}
use Rattle.place.specs.declared.order.Part.{Part}
use Rattle.place.specs.declared.rules.Need.{Need}
use Rattle.place.specs.declared.walk.Ground.{Ground}
use Rattle.place.specs.declared.walk.Places.{Places}
use Rattle.place.specs.declared.walk.Reached.{Reached}
use Rattle.objects.specs.Object.{layout_of, ground_of, need_of, mask_fits, judge_object}
use Rattle.objects.specs.Stage.{turns_from, total_or, marked, turn, judge_each, judge_all}
use Rattle.facts.proofs.Texts.{text-inside, method-name, object-name}
use Rattle.convert.specs.Edition.{is_edition}
use Rattle.tables.specs.declared.setting.Setting.{Setting}
use Rattle.tables.specs.Sizes.{sizes_fit}
use Rattle.load.specs.Load.{described, Loaded, left, untouched, loaded}
use Rattle.refusals.specs.Refusals.{Refusal, lent, edition, described as in-text}
use Rattle.facts.proofs.Numbers.{Number}
use Rattle.refusals.proofs.Moves.{Answered, read_told_lem}

-- ---- the numbers of placement: 8, 11, 12, 13
abbrev Numbered : {A : Type 0} → number.Answer A → Type 0
Numbered (number.given a) = Unit {0}
Numbered (number.refused k) = Number k

module _ (g : Ground) (n : Need) (image : List ℕ) where
  abbrev R : number.Answer Reached → Type 0
  R a = Numbered a

  in-numbered : (most : ℕ) (z : ℤ) → Numbered (count_stored most z)
  unfolding count_stored
  in-numbered most (pos m) = by-test (λ (a : number.Answer ℕ). Numbered a) (leb 1 m && leb m most) (λ t. tt) (λ t. omega arith)
  in-numbered most (negsuc m) = omega arith

  at-numbered : (kind at most : ℕ) → Numbered (count_at image g kind at most)
  unfolding count_at
  at-numbered kind at most =
      by-test (λ (a : number.Answer ℕ). Numbered a) (inside image g.base at (shape_of kind).bytes)
      (λ t. in-numbered most (raw_at g.first (at - g.base) (shape_of kind) 0 image)) (λ t. omega arith)

  x-numbered : (at bytes : ℕ) (s : Reached) (a : number.Answer ℕ) → Numbered a → R (count_x_at at bytes s a)
  x-numbered at bytes s (number.given m) h = tt
  x-numbered at bytes s (number.refused k) h = h

  y-numbered : (at bytes : ℕ) (s : Reached) (a : number.Answer ℕ) → Numbered a → R (count_y_at at bytes s a)
  y-numbered at bytes s (number.given m) h = tt
  y-numbered at bytes s (number.refused k) h = h

  standing-numbered : (kind at : ℕ) (s : Reached) (r : Role) → R (standing g n image kind at s r)
  standing-numbered kind at s Values = tt
  standing-numbered kind at s PointsX = tt
  standing-numbered kind at s PointsY = tt
  standing-numbered kind at s CountX = x-numbered at (shape_of kind).bytes s (count_at image g kind at n.x.most) (at-numbered kind at n.x.most)
  standing-numbered kind at s CountY = y-numbered at (shape_of kind).bytes s (count_at image g kind at n.y.most) (at-numbered kind at n.y.most)

  one-numbered : (s : Reached) (p : Part) → R (place_one g n image s p)
  unfolding place_one
  one-numbered s p = standing-numbered p.entry.kind (start_of (alignment g.aligns (shape_of p.entry.kind)) s) s p.role

  step-numbered : (a : number.Answer Reached) → R a → (p : Part) → R (step g n image a p)
  step-numbered (number.given s) h p = by-test R p.entry.present (λ t. one-numbered s p) (λ t. tt)
  step-numbered (number.refused k) h p = h

  all-numbered : (ps : List Part) (a : number.Answer Reached) → R a → R (all_placed g n image a ps)
  unfolding all_placed
  all-numbered [] a h = h
  all-numbered (p ∷ ps) a h = all-numbered ps (step g n image a p) (step-numbered a h p)

  placement-numbered : (l : Layout) → R (placement g n image l)
  unfolding placement
  placement-numbered l =
      by-test R (sound_layout n l) (λ t. by-test R (within n.x && within n.y) (λ u. all-numbered (in_order (parts l)) (number.given (start g n)) tt) (λ u. omega arith)) (λ t. omega arith)

  weighed-numbered : (l : Layout) (used : ℕ) (p : Places) → Numbered (weighed image g.base n l used p)
  unfolding weighed
  weighed-numbered l used p =
      by-test (λ (a : number.Answer Standing). Numbered a) (leb (used + elements_stored n p) most_elements)
      (λ t. by-test (λ (a : number.Answer Standing). Numbered a) (all_inside image g.base n l p) (λ u. tt) (λ u. omega arith)) (λ t. omega arith)

  after-numbered : (l : Layout) (used : ℕ) (a : number.Answer Reached) → R a → Numbered (after image g n l used a)
  after-numbered l used (number.given s) h = weighed-numbered l used s.places
  after-numbered l used (number.refused k) h = h

  judged-numbered : (l : Layout) (used : ℕ) → Numbered (judged_object image g n l used)
  unfolding judged_object
  judged-numbered l used = after-numbered l used (placement g n image l) (placement-numbered l)

-- ---- the stages after the text, whose refusals stand at a name
answered-with : {A B : Type 0} (n : ℕ) (a : Answer A) (f : A → Answer B) → Answered n a → ((v : A) → a ≡ given v → Answered n (f v)) → Answered n (with a f)
answered-with n (given v) f h g = g v refl
answered-with n (refused k p) f h g = h

module _ (image : List ℕ) (base : ℕ) (x : List ℕ) (d : List (List (List ℕ))) (r : read x ≡ given d) where
  abbrev N : ℕ
  N = length x

  method-place : (i : ℕ) → slot d method i 0 ≤ N
  method-place i = let t = text-inside method 0 method-name x d r i in omega (arith, t.0, t.1)

  object-place : (i : ℕ) → slot d object i 0 ≤ N
  object-place i = let t = text-inside object 0 object-name x d r i in omega (arith, t.0, t.1)

  refers-told : Answered N (referred x (view d))
  unfolding referred
  refers-told = by-test (λ (a : Answer (Unit {0})). Answered N a) (ltb (least_in x (view d) reference_rows) N) (λ t. let l = ltb-true (least_in x (view d) reference_rows) N t in omega arith) (λ t. tt)

  converts-from : (f i : ℕ) → Answered N (converts_from f (view d) i)
  unfolding converts_from
  converts-from zero i = tt
  converts-from (suc f) i = by-test (λ (a : Answer (Unit {0})). Answered N a) (is_given (coefficients (view d) i)) (λ t. converts-from f (suc i)) (λ t. omega (arith, method-place i))

  object-numbered : (i used : ℕ) → Numbered (judge_object image base x (view d) i used)
  unfolding judge_object
  object-numbered i used =
      by-test (λ (a : number.Answer Standing). Numbered a) (mask_fits x (view d) i)
      (λ t. judged-numbered (ground_of x (view d) base i) (need_of image base x (view d) i) image (layout_of x (view d) i) used) (λ t. omega arith)

  at_name : (p : ℕ) → p ≤ N → (a : number.Answer Standing) → Numbered a → Answered N (total_or p a)
  at_name p h (number.given s) q = tt
  at_name p h (number.refused k) q = (q, h)

  turn-told : (seen : List ℕ) (i used : ℕ) → Answered N (turn image base x (view d) seen i used)
  unfolding turn
  turn-told seen i used =
      by-test (λ (a : Answer ℕ). Answered N a) (eqb (get_or seen i 0) 0)
      (λ t. at_name (slot d object i own_name) (object-place i) (judge_object image base x (view d) i used) (object-numbered i used)) (λ t. tt)

  each-told : (is seen : List ℕ) (used : ℕ) → Answered N (judge_each image base x (view d) seen is used)
  unfolding judge_each
  each-told [] seen used = tt
  each-told (i ∷ is) seen used =
      answered-with N (turn image base x (view d) seen i used) (judge_each image base x (view d) (marked seen i) is) (turn-told seen i used) (λ u e. each-told is (marked seen i) u)

  objects-told : Answered N (judge_all image base x (view d))
  unfolding judge_all
  objects-told = each-told (turns_from (count d object) x (view d) 0) (replicate most_objects 0) 0

-- ---- the load
pub described-told : (image : List ℕ) (setting : Setting) (x : List ℕ) → Answered (length x) (described image setting x)
unfolding described
described-told image setting x =
    answered-with (length x) (read x) _ (read_told_lem x) λ d r.
    answered-with (length x) (referred x (view d)) _ (refers-told image setting.base x d r) λ u s.
    answered-with (length x) (converts (view d)) _ (converts-from image setting.base x d r (count d method) 0) λ w t.
    answered-with (length x) (judge_all image setting.base x (view d)) _ (objects-told image setting.base x d r) (λ n j. tt)

module _ (x image : List ℕ) (setting : Setting) (tables work : List ℕ) where
  abbrev enough : Bool
  enough = sizes_fit (length x) (length image) setting.base (length tables) && leb (room records.sections) (length work)

  -- what a refusal says, and what it leaves
  abbrev pub Leaves : Loaded → Type 0
  Leaves o = (n p : ℕ) → o.answer ≡ refused n p
      → (Refusal x n p) × ((((n ≡ 20) ⊎ (n ≡ 33)) × (o.tables ≡ tables) × (o.work ≡ work)) ⊎ ((n ≤ 13) × (o.tables ≡ replicate (length tables) 0) × (o.work ≡ replicate (length work) 0)))

  untouched-leaves : (k : ℕ) → Refusal x k 0 → (k ≡ 20) ⊎ (k ≡ 33) → Leaves (untouched k tables work)
  untouched-leaves k r o n p e =
      let a : k ≡ n = cc in
      let b : 0 ≡ p = cc in
      (subst (λ m. Refusal x m p) a (subst (λ q. Refusal x k q) b r), inl (subst (λ m. (m ≡ 20) ⊎ (m ≡ 33)) a o, refl, refl))

  left-leaves : (a : Answer (List (List (List ℕ)))) → Answered (length x) a → Leaves (left (length tables) (length work) a)
  left-leaves (given D) h n p e = let z : ◌≡◌ {A = ℕ} 0 1 = cc in absurd (omega arith)
  left-leaves (refused k q) h n p e =
      let a : k ≡ n = cc in
      let b : q ≡ p = cc in
      let l : 1 ≤ n = omega (arith, h.0.0) in
      let m : n ≤ 13 = omega (arith, h.0.1) in
      let i : p ≤ length x = omega (arith, h.1) in
      (in-text l m i, inr (m, refl, refl))

  all-leave : Leaves (loaded x image setting tables work)
  unfolding loaded
  all-leave =
      by-test Leaves enough
      (λ t. by-test Leaves (is_edition setting.edition) (λ v. left-leaves (described image setting x) (described-told image setting x)) (λ v. untouched-leaves 33 edition (inr refl)))
      (λ t. untouched-leaves 20 lent (inl refl))

  -- a load's refusal is one of document 01's list, at a place in the text or at its end
  pub refusal-listed : (n p : ℕ) → (loaded x image setting tables work).answer ≡ refused n p → Refusal x n p
  refusal-listed n p e = (all-leave n p e).0

  -- "20 leaves tables untouched, other load refusals leave them zero", and 33 leaves them untouched
  pub refusal-leaves : (n p : ℕ) → (loaded x image setting tables work).answer ≡ refused n p
      → (((n ≡ 20) ⊎ (n ≡ 33)) × ((loaded x image setting tables work).tables ≡ tables) × ((loaded x image setting tables work).work ≡ work))
      ⊎ ((n ≤ 13) × ((loaded x image setting tables work).tables ≡ replicate (length tables) 0) × ((loaded x image setting tables work).work ≡ replicate (length work) 0))
  refusal-leaves n p e = (all-leave n p e).1
