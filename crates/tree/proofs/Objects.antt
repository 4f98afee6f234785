-- What holds of objects and of how many axes there are, in every description that was read: by the tree, keyword after keyword.
use Prim.Native.Nat.{ℕ, zero, suc, ◌+◌, ◌*◌, ◌-◌, ◌≤◌, ◌<◌}
use mathlib.Core.Path.{◌≡◌, refl, sym, ◌∙◌, ap}
use mathlib.Core.List.{List, [], ◌∷◌}
use mathlib.Core.Bool.{true, false, false≢true}
use mathlib.Core.Logic.{◌⊎◌, inl, inr}
use native.Mathlib.Omega.{arith}
use borrow.Author.Tests.{eqb-true, eq-eqb, not-true}
use lib.Dec.{eqb}
use lib.ListN.{get_or, get_or-eq_default}
use Rattle.text.specs.Answer.{given}
use Rattle.text.proofs.Within.{by-test, or_case}
use Rattle.number.specs.Most.{most_objects}
use Rattle.records.specs.Records.{records_of, count, slot}
use Rattle.records.proofs.Encode.{Good, fit-few}
use Rattle.rows.specs.Codes.{FILE, AXIS-PTS, CHARACTERISTIC, AXIS-DESCR, VAL-BLK, CURVE, MAP}
use Rattle.rows.specs.Sections.{sections, object, axis}
use Rattle.rows.specs.Slots.{first_held, block_code, object_type, object_max_points, number_seen, axis_descr_seen}
use Rattle.rows.specs.Row.{Row, need}
use Rattle.rows.specs.Rows.{needed, keeps}
use Rattle.grammar.specs.Move.{applied}
use Rattle.grammar.specs.Parameter.{new_record}
use Rattle.grammar.specs.Keyword.{axes_of, holder_of}
use Rattle.grammar.specs.Read.{start, read}
use Rattle.grammar.specs.declared.state.Act.{Act}
use Rattle.facts.proofs.Slots.{written-slot, same_count, one-record, start-slot}
use Rattle.facts.proofs.Tests.{every, implied}
use Rattle.tree.specs.Tree.{Records, Among, current, written, kept, limit, counted, Met}
use Rattle.tree.proofs.Shapes.{every-among}
use Rattle.tree.proofs.Leaves.{untouched, holds, rest, Left, Named, filled-left, filled-named, counted_none}
use Rattle.tree.proofs.InSection.{grows, leaves, fills, Turned, by_last}
use Rattle.tree.proofs.Along.{Step, read-along}
use Rattle.tree.proofs.SlotLaws.{objects, axes, step-turned, ButLast, last_step, last-alike, last_end}
use Rattle.tree.proofs.RowKinds.{Facts, in_object, end_slots, own_slots, named_tests, axis_tests, Kind, is_other, is_new, is_axis, kind-of}

-- ---- what holds between keywords, whatever block is open

pub record Sound (d : Records) : Type 0 where
  pub points : (i : ℕ) → slot d object i block_code ≡ AXIS-PTS → 1 ≤ slot d object i object_max_points
  -- an object's axes are among those that were read; each object has at most two
  pub spans : (i : ℕ) → slot d object i first_held + slot d object i axis_descr_seen ≤ count d axis
  pub few : (i : ℕ) → slot d object i axis_descr_seen ≤ 2
  pub room : count d axis ≤ 2 * (count d object - 1) + slot d object (count d object - 1) axis_descr_seen

-- what an object needs by the end of its block
abbrev pub Whole : Records → ℕ → Type 0
Whole d i = slot d object i block_code ≡ CHARACTERISTIC → (slot d object i object_type ≡ VAL-BLK → 1 ≤ slot d object i number_seen) × (axes_of (slot d object i object_type) ≤ slot d object i axis_descr_seen)

whole-alike : (d d' : Records) (i : ℕ) → ((n : ℕ) → Among n end_slots → slot d' object i n ≡ slot d object i n) → Whole d i → Whole d' i
whole-alike d d' i e h = rw (e block_code (inl refl), e object_type (inr (inl refl)), e number_seen (inr (inr (inl refl))), e axis_descr_seen (inr (inr (inr (inl refl))))) h

-- past the last record there are zeros
past-slot : (d : Records) (j i k : ℕ) → count d j ≤ i → slot d j i k ≡ 0
past-slot d j i k h = ap (λ (r : List ℕ). get_or r k 0) (get_or-eq_default (records_of d j) [] h)

axes-most : (n : ℕ) → axes_of n ≤ 2
axes-most n = by-test (λ (m : ℕ). m ≤ 2) (eqb n MAP) (λ t. omega arith) (λ t. by-test (λ (m : ℕ). m ≤ 2) (eqb n CURVE) (λ u. omega arith) (λ u. omega arith))

axes-none : axes_of 0 ≡ 0
axes-none = refl

-- how many axes the last object has
abbrev seen : Records → ℕ
seen d = current d object axis_descr_seen

-- one axis more, which is counted
abbrev adding : Records → Act
adding d = record { adds = axis; sec = object; slot = axis_descr_seen; many = 1; a = seen d + 1; b = 0; c = 0; d = 0 }

module _ (r : Row) (d d' : Records) (o : Turned object r d d') (a : Turned axis r d d') (s : Sound d) where
  -- ---- a keyword that makes neither an object nor an axis

  module _ (t : every (leaves object r) own_slots ≡ true) where
    own_same : (i n : ℕ) → Among n own_slots → slot d' object i n ≡ slot d object i n
    own_same i n m = o.same i n (λ e. every-among (leaves object r) own_slots t n m)

    held_same : (i : ℕ) → slot d' object i first_held ≡ slot d object i first_held
    held_same i = own_same i first_held (inl refl)

    points-same : (i : ℕ) → slot d' object i block_code ≡ AXIS-PTS → 1 ≤ slot d' object i object_max_points
    points-same i = rw (own_same i block_code (inr (inl refl)), own_same i object_max_points (inr (inr (inl refl)))) (s.points i)

    other-sound : grows object r ≡ false → grows axis r ≡ false → leaves object r axis_descr_seen ≡ true → Sound d'
    other-sound p q u = record {
      points = points-same;
      spans = λ i. rw (held_same i, seen_same i, a.still q) (s.spans i);
      few = λ i. rw (seen_same i) (s.few i);
      room = rw (o.still p, a.still q, seen_same (count d object - 1)) s.room;
    } where
      seen_same : (i : ℕ) → slot d' object i axis_descr_seen ≡ slot d object i axis_descr_seen
      seen_same i = o.same i axis_descr_seen (λ e. u)

  -- ---- an object's block

  module _ (g : Good sections d) (b : ℕ) (n : Named b object r.params d d') (c : holds r.params ≡ axis) where
    abbrev begun : Act
    begun = new_record object 4 n.from n.past (count d (holds r.params)) b

    one_more_lem : count d' object ≡ suc (count d object)
    one_more_lem = n.left.counts object ∙ one-record begun d g n.room

    -- what the new record begins with
    new-slot : (i m : ℕ) → suc i ≡ count d' object → m < 4 → untouched (rest r.params) m ≡ true → slot d' object i m ≡ get_or (n.from ∷ n.past ∷ count d (holds r.params) ∷ b ∷ []) m 0
    unfolding sections
    new-slot i m e l t =
        let z : 0 + m ≡ m = omega arith in
        n.left.same object i m (λ p q. t) ∙ (rw z at (written-slot begun d i m g (e ∙ n.left.counts object) (omega arith) (omega arith)))

    named-sound : untouched (rest r.params) first_held ≡ true → untouched (rest r.params) block_code ≡ true → (b ≡ AXIS-PTS → fills object r object_max_points ≡ true) → grows axis r ≡ false
        → leaves object r axis_descr_seen ≡ true → Sound d'
    unfolding sections
    named-sound t u f q v = record {
      points = λ i. by_last d' object (λ (m : ℕ). slot d' object m block_code ≡ AXIS-PTS → 1 ≤ slot d' object m object_max_points) i
          (λ e p. o.filled i object_max_points e (omega arith) (f (sym (new-slot i block_code e (omega arith) u) ∙ p)))
          (λ e. rw (before i block_code e, before i object_max_points e) (s.points i));
      spans = λ i. by_last d' object (λ (m : ℕ). slot d' object m first_held + slot d' object m axis_descr_seen ≤ count d' axis) i
          (λ e. omega (arith, new-slot i first_held e (omega arith) t, ap (count d) c, none_seen i e, a.still q))
          (λ e. rw (before i first_held e, before i axis_descr_seen e, a.still q) (s.spans i));
      few = λ i. by_last d' object (λ (m : ℕ). slot d' object m axis_descr_seen ≤ 2) i (λ e. omega (arith, none_seen i e)) (λ e. rw (before i axis_descr_seen e) (s.few i));
      room = spare (count d object) refl;
    } where
      before : (i m : ℕ) → (suc i ≡ count d' object → ⊥) → slot d' object i m ≡ slot d object i m
      before i m h = o.same i m (λ e. absurd (h e))

      none_seen : (i : ℕ) → suc i ≡ count d' object → slot d' object i axis_descr_seen ≡ 0
      none_seen i e = o.same i axis_descr_seen (λ p. v) ∙ past-slot d object i axis_descr_seen (omega (arith, one_more_lem))

      -- each object before it has at most two axes
      spare : (m : ℕ) → count d object ≡ m → count d' axis ≤ 2 * (count d' object - 1) + slot d' object (count d' object - 1) axis_descr_seen
      spare zero e =
          let z : slot d object (count d object - 1) axis_descr_seen ≡ 0 = past-slot d object (count d object - 1) axis_descr_seen (omega arith) in
          omega (arith, a.still q, s.room)
      spare (suc m) e = omega (arith, a.still q, one_more_lem, s.room, s.few (count d object - 1))

    -- it is no CHARACTERISTIC, or may still lack something
    named-whole : untouched (rest r.params) block_code ≡ true → (i : ℕ) → (in_object b ≡ true → suc i ≡ count d' object → ⊥) → Whole d i → Whole d' i
    named-whole u i h w =
        by_last d' object (Whole d') i (λ e q. absurd (h (rw (sym (new-slot i block_code e (omega arith) u) ∙ q)) e)) (λ e. whole-alike d d' i (λ m p. o.same i m (λ z. absurd (e z))) w)

  -- ---- an axis's block

  module _ (g : Good sections d) (l : Left r.params axis (applied (adding d) d) d') (w : seen d < axes_of (current d object object_type)) where
    -- there is an object, and room for its axis
    some : 1 ≤ count d object
    some = turn (count d object) refl where
      turn : (m : ℕ) → count d object ≡ m → 1 ≤ m
      turn (suc m) e = omega arith
      turn zero e =
          let z : current d object object_type ≡ 0 = past-slot d object (count d object - 1) object_type (omega arith) in
          absurd (omega (arith, axes-none, ap axes_of z))

    axes-more : count d' axis ≡ suc (count d axis)
    unfolding sections
    axes-more =
        let f : count d object ≤ most_objects = fit-few sections d object g in
        l.counts axis ∙ one-record (adding d) d g (omega (arith, s.room, axes-most (current d object object_type)))

    objects-as : count d' object ≡ count d object
    objects-as = l.counts object ∙ same_count (adding d) d object (λ e. absurd (omega arith))

    seen_more : (i : ℕ) → suc i ≡ count d' object → slot d' object i axis_descr_seen ≡ seen d + 1
    unfolding sections
    seen_more i e = l.same object i axis_descr_seen (λ p. absurd (omega arith)) ∙ written-slot (adding d) d i 0 g (e ∙ l.counts object) (omega arith) (omega arith)

    axis-sound : every (leaves object r) own_slots ≡ true → Sound d'
    axis-sound t = record {
      points = points-same t;
      spans = λ i. by_last d' object (λ (m : ℕ). slot d' object m first_held + slot d' object m axis_descr_seen ≤ count d' axis) i
          (λ e. omega (arith, held_same t i, seen_more i e, seen-is i e, axes-more, s.spans i))
          (λ e. omega (arith, held_same t i, before i e, axes-more, s.spans i));
      few = λ i. by_last d' object (λ (m : ℕ). slot d' object m axis_descr_seen ≤ 2) i (λ e. omega (arith, seen_more i e, axes-most (current d object object_type))) (λ e. rw (before i e) (s.few i));
      room = omega (arith, axes-more, objects-as, s.room, some, seen_more (count d' object - 1) (omega (arith, objects-as, some)));
    } where
      before : (i : ℕ) → (suc i ≡ count d' object → ⊥) → slot d' object i axis_descr_seen ≡ slot d object i axis_descr_seen
      before i h = o.same i axis_descr_seen (λ e. absurd (h e))

      seen-is : (i : ℕ) → suc i ≡ count d' object → slot d object i axis_descr_seen ≡ seen d
      seen-is i e = ap (λ (m : ℕ). slot d object m axis_descr_seen) (let z : i ≡ count d object - 1 = omega (arith, objects-as) in z)

-- ---- a keyword with its parameters

-- what holds in the block b
abbrev Holds : ℕ → Records → Type 0
Holds b d = Sound d × ButLast in_object object Whole b d

-- the keyword that adds an axis
axis-counted : (d : Records) (r : Row) → r.adds ≡ axis → r.sec ≡ object → r.once ≡ axis_descr_seen → counted r d ≡ applied (adding d) d
unfolding counted kept written applied
axis-counted d r a j n = rw (a, j, n)

module _ (x : List ℕ) (b c : ℕ) (r : Row) (k : ℕ) (d : Records) (k' : ℕ) (d' : Records) (s : Step x b c r k d k' d') (h : Holds b d) where
  o : Turned object r d d'
  o = step-turned x object objects b c r k d k' d' s

  a : Turned axis r d d'
  a = step-turned x axis axes b c r k d k' d' s

  by-new : Facts (named_tests r) → Holds c d'
  by-new f =
      let u : counted r d ≡ d = counted_none d r (f 1) (f 3) in
      let e : keeps r ≡ object = rw (f 1) (eqb-true r.sec object (f 2)) in
      let n : Named c object r.params d d' = rw (e, u) at (filled-named x c (keeps r) s.stands.filled s.lies (f 4)) in
      let v : holds r.params ≡ axis = eqb-true (holds r.params) axis (f 5) in (
        named-sound r d d' o a h.0 s.good c n v (f 6) (f 7) points (not-true (grows axis r) (f 9)) (f 10),
        last_step x in_object object objects Whole b c r k d k' d' s (f 0) (named-whole r d d' o a h.0 s.good c n v (f 7)) h.1,
      ) where
        points : c ≡ AXIS-PTS → fills object r object_max_points ≡ true
        points e = implied (eqb r.word AXIS-PTS) (fills object r object_max_points) (f 8) (eq-eqb r.word AXIS-PTS (sym (s.enters (f 11)).1 ∙ e))

  by-axis : Facts (axis_tests r) → Holds c d'
  by-axis f =
      let u : r.adds ≡ axis = eqb-true r.adds axis (f 3) in
      let j : r.sec ≡ object = eqb-true r.sec object (f 4) in
      let n : r.once ≡ axis_descr_seen = eqb-true r.once axis_descr_seen (f 5) in
      let e : keeps r ≡ axis = rw u in
      let l : Left r.params axis (counted r d) d' = rw e at (filled-left x c (keeps r) s.stands.filled s.lies (f 6)) in (
        axis-sound r d d' o a h.0 s.good (rw (axis-counted d r u j n) at l) (seldom u j n s.stands.free.seldom) (f 2),
        last-alike x in_object object objects Whole b c r k d k' d' s end_slots (whole-alike d d') (f 0) (f 1) h.1,
      ) where
        seldom : r.adds ≡ axis → r.sec ≡ object → r.once ≡ axis_descr_seen → (r.once ≡ 0) ⊎ (current d r.sec r.once < limit d r) → seen d < axes_of (current d object object_type)
        seldom u j n (inl z) = absurd (omega arith)
        seldom u j n (inr z) = rw (u, j, n) at z

  step-holds : Holds c d'
  step-holds = by_kind (kind-of r s.stands.listed) where
    by_kind : Kind r → Holds c d'
    by_kind (is_other f) = (
      other-sound r d d' o a h.0 (f 2) (not-true (grows object r) (f 3)) (not-true (grows axis r) (f 4)) (f 5),
      last-alike x in_object object objects Whole b c r k d k' d' s end_slots (whole-alike d d') (f 0) (f 1) h.1,
    )
    by_kind (is_new f) = by-new f
    by_kind (is_axis f) = by-axis f

-- ---- the end of a block, and the whole text

-- what a CHARACTERISTIC needs is there
whole-met : (d : Records) → Met d CHARACTERISTIC → (i : ℕ) → suc i ≡ count d object → Whole d i
unfolding needed
whole-met d m i e c = (
  λ v. rw (at number_seen) (m (need CHARACTERISTIC object object_type VAL-BLK number_seen 1) (inr (inr (inr (inr (inl refl))))) refl (inr (typed VAL-BLK v))),
  by-test (λ (n : ℕ). n ≤ slot d object i axis_descr_seen) (eqb (slot d object i object_type) MAP)
      (λ t. rw (at axis_descr_seen) (m (need CHARACTERISTIC object object_type MAP axis_descr_seen 2) (inr (inr (inr (inr (inr (inr (inl refl))))))) refl (inr (typed MAP (eqb-true (slot d object i object_type) MAP t)))))
      (λ t. by-test (λ (n : ℕ). n ≤ slot d object i axis_descr_seen) (eqb (slot d object i object_type) CURVE)
      (λ u. rw (at axis_descr_seen) (m (need CHARACTERISTIC object object_type CURVE axis_descr_seen 1) (inr (inr (inr (inr (inr (inl refl)))))) refl (inr (typed CURVE (eqb-true (slot d object i object_type) CURVE u)))))
      (λ u. omega arith)),
) where
  at : (k : ℕ) → slot d object i k ≡ current d object k
  at k = ap (λ (n : ℕ). slot d object n k) (let z : i ≡ count d object - 1 = omega arith in z)

  typed : (n : ℕ) → slot d object i object_type ≡ n → (n ≤ current d object object_type) × (current d object object_type ≤ n)
  typed n v = let z : current d object object_type ≡ n = sym (at object_type) ∙ v in (omega arith, omega arith)

-- an AXIS_DESCR stands in a CHARACTERISTIC, which is still open then
outermost : (b : ℕ) → in_object b ≡ true → in_object (holder_of b) ≡ false → b ≡ CHARACTERISTIC
outermost b t u = by-case (or_case (eqb b CHARACTERISTIC) (eqb b AXIS-DESCR) t) where
  by-case : (eqb b CHARACTERISTIC ≡ true) ⊎ (eqb b AXIS-DESCR ≡ true) → b ≡ CHARACTERISTIC
  by-case (inl e) = eqb-true b CHARACTERISTIC e
  by-case (inr e) = absurd (false≢true (sym (rw (eqb-true b AXIS-DESCR e) at u)))

closes : (b : ℕ) (d : Records) → Met d b → Holds b d → Holds (holder_of b) d
closes b d m h =
    (h.0, last_end in_object object Whole b (holder_of b) d (λ t u i e. whole-met d (rw (outermost b t u) at m) i e) h.1)

start-holds : Holds FILE start
start-holds = (
  record {
    points = λ i e. absurd (omega (arith, start-slot object i block_code));
    spans = λ i. omega (arith, start-slot object i first_held, start-slot object i axis_descr_seen);
    few = λ i. omega (arith, start-slot object i axis_descr_seen);
    room = omega (arith, axes.none);
  },
  λ i h e. absurd (omega (arith, start-slot object i block_code)),
)

pub read-objects : (x : List ℕ) (d : Records) → read x ≡ given d → Sound d × ((i : ℕ) → Whole d i)
read-objects x d r = let h : Holds FILE d = read-along x Holds (step-holds x) closes start-holds d r in (h.0, λ i. h.1 i (λ t. absurd (false≢true t)))
