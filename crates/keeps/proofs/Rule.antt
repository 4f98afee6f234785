-- The tables of every load that was accepted keep the table rule.
--     built-keeps     the tables that are built from the records
--     load-keeps      the same in cells
--     loaded-keeps    what a load leaves in the lent cells
use Prim.Native.Nat.{ℕ, ◌+◌, ◌*◌, ◌^◌, ◌≤◌, ◌<◌}
use mathlib.Core.Path.{◌≡◌, refl, sym, ◌∙◌, ap}
use mathlib.Core.List.{List}
use mathlib.Core.Bool.{true, ◌&&◌}
use native.Mathlib.Omega.{arith}
use borrow.Author.Tests.{le-leb, leb-true, eq-eqb}
use lib.Dec.{leb}
use lib.ListN.{length}
use Rattle.text.specs.Answer.{Answer, given, refused}
use Rattle.text.proofs.Within.{by-test, and_left, and_right}
use Rattle.number.specs.Most.{most_elements}
use Rattle.records.specs.Records.{count}
use Rattle.records.specs.Cells.{room, encode}
use Rattle.rows.specs.Sections as records
use Rattle.grammar.specs.Move.{view}
use Rattle.grammar.specs.Read.{read}
use Rattle.refer.specs.Refer.{referred}
use Rattle.methods.specs.Methods.{converts}
use Rattle.place.specs.Judge as place
use Rattle.objects.specs.Object.{elements_of}
use Rattle.objects.specs.Stage.{judge_all}
use Rattle.objects.proofs.Shares.{share}
use Rattle.objects.proofs.Each.{Stands, judge-all-each}
use Rattle.objects.proofs.Totals.{total-is, total-most}
use Rattle.facts.specs.Facts.{Kept}
use Rattle.facts.proofs.Keeps.{read_keeps}
use Rattle.tree.specs.Points.{Pointed}
use Rattle.tree.proofs.Points.{read-pointed}
use Rattle.convert.specs.Edition.{is_edition}
use Rattle.tables.specs.declared.setting.Setting.{Setting}
use Rattle.tables.specs.Form.{table_sections, head_section, object_section, group_section, Tables, tables_of, total}
use Rattle.number.specs.Below.{sum_below, all_below}
use Rattle.tables.specs.Group.{elements}
use Rattle.tables.specs.Rule.{object_rule, group_rule, method_rule, table_rule, entry_rule, head_rule, ruled, keeps_rule}
use Rattle.tables.proofs.All.{all_of}
use Rattle.tables.proofs.Cells.{encode-keeps}
use Rattle.build.specs.Build.{built}
use Rattle.build.proofs.BuiltLaws.{Within, within_of, built-good, count_head, count-objects, count-groups, count-methods, count-tables, count_entries, slot-head}
use Rattle.tables.specs.Sizes.{sizes_fit}
use Rattle.load.specs.Load.{described, Loaded, left, untouched, loaded}
use Rattle.keeps.proofs.Bits.{and, all-threes, sum-threes}
use Rattle.keeps.proofs.Stood.{Stood, share-stood}
use Rattle.keeps.proofs.Counts.{Shares, shares, some-points}
use Rattle.keeps.proofs.Rows.{method-keeps, table-keeps, entry-keeps}
use Rattle.keeps.proofs.Groups.{Pointing, x-ruling, y-ruling, values-ruling}
use Rattle.keeps.proofs.Objects.{object-keeps}
use Rattle.keeps.proofs.Exactly.{stages, Drawn, drawn}

module _ (image : List ℕ) (setting : Setting) (x : List ℕ) (d : List (List (List ℕ))) (n : ℕ) (k : Kept x d) (j : judge_all image setting.base x (view d) ≡ given n) where
  abbrev T : Tables
  T = tables_of (built image setting x (view d) n)

  w : Within (view d)
  w = within_of d k.good

  -- every object stood
  pub stood : (i : ℕ) → i < count d records.object → Stood image setting.base x (view d) i
  stood i l =
      let s : Stands image setting.base x (view d) i = judge-all-each image setting.base x (view d) n j i l in
      share-stood image setting.base x (view d) i s.used s.standing (share image setting.base x (view d) i s.used s.standing s.is)

  -- where each AXIS_PTS_REF leads to an AXIS_PTS, each has a point in x and in y
  module _ (p : Pointed d) (f : Shares x d) where
    pointing : (i : ℕ) (l : i < count d records.object) → Pointing image setting x d n k i l (stood i l)
    pointing i l = some-points image setting.base x d k p f stood i l

    groups-keep : all_below (T.counts group_section) (λ g. group_rule T g (length image)) ≡ true
    groups-keep = rw (count-groups image setting x (view d) n w) (all-threes (count d records.object) (λ g. group_rule T g (length image)) each) where
      each : (i : ℕ) → i < count d records.object → (group_rule T (i * 3) (length image) ≡ true) × (group_rule T (i * 3 + 1) (length image) ≡ true) × (group_rule T (i * 3 + 2) (length image) ≡ true)
      each i l = ((x-ruling image setting x d n k i l (stood i l) (pointing i l)).keeps, (y-ruling image setting x d n k i l (stood i l) (pointing i l)).keeps, (values-ruling image setting x d n k i l (stood i l) (pointing i l)).keeps)

    -- an object's elements are those of its three groups
    three-are : (i : ℕ) → i < count d records.object → elements_of image setting.base x (view d) i ≡ elements T (i * 3) + elements T (i * 3 + 1) + elements T (i * 3 + 2)
    unfolding elements_of place.elements_stored
    three-are i l =
        rw ((x-ruling image setting x d n k i l (stood i l) (pointing i l)).many_is, (y-ruling image setting x d n k i l (stood i l) (pointing i l)).many_is, (values-ruling image setting x d n k i l (stood i l) (pointing i l)).many_is)

    total-sum : n ≡ sum_below (count d records.object * 3) (elements T)
    total-sum = total-is image setting.base x (view d) w.objects n j ∙ sum-threes (count d records.object) (elements T) (elements_of image setting.base x (view d)) three-are

    head-keeps : is_edition setting.edition ≡ true → head_rule T ≡ true
    unfolding head_rule
    head-keeps v =
        let e = slot-head image setting x (view d) n w in
        let c : sum_below (T.counts group_section) (elements T) ≡ n = ap (λ m. sum_below m (elements T)) (count-groups image setting x (view d) n w) ∙ sym total-sum in
        let o : T.counts group_section ≡ T.counts object_section * 3 = count-groups image setting x (view d) n w ∙ ap (λ m. m * 3) (sym (count-objects image setting x (view d) n w)) in
        and (and (and (and (and (eq-eqb (T.counts head_section) 1 (count_head image setting x (view d) n w)) (rw (e 0) v)) (eq-eqb (T.slots head_section 0 1) 0 (e 1)))
        (eq-eqb (total T) (sum_below (T.counts group_section) (elements T)) (e 2 ∙ sym c))) (le-leb (total T) most_elements (omega (arith, e 2, total-most image setting.base x (view d) w.objects n j)))) (eq-eqb (T.counts group_section) (T.counts object_section * 3) o)

    kept-ruled : is_edition setting.edition ≡ true → converts (view d) ≡ given tt → ruled T (length x) (length image) ≡ true
    unfolding ruled
    kept-ruled v c =
        and (and (and (and (and (head-keeps v)
        (rw (count-objects image setting x (view d) n w) (all_of (count d records.object) (object_rule T (length x)) (λ i l. object-keeps image setting x d n k i l (stood i l) (pointing i l))))) groups-keep)
        (rw (count-methods image setting x (view d) n w) (all_of (count d records.method) (method_rule T) (method-keeps image setting x d n k c))))
        (rw (count-tables image setting x (view d) n w) (all_of (count d records.table) (table_rule T (length x)) (table-keeps image setting x d n k))))
        (rw (count_entries image setting x (view d) n w) (all_of (count d records.entry) (entry_rule T (length x)) (entry-keeps image setting x d n k)))

-- the tables that are built from the records of an accepted description
pub built-keeps : (image x : List ℕ) (setting : Setting) (n : ℕ) (d : List (List (List ℕ))) → is_edition setting.edition ≡ true → read x ≡ given d → referred x (view d) ≡ given tt → converts (view d) ≡ given tt → judge_all image setting.base x (view d) ≡ given n
    → ruled (tables_of (built image setting x (view d) n)) (length x) (length image) ≡ true
built-keeps image x setting n d v r q c j =
    kept-ruled image setting x d n (read_keeps x d r) j (read-pointed x d r) (shares image setting.base x d (stages image setting.base x d r q c n j)) v c

-- the same in so many cells
pub load-keeps : (image : List ℕ) (setting : Setting) (x : List ℕ) (D : List (List (List ℕ))) → is_edition setting.edition ≡ true → described image setting x ≡ given D → (cells : ℕ) → room table_sections ≤ cells
    → keeps_rule (length x) (length image) (encode table_sections cells D) ≡ true
load-keeps image setting x D v h cells l =
    let s : Drawn image setting x D = drawn image setting x D h in
    let k : Kept x s.records = read_keeps x s.records s.is_read in
    rw s.is_built
    (encode-keeps (length x) (length image) cells (built image setting x (view s.records) s.elements)
    (built-good image setting x (view s.records) s.elements (within_of s.records k.good)) l
    (built-keeps image x setting s.elements s.records v s.is_read s.refers s.converts_are s.judged))

-- what a load that was accepted leaves in the lent tables keeps the table rule
module _ (x image : List ℕ) (setting : Setting) (lent work : List ℕ) where
  abbrev Rules : Loaded → Type 0
  Rules r = r.answer ≡ given tt → keeps_rule (length x) (length image) r.tables ≡ true

  left-keeps : is_edition setting.edition ≡ true → room table_sections ≤ length lent → (a : Answer (List (List (List ℕ)))) → described image setting x ≡ a → Rules (left (length lent) (length work) a)
  left-keeps v l (given D) e h = load-keeps image setting x D v e (length lent) l
  left-keeps v l (refused k p) e h = let z : ◌≡◌ {A = ℕ} 0 1 = cc in absurd (omega arith)

  room_enough : (sizes_fit (length x) (length image) setting.base (length lent) && leb (room records.sections) (length work)) ≡ true → room table_sections ≤ length lent
  unfolding sizes_fit
  room_enough h =
      leb-true (room table_sections) (length lent)
      (and_right (leb (length x) (2 ^ 24) && leb (length image) (2 ^ 20) && leb (setting.base + length image) (2 ^ 32)) (leb (room table_sections) (length lent))
      (and_left (sizes_fit (length x) (length image) setting.base (length lent)) (leb (room records.sections) (length work)) h))

  untouched-keeps : (k : ℕ) → Rules (untouched k lent work)
  untouched-keeps k h = let z : ◌≡◌ {A = ℕ} 0 1 = cc in absurd (omega arith)

  pub loaded-keeps : (loaded x image setting lent work).answer ≡ given tt → keeps_rule (length x) (length image) (loaded x image setting lent work).tables ≡ true
  unfolding loaded
  loaded-keeps =
      by-test Rules (sizes_fit (length x) (length image) setting.base (length lent) && leb (room records.sections) (length work))
      (λ t. by-test Rules (is_edition setting.edition) (λ v. left-keeps v (room_enough t) (described image setting x) refl) (λ v. untouched-keeps 33)) (λ t. untouched-keeps 20)
