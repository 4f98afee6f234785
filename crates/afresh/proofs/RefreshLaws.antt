-- The lines worked out afresh: what the loop keeps, and what a turn of it does.
use mathlib.Core.Path.{◌≡◌, refl, sym, ap, ◌∙◌}
use mathlib.Core.List.{List}
use mathlib.Core.Bool.{Bool, true, false, cond, ◌||◌}
use Prim.Native.Nat.{ℕ, zero, suc, ◌+◌, ◌-◌, ◌^◌, ◌≤◌, ◌<◌, min}
use native.Mathlib.Omega.{arith}
use native.Mathlib.Numerals.{add-one}
use native.Mathlib.Nat.{add-zero}
use borrow.Author.Rules.{rules}
use lib.IntN.{ℤ, pos}
use lib.ListN.{length, get_or, set, length-set}
use lib.Seq.{set_out}
use mir.Syntax.{w64}
use mir.Val.{Fits}
use Rattle.cell.specs.Kind.{shape_of}
use Rattle.tables.specs.Form.{tables_in}
use Rattle.number.specs.Below.{sum_below}
use Rattle.tables.specs.Group.{elements, storage_of, place_by}
use Rattle.tables.specs.declared.group.Storage.{Storage}
use Rattle.tables.proofs.GroupLaws.{stored-wide, stored-high}
use Rattle.look.specs.declared.element.Line.{Line}
use Rattle.look.specs.declared.meaning.Meaning.{Meaning}
use Rattle.look.specs.Lines.{laid_over, keep, fresh}
use Rattle.look.specs.Element.{line_of, shares, touched}
use Rattle.look.specs.Calls.{Kept, kept, room, groups, remade, refreshed}
use Rattle.look.specs.Steps.{picked, put_line, put_lines, meaning_of}
use Rattle.afresh.proofs.ApartLaws.{touch-group, passed_is, reached}
use Rattle.afresh.proofs.LineLaws.{sum_more, sum-in, over_none, upto, upto-none, upto_next, upto_all, turn, length_at, line_kept, line-fresh, fresh-all}

-- ---- one column
pub put-past : {A : Type 0} (l : List A) (k : ℕ) (v : A) → length l ≤ k → l ≡ set l k v
put-past l k v h = sym (set_out l k v h)

pub ruleset puts = (put-past, rules)

-- what the machine reads back of a number is the number
pub put_back : (l m : List ℤ) (k : ℕ) (y z : ℤ) → m ≡ set l k y → y ≡ z → m ≡ set l k z
put_back l m k y z p e = p ∙ rw e

-- ---- one line
same_kept : (img : List ℕ) {r r' : List ℤ} {s s' : List ℕ} {a a' b b' : List ℤ} → r ≡ r' → s ≡ s' → a ≡ a' → b ≡ b' → kept img r s a b ≡ kept img r' s' a' b'
same_kept img p q u v = λ i. record { image = img; raw = p i; state = q i; first = u i; second = v i }

module _ (img : List ℕ) (r : List ℤ) (s : List ℕ) (a b : List ℤ) (k : ℕ) (p : Bool) where
  pub left_alone : (l : Line) → p ≡ false → kept img r s a b ≡ put_line p k l (kept img r s a b)
  left_alone l e =
      same_kept img (line_kept p r k l.raw (pos 0) e) (line_kept p s k l.state 0 e) (line_kept p a k l.first (pos 0) e) (line_kept p b k l.second (pos 0) e)

  pub put-afresh : (r' : List ℤ) (s' : List ℕ) (a' b' : List ℤ) (l w : Line) → p ≡ true → w ≡ l
      → (r' ≡ set r k w.raw) × (s' ≡ set s k w.state) × (a' ≡ set a k w.first) × (b' ≡ set b k w.second)
      → kept img r' s' a' b' ≡ put_line p k l (kept img r s a b)
  put-afresh r' s' a' b' l w e f h =
      same_kept img
      (h.0 ∙ line-fresh p r k l.raw w.raw (pos 0) e (ap (λ (z : Line). z.raw) f))
      (h.1 ∙ line-fresh p s k l.state w.state 0 e (ap (λ (z : Line). z.state) f))
      (h.2 ∙ line-fresh p a k l.first w.first (pos 0) e (ap (λ (z : Line). z.first) f))
      (h.3 ∙ line-fresh p b k l.second w.second (pos 0) e (ap (λ (z : Line). z.second) f))

-- by the code's test, whether all lines are picked or this one is: q is what the code says of the bytes, v how its group is stored
module _ (t img : List ℕ) (r : List ℤ) (s : List ℕ) (a b : List ℤ) (lo hi g i k : ℕ) (all q : Bool) (v : Storage) (ev : v ≡ storage_of (tables_in t) g)
    (eq : q ≡ shares lo hi (place_by v i) (shape_of v.kind).bytes) where
  test-is : (x : Bool) → (all || q) ≡ x → picked t lo hi all g i ≡ x
  test-is x h = let e : q ≡ touched (tables_in t) lo hi g i = touch-group t lo hi g i v q ev eq in rw e at h

  pub line-left : (all || q) ≡ false → kept img r s a b ≡ put_line (picked t lo hi all g i) k (line_of (tables_in t) img g i) (kept img r s a b)
  line-left h = left_alone img r s a b k (picked t lo hi all g i) (line_of (tables_in t) img g i) (test-is false h)

  -- x, y, d and e are the line that the code makes by the meaning m
  pub line-afresh : (r' : List ℤ) (s' : List ℕ) (a' b' : List ℤ) (x : ℤ) (y : ℕ) (d e : ℤ) (m : Meaning) → (all || q) ≡ true → m ≡ meaning_of t g
      → r' ≡ set r k x → s' ≡ set s k y → a' ≡ set a k d → b' ≡ set b k e
      → ((h : ℕ) → v ≡ storage_of (tables_in t) h → m ≡ meaning_of t h → record { raw = x; state = y; first = d; second = e } ≡ line_of (tables_in t) img h i)
      → kept img r' s' a' b' ≡ put_line (picked t lo hi all g i) k (line_of (tables_in t) img g i) (kept img r s a b)
  line-afresh r' s' a' b' x y d e m h em pr ps pa pb f =
      put-afresh img r s a b k (picked t lo hi all g i) r' s' a' b' (line_of (tables_in t) img g i) (record { raw = x; state = y; first = d; second = e }) (test-is true h) (f g ev em) (pr, ps, pa, pb)

pub ruleset one_line = (line-left, line-afresh, rules)

-- ---- the lines of a group
module _ (s : ℕ → ℕ → Bool) (t img : List ℕ) (g k : ℕ) where
  pub group-none : (n : ℕ) (c : Kept) → n ≡ 0 → c ≡ put_lines s t img g k n c
  group-none n c e = rw e

  pub group-passed : (n : ℕ) (c : Kept) → ((i : ℕ) → i < n → s g i ≡ false) → c ≡ put_lines s t img g k n c
  group-passed zero c h = refl
  group-passed (suc n) c h =
      left_alone c.image c.raw c.state c.first c.second (k + n) (s g n) (line_of (tables_in t) img g n) (h n (omega arith))
      ∙ ap (put_line (s g n) (k + n) (line_of (tables_in t) img g n)) (group-passed n c (λ i l. h i (omega arith)))

  lines-raw : (i : ℕ) (c : Kept) → length (put_lines s t img g k i c).raw ≡ length c.raw
  lines-raw zero c = refl
  lines-raw (suc i) c =
      let d = put_lines s t img g k i c in
      length-set d.raw (k + i) (cond (s g i) (line_of (tables_in t) img g i).raw (get_or d.raw (k + i) (pos 0))) ∙ lines-raw i c

  lines-state : (i : ℕ) (c : Kept) → length (put_lines s t img g k i c).state ≡ length c.state
  lines-state zero c = refl
  lines-state (suc i) c =
      let d = put_lines s t img g k i c in
      length-set d.state (k + i) (cond (s g i) (line_of (tables_in t) img g i).state (get_or d.state (k + i) 0)) ∙ lines-state i c

  lines-first : (i : ℕ) (c : Kept) → length (put_lines s t img g k i c).first ≡ length c.first
  lines-first zero c = refl
  lines-first (suc i) c =
      let d = put_lines s t img g k i c in
      length-set d.first (k + i) (cond (s g i) (line_of (tables_in t) img g i).first (get_or d.first (k + i) (pos 0))) ∙ lines-first i c

  lines-second : (i : ℕ) (c : Kept) → length (put_lines s t img g k i c).second ≡ length c.second
  lines-second zero c = refl
  lines-second (suc i) c =
      let d = put_lines s t img g k i c in
      length-set d.second (k + i) (cond (s g i) (line_of (tables_in t) img g i).second (get_or d.second (k + i) (pos 0))) ∙ lines-second i c

  -- what the loop over a group's n lines keeps: c is c₀ with the first i of them worked out
  pub record InGroup (n i : ℕ) (c₀ c : Kept) : Type 0 where
    pub ends : k + n < 2 ^ 64
    pub within : i ≤ n
    pub so_far : c ≡ put_lines s t img g k i c₀

  module _ (n i : ℕ) (c₀ c : Kept) (f : InGroup n i c₀ c) where
    pub line-fits : i < n → Fits w64 (k + i)
    line-fits l = record { fits = omega (arith, f.ends) }

    pub index-fits : i < n → Fits w64 (i + 1)
    index-fits l = record { fits = omega (arith, f.ends) }

    -- v and m are how the group is stored and what its numbers mean by
    pub group-turn : (c' : Kept) (v : Storage) (m : Meaning) → i < n → v ≡ storage_of (tables_in t) g → m ≡ meaning_of t g
        → ((h : ℕ) → v ≡ storage_of (tables_in t) h → m ≡ meaning_of t h → c' ≡ put_line (s h i) (k + i) (line_of (tables_in t) img h i) c)
        → InGroup n (i + 1) c₀ c'
    group-turn c' v m l ev em q =
        record { ends = f.ends; within = omega arith; so_far = q g ev em ∙ (let p = f.so_far in rw (p, add-one i)) }

    pub group-end : n ≤ i → c ≡ put_lines s t img g k n c₀
    group-end h = let e : i ≡ n = omega (arith, f.within) in let p = f.so_far in rw e at p

  -- no column has another length
  module _ (n i : ℕ) (im im' : List ℕ) (r r' : List ℤ) (u u' : List ℕ) (a a' b b' : List ℤ) (f : InGroup n i (kept im r u a b) (kept im' r' u' a' b')) where
    pub group-raw : length r' ≡ length r
    group-raw = ap (λ (z : Kept). length z.raw) f.so_far ∙ lines-raw i (kept im r u a b)

    pub group-state : length u' ≡ length u
    group-state = ap (λ (z : Kept). length z.state) f.so_far ∙ lines-state i (kept im r u a b)

    pub group-first : length a' ≡ length a
    group-first = ap (λ (z : Kept). length z.first) f.so_far ∙ lines-first i (kept im r u a b)

    pub group-second : length b' ≡ length b
    group-second = ap (λ (z : Kept). length z.second) f.so_far ∙ lines-second i (kept im r u a b)

-- one turn more leaves less to do
pub turn-less : (n i : ℕ) → i < n → n - (i + 1) < n - i
turn-less n i h = omega arith

pub ruleset group_lines = (stored-wide, stored-high, reached, group-none, group-passed, passed_is, line-fits, index-fits, group-turn, group-end, group-raw, group-state, group-first, group-second, turn-less, rules)

-- ---- the loop: k₀ is what was kept at its start, c what is kept now
module _ (s : ℕ → ℕ → Bool) (t img : List ℕ) (k₀ : Kept) where
  abbrev counts : ℕ → ℕ
  counts = elements (tables_in t)

  abbrev Column : {A : Type 0} → (ℕ → ℕ → A) → A → List A → List A → ℕ → ℕ → Type 0
  Column w d l₀ l g i = l ≡ laid_over (upto (keep s w d l₀) counts g i) l₀

  pub record Refreshing (g i k : ℕ) (c : Kept) : Type 0 where
    pub within : g ≤ groups t
    pub line : k ≡ sum_below g counts + i
    pub index : i ≤ counts g
    pub last : groups t ≤ g → i ≡ 0
    pub raws : Column (λ g i. (line_of (tables_in t) img g i).raw) (pos 0) k₀.raw c.raw g i
    pub states : Column (λ g i. (line_of (tables_in t) img g i).state) 0 k₀.state c.state g i
    pub firsts : Column (λ g i. (line_of (tables_in t) img g i).first) (pos 0) k₀.first c.first g i
    pub seconds : Column (λ g i. (line_of (tables_in t) img g i).second) (pos 0) k₀.second c.second g i

  none : {A : Type 0} (w : ℕ → ℕ → A) (d : A) (l : List A) → Column w d l l 0 0
  none w d l = rw (upto-none (keep s w d l) counts) (over_none l)

  pub refresh-start : Refreshing 0 0 0 k₀
  refresh-start = record {
    within = omega arith;
    line = unfold sum_below in refl;
    index = omega arith;
    last = λ h. refl;
    raws = none _ _ k₀.raw;
    states = none _ _ k₀.state;
    firsts = none _ _ k₀.first;
    seconds = none _ _ k₀.second;
  }

  module _ (g i k : ℕ) (c : Kept) (f : Refreshing g i k c) where
    next : {A : Type 0} (w : ℕ → ℕ → A) (d : A) (l₀ l : List A) → i ≡ counts g → Column w d l₀ l g i → Column w d l₀ l (g + 1) 0
    next {A} w d l₀ l e h = h ∙ ap (λ (z : List A). laid_over z l₀) (upto_next (keep s w d l₀) counts g i e)

    refresh-next : (n m : ℕ) → n ≡ groups t → m ≡ counts g → g < n → m ≤ i → Refreshing (g + 1) 0 k c
    refresh-next n m pn pm lt h =
        let e : i ≡ counts g = omega (arith, f.index) in
        record {
          within = omega arith;
          line = f.line ∙ omega (arith, sum_more counts g);
          index = omega arith;
          last = λ z. refl;
          raws = next _ _ k₀.raw c.raw e f.raws;
          states = next _ _ k₀.state c.state e f.states;
          firsts = next _ _ k₀.first c.first e f.firsts;
          seconds = next _ _ k₀.second c.second e f.seconds;
        }

    module _ (enough : sum_below (groups t) counts ≤ room k₀) where
      line-below : (n m : ℕ) → n ≡ groups t → m ≡ counts g → g < n → i < m → k < room k₀
      line-below n m pn pm lt h = let b : sum_below g counts + counts g ≤ sum_below (groups t) counts = sum-in counts g (groups t) (omega arith) in omega (arith, f.line)

      refresh-turn : (n m : ℕ) (c' : Kept) → n ≡ groups t → m ≡ counts g → g < n → i < m → c' ≡ put_line (s g i) k (line_of (tables_in t) img g i) c → Refreshing g (i + 1) (k + 1) c'
      refresh-turn n m c' pn pm lt h e =
          let b : k < room k₀ = line-below n m pn pm lt h in
          record {
            within = f.within;
            line = omega (arith, f.line);
            index = omega arith;
            last = λ z. absurd (omega arith);
            raws = turn s (λ g i. (line_of (tables_in t) img g i).raw) (pos 0) counts k₀.raw c.raw c'.raw g i k f.line (omega arith) f.raws (ap (λ (z : Kept). z.raw) e);
            states = turn s (λ g i. (line_of (tables_in t) img g i).state) 0 counts k₀.state c.state c'.state g i k f.line (omega arith) f.states (ap (λ (z : Kept). z.state) e);
            firsts = turn s (λ g i. (line_of (tables_in t) img g i).first) (pos 0) counts k₀.first c.first c'.first g i k f.line (omega arith) f.firsts (ap (λ (z : Kept). z.first) e);
            seconds = turn s (λ g i. (line_of (tables_in t) img g i).second) (pos 0) counts k₀.second c.second c'.second g i k f.line (omega arith) f.seconds (ap (λ (z : Kept). z.second) e);
          }

      -- while the lines of the groups so far have room, no column has another length
      module _ (z : sum_below g counts + i ≤ room k₀) where
        at_raw : length c.raw ≡ length k₀.raw
        at_raw = length_at _ counts k₀.raw c.raw g i (omega arith) f.raws

        at-state : length c.state ≡ length k₀.state
        at-state = length_at _ counts k₀.state c.state g i (omega arith) f.states

        at_first : length c.first ≡ length k₀.first
        at_first = length_at _ counts k₀.first c.first g i (omega arith) f.firsts

        at_second : length c.second ≡ length k₀.second
        at_second = length_at _ counts k₀.second c.second g i (omega arith) f.seconds

      -- the lines of the next group have room
      next-room : (n m : ℕ) → n ≡ groups t → m ≡ counts g → g < n → i ≡ 0 → k + m ≤ room c
      next-room n m pn pm lt e =
          let b : sum_below g counts + counts g ≤ sum_below (groups t) counts = sum-in counts g (groups t) (omega arith) in
          let z : sum_below g counts + i ≤ room k₀ = omega arith in
          omega (arith, f.line, at_raw z, at-state z, at_first z, at_second z)

      module _ (n : ℕ) (pn : n ≡ groups t) (h : n ≤ g) where
        at-end : g ≡ groups t
        at-end = omega (arith, f.within)

        no_index : i ≡ 0
        no_index = f.last (omega arith)

        done-lines : sum_below g counts + i ≤ room k₀
        done-lines = let z : sum_below g counts ≡ sum_below (groups t) counts = ap (λ (y : ℕ). sum_below y counts) at-end in omega (arith, no_index)

        raw-length : length c.raw ≡ length k₀.raw
        raw-length = at_raw done-lines

        state-length : length c.state ≡ length k₀.state
        state-length = at-state done-lines

        first-length : length c.first ≡ length k₀.first
        first-length = at_first done-lines

        second-length : length c.second ≡ length k₀.second
        second-length = at_second done-lines

        whole : {A : Type 0} (w : ℕ → ℕ → A) (d : A) (l₀ l : List A) → Column w d l₀ l g i → l ≡ fresh s w d counts (groups t) l₀
        unfolding fresh
        whole w d l₀ l e = e ∙ rw (no_index, at-end, upto_all)

        refresh-end : c.image ≡ img → c ≡ refreshed s t img k₀
        unfolding refreshed
        refresh-end e = λ j. record {
          image = e j;
          raw = whole (λ g i. (line_of (tables_in t) img g i).raw) (pos 0) k₀.raw c.raw f.raws j;
          state = whole (λ g i. (line_of (tables_in t) img g i).state) 0 k₀.state c.state f.states j;
          first = whole (λ g i. (line_of (tables_in t) img g i).first) (pos 0) k₀.first c.first f.firsts j;
          second = whole (λ g i. (line_of (tables_in t) img g i).second) (pos 0) k₀.second c.second f.seconds j;
        }

  -- a group's lines: from its first line to the next group's
  module _ (g k : ℕ) (c : Kept) (f : Refreshing g 0 k c) (enough : sum_below (groups t) counts ≤ room k₀) (n m : ℕ) (pn : n ≡ groups t) (pm : m ≡ counts g) (lt : g < n) where
    lines-on : (i : ℕ) → i ≤ m → Refreshing g i (k + i) (put_lines s t img g k i c)
    lines-on zero h = rw (add-zero k) f
    lines-on (suc i) h =
        let e : k + suc i ≡ k + i + 1 = omega arith in
        rw (e, ← add-one i) (refresh-turn g i (k + i) (put_lines s t img g k i c) (lines-on i (omega arith)) enough n m (put_lines s t img g k (suc i) c) pn pm lt (omega arith) refl)

    refresh-group : (c' : Kept) → c' ≡ put_lines s t img g k m c → Refreshing (g + 1) 0 (k + m) c'
    refresh-group c' e = rw e (refresh-next g m (k + m) (put_lines s t img g k m c) (lines-on m (omega arith)) n m pn pm lt (omega arith))

    group_below : k + m ≤ room k₀
    group_below =
        let b : sum_below g counts + counts g ≤ sum_below (groups t) counts = sum-in counts g (groups t) (omega arith) in
        omega (arith, f.line)

  -- what the loop over the n groups keeps: c is k₀ with the lines of the groups below g worked out, k lines
  pub record InList (n g k : ℕ) (c : Kept) : Type 0 where
    pub count : n ≡ groups t
    pub enough : sum_below (groups t) counts ≤ room k₀
    pub addressed : room k₀ < 2 ^ 64
    pub so_far : Refreshing g 0 k c

  module _ (n g k : ℕ) (c : Kept) (f : InList n g k c) where
    module _ (m : ℕ) (lt : g < n) (pm : m ≡ counts g) where
      pub next_fits : Fits w64 (k + m)
      next_fits = record { fits = omega (arith, group_below g k c f.so_far f.enough n m f.count pm lt, f.addressed) }

      pub list-turn : (c' : Kept) → c' ≡ put_lines s t img g k m c → InList n (g + 1) (k + m) c'
      list-turn c' e =
          record { count = f.count; enough = f.enough; addressed = f.addressed; so_far = refresh-group g k c f.so_far f.enough n m f.count pm lt c' e }

    pub list-end : n ≤ g → c.image ≡ img → c ≡ refreshed s t img k₀
    list-end h e = refresh-end g 0 k c f.so_far f.enough n f.count h e

-- the same by columns
module _ (s : ℕ → ℕ → Bool) (t img im im' : List ℕ) (r r' : List ℤ) (u u' : List ℕ) (a a' b b' : List ℤ) (n g k : ℕ) (f : InList s t img (kept im r u a b) n g k (kept im' r' u' a' b')) where
  pub group-room : (m : ℕ) → g < n → m ≡ elements (tables_in t) g → k + m ≤ min (min (length r') (length u')) (min (length a') (length b'))
  group-room m lt pm = next-room s t img (kept im r u a b) g 0 k (kept im' r' u' a' b') f.so_far f.enough n m f.count pm lt refl

  module _ (h : n ≤ g) where
    pub list-raw : length r' ≡ length r
    list-raw = raw-length s t img (kept im r u a b) g 0 k (kept im' r' u' a' b') f.so_far f.enough n f.count h

    pub list-state : length u' ≡ length u
    list-state = state-length s t img (kept im r u a b) g 0 k (kept im' r' u' a' b') f.so_far f.enough n f.count h

    pub list-first : length a' ≡ length a
    list-first = first-length s t img (kept im r u a b) g 0 k (kept im' r' u' a' b') f.so_far f.enough n f.count h

    pub list-second : length b' ≡ length b
    list-second = second-length s t img (kept im r u a b) g 0 k (kept im' r' u' a' b') f.so_far f.enough n f.count h

pub ruleset list-lines = (refresh-start, group-room, next_fits, list-turn, list-end, list-raw, list-state, list-first, list-second, turn-less, rules)

-- ---- making a list
pub refreshed-all : (t : List ℕ) (k : Kept) (s : ℕ → ℕ → Bool) → ((g i : ℕ) → s g i ≡ true) → refreshed s t k.image k ≡ remade t k
unfolding refreshed remade
refreshed-all t k s h =
    same_kept k.image
    (fresh-all _ _ (pos 0) (elements (tables_in t)) (groups t) k.raw (λ g i p q. h g i))
    (fresh-all _ _ 0 (elements (tables_in t)) (groups t) k.state (λ g i p q. h g i))
    (fresh-all _ _ (pos 0) (elements (tables_in t)) (groups t) k.first (λ g i p q. h g i))
    (fresh-all _ _ (pos 0) (elements (tables_in t)) (groups t) k.second (λ g i p q. h g i))
