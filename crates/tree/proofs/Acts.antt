-- What an act leaves, in the words of the tree.
use Prim.Native.Nat.{ℕ, zero, suc, ◌+◌, ◌-◌, ◌≤◌, ◌<◌}
use mathlib.Core.Path.{◌≡◌, refl, sym, ◌∙◌, subst}
use mathlib.Core.List.{List, [], ◌∷◌}
use mathlib.Core.Bool.{Bool, true, false, cond, not, ◌&&◌, ◌||◌, false≢true}
use mathlib.Core.Logic.{◌⊎◌, inl, inr}
use native.Mathlib.Omega.{arith}
use borrow.Author.Tests.{eqb-true, eqb-false, eq-eqb, leb-true, leb-false, lt-ltb, le-ltb, lt-leb, le-leb}
use lib.Dec.{leb, eqb}
use lib.ListN.{length, take}
use Rattle.text.proofs.Within.{by-test, and_left, and_right, or_case}
use Rattle.text.specs.Bytes.{same_part}
use Rattle.number.specs.Decimal.{Scaled}
use Rattle.records.specs.Records.{count, slot, add}
use Rattle.rows.specs.Codes.{CURVE, MAP}
use Rattle.rows.specs.Sections.{sections, none, table, entry, axis, object}
use Rattle.rows.specs.Slots.{own_name, own_name_past, entry_sign, entry_size}
use Rattle.rows.specs.Row.{Row, Need}
use Rattle.rows.specs.Rows.{needed}
use Rattle.rows.specs.Numbered.{need_at}
use Rattle.grammar.specs.Move.{view, idle, writes, puts, applied}
use Rattle.grammar.specs.Parameter.{slot_of, sec_of, keeping, new_record, sign_of, find_from, find, has_entry, twice}
use Rattle.grammar.specs.Keyword.{is_often, may_stand, one_more, counting, is_met, all_met}
use Rattle.grammar.specs.declared.state.State.{State}
use Rattle.grammar.specs.declared.state.Act.{Act}
use Rattle.tree.specs.Tree.{Records, current, written, kept, appended, Within, limit, Free, counted, Met, Among, Fresh, Apart}
use Rattle.tree.proofs.Tables.{IsRow, Needs, all-needs}

-- no record more where there is no section
pub add_none : (d : Records) → add sections d none ≡ d
unfolding sections
add_none d = rw (le-ltb (count d none) 0 (omega arith))

pub applied-idle : (d : Records) → applied idle d ≡ d
unfolding applied
applied-idle d = add_none d

pub applied-writes : (j n m x y z : ℕ) (d : Records) → applied (writes j n m x y z) d ≡ written j n (take m (x ∷ y ∷ z ∷ 0 ∷ [])) d
unfolding applied written
applied-writes j n m x y z d = rw (add_none d)

pub applied-new : (j n x y z u : ℕ) (d : Records) → applied (new_record j n x y z u) d ≡ appended j (take n (x ∷ y ∷ z ∷ u ∷ [])) d
unfolding applied appended written
applied-new j n x y z u d = refl

pub applied-keeping : (s : State) (m x y z : ℕ) (d : Records) → applied (keeping s m x y z) d ≡ kept (sec_of s) (slot_of s) (take m (x ∷ y ∷ z ∷ 0 ∷ [])) d
unfolding keeping kept
applied-keeping s m x y z d = by-slot (eqb (slot_of s) 0) where
  by-slot : (t : Bool) → applied (cond t idle (writes (sec_of s) (slot_of s) m x y z)) d ≡ cond t d (written (sec_of s) (slot_of s) (take m (x ∷ y ∷ z ∷ 0 ∷ [])) d)
  by-slot true = applied-idle d
  by-slot false = applied-writes (sec_of s) (slot_of s) m x y z d

-- ---- where a number of the current record says so

pub within-true : (d : Records) (j n low high : ℕ) → Within d j n low high → (eqb n 0 || leb low (current d j n) && leb (current d j n) high) ≡ true
within-true d j n low high (inl e) = rw (eq-eqb n 0 e)
within-true d j n low high (inr p) = rw (le-leb low (current d j n) p.0, le-leb (current d j n) high p.1) (right (eqb n 0)) where
  right : (t : Bool) → (t || true) ≡ true
  right true = refl
  right false = refl

pub true-within : (d : Records) (j n low high : ℕ) → (eqb n 0 || leb low (current d j n) && leb (current d j n) high) ≡ true → Within d j n low high
true-within d j n low high h = by-case (or_case (eqb n 0) (leb low (current d j n) && leb (current d j n) high) h) where
  by-case : (eqb n 0 ≡ true) ⊎ ((leb low (current d j n) && leb (current d j n) high) ≡ true) → Within d j n low high
  by-case (inl e) = inl (eqb-true n 0 e)
  by-case (inr e) =
      inr (
        leb-true low (current d j n) (and_left (leb low (current d j n)) (leb (current d j n) high) e),
        leb-true (current d j n) high (and_right (leb low (current d j n)) (leb (current d j n) high) e),
      )

-- ---- a keyword that may stand, and its count

module _ (d : Records) (i : ℕ) (r : Row) (q : IsRow i r) where
  pub may-stand : Free d r → may_stand (view d) i ≡ true
  may-stand f = rw q.same (within-true d r.sec r.when r.low r.high f.used)

  pub not-often : Free d r → is_often (view d) i ≡ false
  not-often f = rw q.same (by-case f.seldom) where
    by-case : (r.once ≡ 0) ⊎ (current d r.sec r.once < limit d r) → (not (eqb r.once 0) && leb (limit d r) (current d r.sec r.once)) ≡ false
    by-case (inl e) = rw (eq-eqb r.once 0 e)
    by-case (inr l) = rw (lt-leb (limit d r) (current d r.sec r.once) l) (right (not (eqb r.once 0))) where
      right : (t : Bool) → (t && false) ≡ false
      right true = refl
      right false = refl

  pub is_free_lem : may_stand (view d) i ≡ true → is_often (view d) i ≡ false → Free d r
  is_free_lem h g = record {
    used = true-within d r.sec r.when r.low r.high (rw q.same at h);
    seldom = by-once (eqb r.once 0) refl (rw q.same at g);
  } where
    by-once : (t : Bool) → eqb r.once 0 ≡ t → (not t && leb (limit d r) (current d r.sec r.once)) ≡ false → (r.once ≡ 0) ⊎ (current d r.sec r.once < limit d r)
    by-once true e l = inl (eqb-true r.once 0 e)
    by-once false e l = inr (leb-false (limit d r) (current d r.sec r.once) l)

  limit-small : limit d r ≤ 2
  limit-small =
      by-test (λ n. n ≤ 2) (eqb r.adds axis)
      (λ t. by-test (λ n. n ≤ 2) (eqb (current d object 4) MAP) (λ u. omega arith) (λ u. by-test (λ n. n ≤ 2) (eqb (current d object 4) CURVE) (λ w. omega arith) (λ w. omega arith)))
      (λ t. omega arith)

  one_more_lem : (n : ℕ) → n < limit d r → one_more n ≡ n + 1
  unfolding one_more
  one_more_lem n l = rw (lt-ltb n 255 (omega (arith, limit-small)))

  pub applied-counting : Free d r → applied (counting (view d) i) d ≡ counted r d
  unfolding counted kept written applied
  applied-counting f = rw q.same (by-once (eqb r.once 0) refl f.seldom) where
    act : Act
    act = record { adds = r.adds; sec = r.sec; slot = r.once; many = 1; a = one_more (current d r.sec r.once); b = 0; c = 0; d = 0 }

    more : Records
    more = add sections d r.adds

    by-once : (t : Bool) → eqb r.once 0 ≡ t → (r.once ≡ 0) ⊎ (current d r.sec r.once < limit d r)
        → applied (cond t idle act) d ≡ cond t more (puts more r.sec (count more r.sec - 1) r.once ((current d r.sec r.once + 1) ∷ []))
    by-once true t s = applied-idle d ∙ sym (rw (q.alone (eqb-true r.once 0 t)) (add_none d))
    by-once false t (inl e) = absurd (eqb-false r.once 0 t e)
    by-once false t (inr l) = rw (one_more_lem (current d r.sec r.once) l)

-- ---- what a block needs

-- one need is met
abbrev MetOne : Records → ℕ → Need → Type 0
MetOne d b n = n.block ≡ b → Within d n.sec n.when n.low n.high → n.least ≤ current d n.sec n.slot

-- the test that is made of it
abbrev met_test : Records → ℕ → Need → Bool
met_test d b n =
    not (eqb n.block b)
    || not (eqb n.when 0 || leb n.low (current d n.sec n.when) && leb (current d n.sec n.when) n.high)
    || leb n.least (current d n.sec n.slot)

is-met : (d : Records) (b i : ℕ) (n : Need) → need_at i ≡ n → is_met (view d) b i ≡ met_test d b n
is-met d b i n q = rw q

met-true : (d : Records) (b : ℕ) (n : Need) → MetOne d b n → met_test d b n ≡ true
met-true d b n h = by-case (eqb n.block b) _ refl refl where
  by-case : (t u : Bool) → eqb n.block b ≡ t → (eqb n.when 0 || leb n.low (current d n.sec n.when) && leb (current d n.sec n.when) n.high) ≡ u
      → (not t || not u || leb n.least (current d n.sec n.slot)) ≡ true
  by-case false u p q = refl
  by-case true false p q = refl
  by-case true true p q = le-leb n.least (current d n.sec n.slot) (h (eqb-true n.block b p) (true-within d n.sec n.when n.low n.high q))

true-met : (d : Records) (b : ℕ) (n : Need) → met_test d b n ≡ true → MetOne d b n
true-met d b n h p q = leb-true n.least (current d n.sec n.slot) (rw (eq-eqb n.block b p, within-true d n.sec n.when n.low n.high q) at h)

needs-met : (d : Records) (b : ℕ) (ns : List Need) (i : ℕ) → Needs i ns → ((n : Need) → Among n ns → MetOne d b n) → all_met (length ns) (view d) b i ≡ true
unfolding all_met
needs-met d b [] i q h = refl
needs-met d b (n ∷ ns) i q h = rw (is-met d b i n q.0, met-true d b n (h n (inl refl))) (needs-met d b ns (suc i) q.1 (λ m a. h m (inr a)))

met-needs : (d : Records) (b : ℕ) (ns : List Need) (i : ℕ) → Needs i ns → all_met (length ns) (view d) b i ≡ true → (n : Need) → Among n ns → MetOne d b n
unfolding all_met
met-needs d b [] i q h n m = absurd m
met-needs d b (s ∷ ns) i q h n (inl e) = rw e (true-met d b s (sym (is-met d b i s q.0) ∙ and_left (is_met (view d) b i) (all_met (length ns) (view d) b (suc i)) h))
met-needs d b (s ∷ ns) i q h n (inr m) = met-needs d b ns (suc i) q.1 (and_right (is_met (view d) b i) (all_met (length ns) (view d) b (suc i)) h) n m

pub all-met : (d : Records) (b : ℕ) → Met d b → all_met (length needed) (view d) b 0 ≡ true
all-met d b h = needs-met d b needed 0 all-needs h

pub met_all : (d : Records) (b : ℕ) → all_met (length needed) (view d) b 0 ≡ true → Met d b
met_all d b h = met-needs d b needed 0 all-needs h

-- ---- a name that no record has, a number that no entry has

module _ (x : List ℕ) (d : Records) (j a e : ℕ) where
  -- record i has the name
  abbrev bears : ℕ → Bool
  bears i = same_part x (slot d j i own_name) (slot d j i own_name_past) x a e

  find_none : (f i : ℕ) → ((n : ℕ) → i ≤ n → n < i + f → bears n ≡ false) → find_from f x (view d) j i a e ≡ 0
  unfolding find_from
  find_none zero i h = refl
  find_none (suc f) i h = rw (h i (omega arith) (omega arith)) (find_none f (suc i) (λ n l m. h n (omega arith) (omega arith)))

  none-find : (f i : ℕ) → find_from f x (view d) j i a e ≡ 0 → (n : ℕ) → i ≤ n → n < i + f → bears n ≡ false
  unfolding find_from
  none-find zero i h n l m = absurd (omega arith)
  none-find (suc f) i h n l m = by_first (bears i) refl h (none-find f (suc i)) where
    by_first : (t : Bool) → bears i ≡ t → cond t (suc i) (find_from f x (view d) j (suc i) a e) ≡ 0
        → (find_from f x (view d) j (suc i) a e ≡ 0 → (n : ℕ) → suc i ≤ n → n < suc i + f → bears n ≡ false) → bears n ≡ false
    by_first true t z go = absurd (omega arith)
    by_first false t z go = by-here (eqb i n) refl where
      by-here : (u : Bool) → eqb i n ≡ u → bears n ≡ false
      by-here true u = subst (λ (o : ℕ). bears o ≡ false) (eqb-true i n u) t
      by-here false u = go z n (omega (arith, eqb-false i n u)) (omega arith)

  pub fresh-find : Fresh x d j a e → find x (view d) j a e ≡ 0
  fresh-find h = find_none (count d j) 0 (λ n l m. h n (omega arith))

  pub find-fresh : find x (view d) j a e ≡ 0 → Fresh x d j a e
  find-fresh h n m = none-find (count d j) 0 h n (omega arith) (omega arith)

module _ (d : Records) (s w : ℕ) where
  -- entry i has the number
  abbrev has : ℕ → Bool
  has i = eqb (slot d entry i entry_sign) s && eqb (slot d entry i entry_size) w

  entry-none : (f i : ℕ) → ((n : ℕ) → i ≤ n → n < i + f → has n ≡ false) → has_entry f (view d) i s w ≡ false
  unfolding has_entry
  entry-none zero i h = refl
  entry-none (suc f) i h = rw (h i (omega arith) (omega arith)) (entry-none f (suc i) (λ n l m. h n (omega arith) (omega arith)))

  none-entry : (f i : ℕ) → has_entry f (view d) i s w ≡ false → (n : ℕ) → i ≤ n → n < i + f → has n ≡ false
  unfolding has_entry
  none-entry zero i h n l m = absurd (omega arith)
  none-entry (suc f) i h n l m = by_first (has i) refl h (none-entry f (suc i)) where
    by_first : (t : Bool) → has i ≡ t → (t || has_entry f (view d) (suc i) s w) ≡ false
        → (has_entry f (view d) (suc i) s w ≡ false → (n : ℕ) → suc i ≤ n → n < suc i + f → has n ≡ false) → has n ≡ false
    by_first true t z go = absurd (false≢true (sym z))
    by_first false t z go = by-here (eqb i n) refl where
      by-here : (u : Bool) → eqb i n ≡ u → has n ≡ false
      by-here true u = subst (λ (o : ℕ). has o ≡ false) (eqb-true i n u) t
      by-here false u = go z n (omega (arith, eqb-false i n u)) (omega arith)

module _ (d : Records) (m : Scaled) where
  pub apart-once : Apart d m → twice (view d) (sign_of m) m.whole ≡ false
  apart-once h = entry-none d (sign_of m) m.whole (count d entry - current d table 2) (current d table 2) (λ n l o. other n (h n l (omega arith))) where
    other : (n : ℕ) → (slot d entry n entry_sign ≡ sign_of m → slot d entry n entry_size ≡ m.whole → ⊥) → has d (sign_of m) m.whole n ≡ false
    other n g = by_sign (eqb (slot d entry n entry_sign) (sign_of m)) (eqb (slot d entry n entry_size) m.whole) refl refl where
      by_sign : (t u : Bool) → eqb (slot d entry n entry_sign) (sign_of m) ≡ t → eqb (slot d entry n entry_size) m.whole ≡ u → (t && u) ≡ false
      by_sign false u y z = refl
      by_sign true false y z = refl
      by_sign true true y z = absurd (g (eqb-true (slot d entry n entry_sign) (sign_of m) y) (eqb-true (slot d entry n entry_size) m.whole z))

  pub once-apart : twice (view d) (sign_of m) m.whole ≡ false → Apart d m
  once-apart h n l o y z =
      false≢true (sym (none-entry d (sign_of m) m.whole (count d entry - current d table 2) (current d table 2) h n l (omega arith))
      ∙ rw (eq-eqb (slot d entry n entry_sign) (sign_of m) y, eq-eqb (slot d entry n entry_size) m.whole z))
