-- What calls test first, by the tests that the code makes.
use Rattle.std.specs.Prelude.{Ok}
use mathlib.Core.Path.{◌≡◌, refl, sym, ap, ◌∙◌}
use mathlib.Core.List.{List}
use mathlib.Core.Bool.{Bool, true, false, cond, ◌&&◌}
use Prim.Native.Nat.{ℕ, suc, ◌≤◌, ◌<◌, min}
use native.Mathlib.Omega.{arith}
use borrow.Author.Rules.{rules}
use borrow.Author.Tests.{ltb-true}
use lib.Dec.{eqb, ltb}
use lib.IntN.{ℤ}
use lib.ListN.{length}
use Rattle.number.specs.Answer.{Answer, given, refused}
use Rattle.text.proofs.Within.{and_left, and_right}
use Rattle.number.specs.Most.{most_objects}
use Rattle.convert.specs.Shown.{shown}
use Rattle.convert.specs.Told.{held, meant, told_shown}
use Rattle.convert.specs.declared.fraction.Physical.{Physical}
use Rattle.convert.specs.declared.fraction.Shown.{Shown}
use Rattle.convert.proofs.Showns.{meant-held}
use Rattle.records.specs.Cells.{count_in}
use Rattle.tables.specs.Form.{table_sections, object_section, tables_in}
use Rattle.tables.specs.Group.{group_of, elements}
use Rattle.tables.specs.Rule.{keeps_rule}
use Rattle.tables.specs.Sizes.{sizes_fit}
use Rattle.look.specs.Element.{past_records, means, raw_in}
use Rattle.look.specs.Calls.{Lent, lent_of, checked, is_element, Reading, reading_of, reading}
use Rattle.look.specs.Steps.{refusal_of, checked_no}
use Rattle.look.specs.Refused.{refusal_number}
use Rattle.look.specs.Told.{told_reading, told_read}
use Rattle.look.specs.declared.refusal.CallRefusal.{CallRefusal}
use Rattle.look.specs.declared.refusal.CallRefusal.TheVariants as no
use Rattle.convert.specs.declared.asked.RawRefusal.TheVariants as raw
use Rattle.look.specs.declared.read.Reading as code

-- ---- 20 and 22
module _ (t : List ℕ) (n m base cells : ℕ) (enough a b : Bool) (long : cells ≡ length t) (pa : a ≡ sizes_fit n m base cells) (pb : b ≡ keeps_rule n m t) where
  pub check-passes : (a && enough) ≡ true → b ≡ true → 0 ≡ checked_no t (lent_of n m base) enough
  unfolding checked
  check-passes h k = rw (← long, ← pa, h, ← pb, k)

  pub check-rule : (a && enough) ≡ true → b ≡ false → 22 ≡ checked_no t (lent_of n m base) enough
  unfolding checked
  check-rule h k = rw (← long, ← pa, h, ← pb, k)

pub check-size : (t : List ℕ) (n m base cells : ℕ) (enough a : Bool) → cells ≡ length t → a ≡ sizes_fit n m base cells → (a && enough) ≡ false → 20 ≡ checked_no t (lent_of n m base) enough
unfolding checked
check-size t n m base cells enough a long pa h = rw (← long, ← pa, h)

pub ruleset checks = (check-passes, check-rule, check-size, rules)

-- two tests, and the number of the refusal
pub two : {A : Type 0} (a b : Bool) (u v : ℕ) (x : Answer A) → (refusal_of (cond a (cond b (given (tt {0})) (refused v)) (refused u)) ≡ 0 → ⊥)
    → refused (refusal_of (cond a (cond b (given (tt {0})) (refused v)) (refused u))) ≡ cond a (cond b x (refused v)) (refused u)
two true true u v x h = absurd (h refl)
two true false u v x h = refl
two false b u v x h = refl

two-pass : (a b : Bool) (u v : ℕ) → refusal_of (cond a (cond b (given (tt {0})) (refused (suc v))) (refused (suc u))) ≡ 0 → (a ≡ true) × (b ≡ true)
two-pass true true u v h = (refl, refl)
two-pass true false u v h = absurd (omega arith)
two-pass false b u v h = absurd (omega arith)

-- no refusal has the number 0
pub some_number : (r : CallRefusal) → refusal_number r ≡ 0 → ⊥
some_number no.NoElement h = omega arith
some_number (no.Raw raw.NoForm) h = omega arith
some_number (no.Raw raw.OutsideLimits) h = omega arith
some_number (no.Raw raw.NoRaw) h = omega arith
some_number (no.Raw raw.NoFit) h = omega arith
some_number no.OnCount h = omega arith
some_number no.BadSize h = omega arith
some_number no.Forbidden h = omega arith
some_number no.BrokenRule h = omega arith

-- a refusal's number says which it is
abbrev pub refusal_by : ℕ → CallRefusal
refusal_by n =
    cond (eqb n 14) no.NoElement
    (cond (eqb n 15) (no.Raw raw.NoForm)
    (cond (eqb n 16) (no.Raw raw.OutsideLimits)
    (cond (eqb n 17) (no.Raw raw.NoRaw)
    (cond (eqb n 18) (no.Raw raw.NoFit)
    (cond (eqb n 19) no.OnCount
    (cond (eqb n 20) no.BadSize
    (cond (eqb n 21) no.Forbidden no.BrokenRule)))))))

pub refusal_back : (r : CallRefusal) → refusal_by (refusal_number r) ≡ r
refusal_back no.NoElement = refl
refusal_back (no.Raw raw.NoForm) = refl
refusal_back (no.Raw raw.OutsideLimits) = refl
refusal_back (no.Raw raw.NoRaw) = refl
refusal_back (no.Raw raw.NoFit) = refl
refusal_back no.OnCount = refl
refusal_back no.BadSize = refl
refusal_back no.Forbidden = refl
refusal_back no.BrokenRule = refl

pub same_refusal : (r s : CallRefusal) → refusal_number r ≡ refusal_number s → r ≡ s
same_refusal r s e = sym (refusal_back r) ∙ ap refusal_by e ∙ refusal_back s

-- what the number of the refusal says of a call
module _ (t : List ℕ) (l : Lent) (enough : Bool) (r : ℕ) (p : r ≡ checked_no t l enough) where
  pub checked_refused : {A : Type 0} (x : Answer A) → (r ≡ 0 → ⊥) → refused r ≡ checked t l enough x
  unfolding checked
  checked_refused x h = rw p (two (sizes_fit l.text l.image l.base (length t) && enough) (keeps_rule l.text l.image t) 20 22 x (λ z. h (p ∙ z)))

  pub checked-tests : r ≡ 0 → ((sizes_fit l.text l.image l.base (length t) && enough) ≡ true) × (keeps_rule l.text l.image t ≡ true)
  unfolding checked
  checked-tests h = two-pass (sizes_fit l.text l.image l.base (length t) && enough) (keeps_rule l.text l.image t) 19 21 (sym p ∙ h)

  pub checked-passed : {A : Type 0} (x : Answer A) → r ≡ 0 → x ≡ checked t l enough x
  checked-passed x h = let b = checked-tests h in (unfold checked in rw (b.0, b.1))

-- ---- 14
few-objects : (t : List ℕ) → (tables_in t).counts object_section ≤ most_objects
unfolding count_in table_sections
few-objects t = omega arith

module _ (t : List ℕ) (o p i : ℕ) where
  near-group : (g : ℕ) → o < (tables_in t).counts object_section → p < 3 → g ≡ min (group_of o p) past_records → g ≡ group_of o p
  near-group g h k e = let f = few-objects t in omega arith

  pub element-is : (n g c : ℕ) → n ≡ (tables_in t).counts object_section → g ≡ min (group_of o p) past_records → c ≡ elements (tables_in t) g → (ltb o n && ltb p 3 && ltb i c) ≡ is_element (tables_in t) o p i
  unfolding is_element
  element-is n g c e q r = by-tests (ltb o ((tables_in t).counts object_section)) (ltb p 3) refl refl where
    by-tests : (a b : Bool) → ltb o ((tables_in t).counts object_section) ≡ a → ltb p 3 ≡ b
        → (ltb o n && ltb p 3 && ltb i c) ≡ (ltb o ((tables_in t).counts object_section) && ltb p 3 && ltb i (elements (tables_in t) (group_of o p)))
    by-tests false b u v = rw (e, u)
    by-tests true false u v = rw (e, u, v)
    by-tests true true u v = rw (e, r, near-group g (ltb-true o ((tables_in t).counts object_section) u) (ltb-true p 3 v) q)

  -- what an element is: its object's number, its part and its index are below their counts
  pub record Named : Type 0 where
    pub object_below : o < (tables_in t).counts object_section
    pub part_below : p < 3
    pub index_below : i < elements (tables_in t) (group_of o p)

  pub named : is_element (tables_in t) o p i ≡ true → Named
  unfolding is_element
  named h =
      let a = ltb o ((tables_in t).counts object_section) in
      let b = ltb p 3 in
      let c = ltb i (elements (tables_in t) (group_of o p)) in
      record {
        object_below = ltb-true o _ (and_left a b (and_left (a && b) c h));
        part_below = ltb-true p 3 (and_right a b (and_left (a && b) c h));
        index_below = ltb-true i _ (and_right (a && b) c h);
      }

  pub group-is : (b : Bool) (g : ℕ) → b ≡ is_element (tables_in t) o p i → b ≡ true → g ≡ min (group_of o p) past_records → g ≡ group_of o p
  group-is b g e h q = let n = named (sym e ∙ h) in near-group g n.object_below n.part_below q

pub ruleset named-elements = (element-is, rules)

-- ---- reading
pub reads : (t image : List ℕ) (g i : ℕ) (z y : ℤ) (p : Physical) (s : Shown) → z ≡ raw_in (tables_in t) image g i → y ≡ z → p ≡ held (means (tables_in t) g y) → told_shown s ≡ shown (meant p)
    → told_reading (record { raw = z; physical = p; shown = s }) ≡ reading_of (tables_in t) g (raw_in (tables_in t) image g i)
reads t image g i z y p s a b c d =
    let e : p ≡ held (means (tables_in t) g (raw_in (tables_in t) image g i)) = c ∙ rw (b, a) in
    let f : told_shown s ≡ shown (means (tables_in t) g (raw_in (tables_in t) image g i)) = d ∙ ap shown (ap meant e ∙ meant-held (means (tables_in t) g (raw_in (tables_in t) image g i))) in
    rw (f, e, a)

module _ (t image : List ℕ) (l : Lent) (o p i : ℕ) (r : ℕ) (q : r ≡ checked_no t l true) where
  pub read-refused : (r ≡ 0 → ⊥) → refused r ≡ reading t image l o p i
  unfolding reading
  read-refused h = checked_refused t l true r q _ h

  module _ (h : r ≡ 0) (b : Bool) (e : b ≡ is_element (tables_in t) o p i) where
    pub read_none : b ≡ false → refused 14 ≡ reading t image l o p i
    unfolding reading
    read_none k = rw (← e, k) (checked-passed t l true r q (refused 14) h)

    pub read_is : (g : ℕ) (a : code.Reading) → b ≡ true → g ≡ min (group_of o p) past_records → told_reading a ≡ reading_of (tables_in t) g (raw_in (tables_in t) image g i) → told_read (Ok a) ≡ reading t image l o p i
    unfolding reading
    read_is g a k f w =
        ap (λ (r : Reading). given r) w ∙ rw (group-is t o p i b g e k f, ← e, k) (checked-passed t l true r q (given (reading_of (tables_in t) (group_of o p) (raw_in (tables_in t) image (group_of o p) i))) h)

pub ruleset readings = (some_number, reads, read-refused, read_none, read_is, rules)
