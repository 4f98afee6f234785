-- Making a list and writing, by the tests that the code makes.
use mathlib.Core.Path.{◌≡◌, refl, sym, ap, ◌∙◌}
use mathlib.Core.List.{List}
use mathlib.Core.Bool.{Bool, true, false}
use Prim.Native.Nat.{ℕ, ◌+◌, ◌≤◌, min}
use borrow.Author.Rules.{rules}
use lib.Dec.{leb}
use lib.IntN.{ℤ}
use mir.Facts.{to_z-of_z}
use Rattle.number.specs.Answer.{Answer, given}
use Rattle.convert.specs.Told.{told_raw, raw_refusal_number}
use Rattle.convert.specs.declared.asked.RawRefusal.{RawRefusal}
use Rattle.std.specs.Prelude.{Result, Ok, Err}
use Rattle.tables.specs.Form.{tables_in, total}
use Rattle.number.specs.Below.{sum_below}
use Rattle.tables.specs.Group.{group_of, elements, bytes, place_of}
use Rattle.look.specs.Element.{past_records}
use Rattle.look.specs.Calls.{Lent, checked, judged_element, judged_request, Kept, kept, room, has_room, groups, remade, refreshed, After, afterwards, lent_by, making, Wanted, raw_number, request, wanted_raw, stored, written_to, writing}
use Rattle.look.specs.Steps.{picked, checked_no, element_no}
use Rattle.look.specs.Told.{after, told_by, after_by}
use Rattle.look.specs.Refused.{refusal_number}
use Rattle.look.specs.declared.refusal.CallRefusal.{CallRefusal}
use Rattle.look.specs.declared.refusal.CallRefusal.TheVariants as no
use Rattle.look.proofs.CheckLaws.{some_number, checked_refused, checked-passed, group-is}
use Rattle.wanted.proofs.StandLaws.{standing-refused, standing-passed, stands-so}
use Rattle.afresh.proofs.RefreshLaws.{refreshed-all}
use Rattle.look.proofs.RoomLaws.{lines-hold}

-- ---- whether a list holds every element
has_room_lem : (t : List ℕ) (k : Kept) (enough : Bool) (lines : ℕ) → enough ≡ leb (total (tables_in t)) lines → lines ≡ room k → enough ≡ has_room t k
has_room_lem t k enough lines pe pl = pe ∙ rw pl

-- ---- making a list: r is what the code judges, and lines how many the list has
pub make-room : (t : List ℕ) (l : Lent) (enough : Bool) (r lines m : ℕ) → r ≡ checked_no t l enough → r ≡ 0 → enough ≡ leb (total (tables_in t)) lines → lines ≡ m
    → sum_below (groups t) (elements (tables_in t)) ≤ m
make-room t l enough r lines m q h pe pl = rw (← pl) (lines-hold t l r lines enough pe q h)

module _ (t : List ℕ) (n base : ℕ) (k : Kept) (enough : Bool) (r lines : ℕ) (q : r ≡ checked_no t (lent_by n base k) enough) where
  making-as : Bool → Answer (Unit {0}) → After
  making-as b a = afterwards (checked t (lent_by n base k) b a) k (λ _. remade t k)

  pub make-refused : (e : CallRefusal) → r ≡ refusal_number e → enough ≡ leb (total (tables_in t)) lines → lines ≡ room k → after (Err e) k ≡ making t n base k
  unfolding making making-as
  make-refused e p pe pl =
      let h : r ≡ 0 → ⊥ = λ z. some_number e (sym p ∙ z) in
      rw (← p)
      (ap (λ (a : Answer (Unit {0})). afterwards a k (λ _. remade t k)) (checked_refused t (lent_by n base k) enough r q (given (tt {0})) h)
      ∙ ap (λ (b : Bool). making-as b (given (tt {0}))) (has_room_lem t k enough lines pe pl))

  pub make-done : (k' : Kept) → r ≡ 0 → enough ≡ leb (total (tables_in t)) lines → lines ≡ room k → k' ≡ refreshed (picked t 0 0 true) t k.image k
      → after (Ok (tt {0})) k' ≡ making t n base k
  unfolding making making-as
  make-done k' h pe pl e =
      ap (λ (z : Kept). record { answer = given (tt {0}); left = z }) (e ∙ refreshed-all t k (picked t 0 0 true) (λ g i. refl))
      ∙ ap (λ (a : Answer (Unit {0})). afterwards a k (λ _. remade t k)) (checked-passed t (lent_by n base k) enough r q (given (tt {0})) h)
      ∙ ap (λ (b : Bool). making-as b (given (tt {0}))) (has_room_lem t k enough lines pe pl)

pub ruleset makes = (make-room, make-refused, make-done, rules)

-- ---- writing: r is what the code judges of the element
pub write-room : (t : List ℕ) (l : Lent) (enough : Bool) (o p i r lines m : ℕ) → r ≡ element_no t l enough o p i → r ≡ 0 → enough ≡ leb (total (tables_in t)) lines → lines ≡ m
    → sum_below (groups t) (elements (tables_in t)) ≤ m
write-room t l enough o p i r lines m q h pe pl =
    make-room t l enough 0 lines m (sym (stands-so t l enough o p i r q h).checks) refl pe pl

module _ (t : List ℕ) (n base : ℕ) (k : Kept) (enough : Bool) (o p i r lines : ℕ) (q : r ≡ element_no t (lent_by n base k) enough o p i) where
  writing-as : Answer ℤ → After
  writing-as a = afterwards a k (written_to t (group_of o p) i k)

  judged-is : (w : Wanted) → enough ≡ has_room t k
      → judged_element t (lent_by n base k) enough o p i (wanted_raw (tables_in t) (group_of o p) w) ≡ judged_request t (lent_by n base k) (has_room t k) (request o p i w)
  unfolding judged_request
  judged-is w e = ap (λ (b : Bool). judged_element t (lent_by n base k) b o p i (wanted_raw (tables_in t) (group_of o p) w)) e

  pub write-refused : (w : Wanted) (e : CallRefusal) → r ≡ refusal_number e → enough ≡ leb (total (tables_in t)) lines → lines ≡ room k → after (Err e) k ≡ writing t n base k (request o p i w)
  unfolding writing writing-as
  write-refused w e f pe pl =
      rw (← f)
      (ap writing-as
      (standing-refused t (lent_by n base k) enough o p i r q (wanted_raw (tables_in t) (group_of o p) w) (λ z. some_number e (sym f ∙ z)) ∙ judged-is w (has_room_lem t k enough lines pe pl)))

  module _ (h : r ≡ 0) (pe : enough ≡ leb (total (tables_in t)) lines) (pl : lines ≡ room k) (g : ℕ) (f : g ≡ min (group_of o p) past_records) (a : After) (x : Answer ℤ) where
    pub write-is : (w : Wanted) → x ≡ wanted_raw (tables_in t) g w → a ≡ afterwards x k (written_to t g i k) → a ≡ writing t n base k (request o p i w)
    unfolding writing writing-as
    write-is w e z =
        let s = stands-so t (lent_by n base k) enough o p i r q h in
        let u : g ≡ group_of o p = group-is t o p i true g (sym s.element) refl f in
        z ∙ ap (λ (y : ℕ). afterwards x k (written_to t y i k)) u
        ∙ ap writing-as
        (e ∙ ap (λ (y : ℕ). wanted_raw (tables_in t) y w) u
        ∙ sym (standing-passed t (lent_by n base k) enough o p i r q _ h)
        ∙ judged-is w (has_room_lem t k enough lines pe pl))

    -- y is what the machine reads back of z
    pub write-raw-is : (z y : ℤ) → y ≡ z → x ≡ wanted_raw (tables_in t) g (raw_number y) → a ≡ afterwards x k (written_to t g i k)
        → a ≡ writing t n base k (request o p i (raw_number z))
    write-raw-is z y b e v = write-is (raw_number z) (e ∙ ap (λ (u : ℤ). wanted_raw (tables_in t) g (raw_number u)) b) v

-- what the two writes need, and no more: of many facts a short list is found sooner

-- ---- an accepted write
pub store_is : (t image image' : List ℕ) (r : List ℤ) (s : List ℕ) (a b : List ℤ) (k' : Kept) (g i p w : ℕ) (z y : ℤ) → image' ≡ stored t g i image y → y ≡ z
    → p ≡ place_of (tables_in t) g i → w ≡ bytes (tables_in t) g → k' ≡ refreshed (picked t p (p + w) false) t image' (kept image' r s a b)
    → k' ≡ written_to t g i (kept image r s a b) z
unfolding written_to refreshed
store_is t image image' r s a b k' g i p w z y e h pp pw q = q ∙ rw (e, h, pp, pw)

-- ---- what is carried out: u is what the code answers
module _ (x : Result ℤ RawRefusal) (u : Result (Unit {0}) RawRefusal) (k k' : Kept) (f : ℤ → Kept) (e : (tell : RawRefusal → ℕ) → after_by tell u k' ≡ afterwards (told_by tell x) k f) where
  told-so : (y : Result ℤ RawRefusal) → told_by raw_refusal_number y ≡ told_raw y
  told-so (Ok z) = refl
  told-so (Err r) = refl

  so : after_by raw_refusal_number u k' ≡ afterwards (told_raw x) k f
  so = e raw_refusal_number ∙ ap (λ (a : Answer ℤ). afterwards a k f) (told-so x)

  pub carried : u ≡ Ok tt → after (Ok tt) k' ≡ afterwards (told_raw x) k f
  carried h = ap (λ (v : Result (Unit {0}) RawRefusal). after_by raw_refusal_number v k') (sym h) ∙ so

  pub not_carried : (r : RawRefusal) → u ≡ Err r → after (Err (no.Raw r)) k' ≡ afterwards (told_raw x) k f
  not_carried r h = ap (λ (v : Result (Unit {0}) RawRefusal). after_by raw_refusal_number v k') (sym h) ∙ so

pub ruleset stores = (store_is, rules)
