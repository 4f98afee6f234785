-- WHICH NUMBERS A CALL IS REFUSED BY, in the order of the tests: the orders of document 01.
--     searched-numbers, reading-numbers, making-numbers     "20, 22", "Reading an element: 20, 22, 14.", "Making a list: 20, 22."
--     judged-numbers, writing-numbers     "Write order: 20, 22, 14, 21, 19, 15, 16, 17, 18."
-- Assumes nothing.
use Prim.Native.Nat.{ℕ, ◌+◌, ◌≤◌}
use mathlib.Core.Path.{◌≡◌, ap}
use mathlib.Core.List.{List, [], ◌∷◌}
use mathlib.Core.Bool.{Bool, true, false, not, ◌&&◌}
use mathlib.Core.Logic.{◌⊎◌, inl, inr, ⊎_elim}
use native.Mathlib.Nat.{eq-or-lt_of_le}
use native.Mathlib.Omega.{arith}
use lib.IntN.{ℤ}
use lib.ListN.{length}
use Rattle.number.specs.Answer.{Answer, given, refused}
use Rattle.cell.specs.Kind.{shape_of}
use Rattle.cell.specs.Raw.{fits_raw}
use Rattle.convert.specs.Asked.{asked_raw}
use Rattle.convert.specs.Edition.{halves_of}
use Rattle.tables.specs.Form.{object_section, Tables, tables_in, edition, kind, mask, forbidden, limit}
use Rattle.tables.specs.Group.{group_of, bytes, place_of}
use Rattle.tables.specs.Rule.{keeps_rule}
use Rattle.tables.specs.Sizes.{sizes_fit}
use Rattle.look.specs.Element.{raw_in}
use Rattle.look.specs.Calls.{Lent, lent_by, unless, checked, is_element, search_from, searched, reading_of, reading, Kept, has_room, remade, afterwards, making, Wanted, raw_number, physical_text, Request, group_in, on_count, asks_by, is_tab_verb, wanted_raw, writable, judged_element, judged_request, written_to, writing}
use Rattle.convert.proofs.Laws.{asked-numbers}

-- n is one of these
abbrev pub OneOf : List ℕ → ℕ → Type 0
OneOf [] n = ⊥
OneOf (m ∷ ms) n = (n ≡ m) ⊎ OneOf ms n

-- an answer that is refused by these numbers alone
abbrev pub RefusedBy : {A : Type 0} → List ℕ → Answer A → Type 0
RefusedBy ms a = (n : ℕ) → a ≡ refused n → OneOf ms n

module _ {A : Type 0} where
  pub given-numbers : (ms : List ℕ) (a : A) → RefusedBy ms (given a)
  given-numbers ms a n e = let z : ◌≡◌ {A = ℕ} 0 1 = cc in absurd (omega arith)

  pub unless-numbers : (b : Bool) (k : ℕ) (ms : List ℕ) (a : Answer A) → RefusedBy ms a → RefusedBy (k ∷ ms) (unless b k a)
  unless-numbers true k ms a h n e = inr (h n e)
  unless-numbers false k ms a h n e = inl (let z : k ≡ n = cc in omega arith)

  pub checked-numbers : (t : List ℕ) (l : Lent) (enough : Bool) (ms : List ℕ) (a : Answer A) → RefusedBy ms a → RefusedBy (20 ∷ 22 ∷ ms) (checked t l enough a)
  unfolding checked
  checked-numbers t l enough ms a h =
      unless-numbers (sizes_fit l.text l.image l.base (length t) && enough) 20 (22 ∷ ms) (unless (keeps_rule l.text l.image t) 22 a)
      (unless-numbers (keeps_rule l.text l.image t) 22 ms a h)

  pub after-numbers : (ms : List ℕ) (a : Answer A) (k : Kept) (f : A → Kept) → RefusedBy ms a → RefusedBy ms (afterwards a k f).answer
  after-numbers ms (given a) k f h = λ n e. let z : ◌≡◌ {A = ℕ} 0 1 = cc in absurd (omega arith)
  after-numbers ms (refused m) k f h = λ n e. h n (let z : m ≡ n = cc in ap refused z)

pub searched-numbers : (x t : List ℕ) (l : Lent) (w : List ℕ) → RefusedBy (20 ∷ 22 ∷ []) (searched x t l w)
unfolding searched
searched-numbers x t l w = checked-numbers t l true [] (given (search_from ((tables_in t).counts object_section) x (tables_in t) w 0)) (given-numbers [] _)

pub reading-numbers : (t image : List ℕ) (l : Lent) (o p i : ℕ) → RefusedBy (20 ∷ 22 ∷ 14 ∷ []) (reading t image l o p i)
unfolding reading
reading-numbers t image l o p i =
    let r = reading_of (tables_in t) (group_of o p) (raw_in (tables_in t) image (group_of o p) i) in
    checked-numbers t l true (14 ∷ []) (unless (is_element (tables_in t) o p i) 14 (given r)) (unless-numbers (is_element (tables_in t) o p i) 14 [] (given r) (given-numbers [] r))

pub making-numbers : (t : List ℕ) (n base : ℕ) (k : Kept) → RefusedBy (20 ∷ 22 ∷ []) (making t n base k).answer
unfolding making
making-numbers t n base k =
    after-numbers (20 ∷ 22 ∷ []) (checked t (lent_by n base k) (has_room t k) (given (tt {0}))) k (λ _. remade t k)
    (checked-numbers t (lent_by n base k) (has_room t k) [] (given (tt {0})) (given-numbers [] (tt {0})))

-- "15, 16, 17, 18", and 16 once more: what is asked
abbrev wanting : List ℕ
wanting = 15 ∷ 16 ∷ 17 ∷ 18 ∷ []

wanted-numbers : (T : Tables) (g : ℕ) (w : Wanted) → RefusedBy wanting (wanted_raw T g w)
wanted-numbers T g (raw_number z) n e =
    ⊎_elim {C = OneOf wanting n} (λ h. inr (inr (inr (inl h)))) (λ h. absurd h)
    (unless-numbers (fits_raw (shape_of (kind T g)) (mask T g) z) 18 [] (given z) (given-numbers [] z) n e)
wanted-numbers T g (physical_text s) n e =
    ⊎_elim {C = OneOf wanting n} (λ h. inl h) (λ h. h)
    (unless-numbers (not (is_tab_verb T g)) 15 wanting a (λ m h. among m (asked-numbers (halves_of (edition T)) (limit T g 11) (limit T g 14) (asks_by T g) (shape_of (kind T g)) (mask T g) s m h)) n e)
  where
    a : Answer ℤ
    a = asked_raw (halves_of (edition T)) (limit T g 11) (limit T g 14) (asks_by T g) (shape_of (kind T g)) (mask T g) s

    among : (m : ℕ) → (15 ≤ m) × (m ≤ 18) → OneOf wanting m
    among m h =
        let l = h.0 in
        let u = h.1 in
        ⊎_elim {C = OneOf wanting m} (λ e. inl (omega arith)) (λ b.
        ⊎_elim {C = OneOf wanting m} (λ e. inr (inl (omega arith))) (λ c.
        ⊎_elim {C = OneOf wanting m} (λ e. inr (inr (inl (omega arith)))) (λ d. inr (inr (inr (inl (omega arith))))) (eq-or-lt_of_le c)) (eq-or-lt_of_le b)) (eq-or-lt_of_le l)

-- "Write order: 20, 22, 14, 21, 19, 15, 16, 17, 18."
abbrev pub write_order : List ℕ
write_order = 20 ∷ 22 ∷ 14 ∷ 21 ∷ 19 ∷ 15 ∷ 16 ∷ 17 ∷ 18 ∷ []

pub judged-numbers : (t : List ℕ) (l : Lent) (enough : Bool) (q : Request) → RefusedBy write_order (judged_request t l enough q)
unfolding judged_request judged_element writable
judged-numbers t l enough q =
    let T = tables_in t in
    let g = group_in q in
    let i = q.index in
    let a = wanted_raw T g q.wanted in
    let b = unless (not (on_count t (place_of T g i) (place_of T g i + bytes T g))) 19 a in
    let c = unless (not (forbidden T g)) 21 b in
    checked-numbers t l enough (14 ∷ 21 ∷ 19 ∷ wanting) (unless (is_element T q.object q.part i) 14 c)
    (unless-numbers (is_element T q.object q.part i) 14 (21 ∷ 19 ∷ wanting) c
    (unless-numbers (not (forbidden T g)) 21 (19 ∷ wanting) b
    (unless-numbers (not (on_count t (place_of T g i) (place_of T g i + bytes T g))) 19 wanting a (wanted-numbers T g q.wanted))))

pub writing-numbers : (t : List ℕ) (n base : ℕ) (k : Kept) (q : Request) → RefusedBy write_order (writing t n base k q).answer
unfolding writing
writing-numbers t n base k q =
    after-numbers write_order (judged_request t (lent_by n base k) (has_room t k) q) k (written_to t (group_in q) q.index k) (judged-numbers t (lent_by n base k) (has_room t k) q)
