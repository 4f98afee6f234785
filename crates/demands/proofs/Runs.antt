-- Runs of writes: laws of the calls' definitions, which the code meets by its contracts, for any tables and any list.
--     kept-equals-made-anew, made-anew-in-place     after any run of writes the kept list is the list made anew
--     refused-changes-nothing, make-refused-changes-nothing     "No refusal touches image or list."
--     bytes-outside-kept, bits-outside-kept, length-kept     what of the image a write leaves alone
--     line-apart-kept, rest-kept, make-rest-kept     what of the list it leaves alone
--     reads-as-written, reads-back, reads-as-asked     an accepted write is read back
--     write-depends-on-length-only     no byte of the image decides a write's answer
--     reading-of     what a reading that is given says
--     search-one, read_one, make-one, write-one     a contract leaves one result
-- Assumes nothing.
use Rattle.std.specs.Prelude.{Option, Some, None, Result, Ok, Err}
use mathlib.Core.Path.{◌≡◌, refl, sym, ap, ◌∙◌, subst}
use mathlib.Core.List.{List, [], ◌∷◌}
use mathlib.Core.Bool.{Bool, true, false, cond, ◌&&◌}
use mathlib.Core.Logic.{◌⊎◌}
use Prim.Native.Nat.{ℕ, suc, ◌+◌, ◌≤◌, ◌<◌}
use native.Mathlib.Omega.{arith}
use borrow.Author.Tests.{leb-true}
use lib.Bits.{bit_and}
use lib.Dec.{leb}
use lib.IntN.{ℤ}
use lib.ListN.{length, get_or}
use Rattle.number.specs.Answer.{Answer, given, refused}
use Rattle.cell.specs.Bytes.{stored_at}
use Rattle.cell.specs.Mask.{outside}
use Rattle.tables.specs.Form.{tables_in, total, first, mask}
use Rattle.number.specs.Below.{sum_below}
use Rattle.tables.specs.Group.{group_of, elements, bytes}
use Rattle.tables.specs.Rule.{keeps_rule}
use Rattle.tables.specs.Sizes.{sizes_fit}
use Rattle.text.proofs.Within.{and_right}
use Rattle.tables.proofs.Reading.{element-inside, total-is}
use Rattle.look.specs.Element.{raw_in, touched}
use Rattle.look.specs.Calls.{Lent, lent_of, lent_by, checked, is_element, searched, Reading, reading_of, reading, Kept, room, groups, has_room, remade, After, afterwards, making, raw_number, Request, request, group_in, judged_request, written_to, writing, line_at, with_image}
use Rattle.look.specs.Steps.{refusal_of}
use Rattle.demands.specs.Runs.{running}
use Rattle.look.specs.Told.{told_search, told_read, told_call, after}
use Rattle.look.specs.Refused.{refusal_number}
use Rattle.look.specs.declared.refusal.CallRefusal.{CallRefusal}
use Rattle.look.specs.declared.read.Reading as code
use Rattle.convert.specs.Shown.{Display, real, words, nothing}
use Rattle.convert.specs.Told.{told_shown}
use Rattle.convert.specs.declared.fraction.Shown.{Shown}
use Rattle.convert.specs.declared.fraction.Shown.TheVariants as shown
use Rattle.look.proofs.CheckLaws.{refusal_by, refusal_back, same_refusal, checked-tests}
use Rattle.list.proofs.Writer.{past-made, Anew, start-anew, image-made, remade-again, room-remade}
use Rattle.list.proofs.Writes.{never, same-given, mask-inside, accepted, wanted-fits, wanted-raw, by_answer, low, high, apart-line, past-line, write-anew, length-stored, bytes-stored, bits-stored, raw-stored, image-after, same-refused, refused-answer}

-- answers that say the same are the same
same_answer : (r s : Result (Unit {0}) CallRefusal) → told_call r ≡ told_call s → r ≡ s
same_answer (Ok u) (Ok v) e = refl
same_answer (Ok u) (Err m) e = absurd (never (refusal_number m) (tt {0}) (sym e))
same_answer (Err m) (Ok u) e = absurd (never (refusal_number m) (tt {0}) e)
same_answer (Err m) (Err k) e = ap (λ (z : CallRefusal). Err z) (same_refusal m k (same-refused (refusal_number m) (refusal_number k) e))

same-found : (r s : Result (Option ℕ) CallRefusal) → told_search r ≡ told_search s → r ≡ s
same-found (Ok (Some i)) (Ok (Some j)) e = ap (λ (z : ℕ). Ok (Some z)) (let z : suc i ≡ suc j = same-given (suc i) (suc j) e in omega arith)
same-found (Ok (Some i)) (Ok None) e = absurd (let z : suc i ≡ 0 = same-given (suc i) 0 e in omega arith)
same-found (Ok (Some i)) (Err m) e = absurd (never (refusal_number m) (suc i) (sym e))
same-found (Ok None) (Ok (Some j)) e = absurd (let z : 0 ≡ suc j = same-given 0 (suc j) e in omega arith)
same-found (Ok None) (Ok None) e = refl
same-found (Ok None) (Err m) e = absurd (never (refusal_number m) 0 (sym e))
same-found (Err m) (Ok (Some j)) e = absurd (never (refusal_number m) (suc j) e)
same-found (Err m) (Ok None) e = absurd (never (refusal_number m) 0 e)
same-found (Err m) (Err k) e = ap (λ (z : CallRefusal). Err z) (same_refusal m k (same-refused (refusal_number m) (refusal_number k) e))

-- what is lent: the tables t, n bytes of description, the base address; an image and a list are what is kept
module _ (t : List ℕ) (n base : ℕ) where
  -- ---- making a list
  -- a making is refused or accepted
  by-making : (k : Kept) (P : After → Type 0)
      → ((c : ℕ) → checked t (lent_by n base k) (has_room t k) (given (tt {0})) ≡ refused c → P (record { answer = refused c; left = k }))
      → (checked t (lent_by n base k) (has_room t k) (given (tt {0})) ≡ given (tt {0}) → P (record { answer = given (tt {0}); left = remade t k }))
      → P (making t n base k)
  unfolding making
  by-making k P f g = go (checked t (lent_by n base k) (has_room t k) (given (tt {0}))) refl
    where
      go : (a : Answer (Unit {0})) → checked t (lent_by n base k) (has_room t k) (given (tt {0})) ≡ a → P (afterwards a k (λ _. remade t k))
      go (given u) e = g e
      go (refused c) e = f c e

  accepted-making : (k : Kept) → (making t n base k).answer ≡ given (tt {0}) → making t n base k ≡ record { answer = given (tt {0}); left = remade t k }
  accepted-making k =
      by-making k (λ (a : After). a.answer ≡ given (tt {0}) → a ≡ record { answer = given (tt {0}); left = remade t k }) (λ c e h. absurd (never c (tt {0}) h)) (λ e h. refl)

  -- making depends on no byte of the image, only on its length
  same-length-making : (k : Kept) (image : List ℕ) → length image ≡ length k.image → (making t n base k).answer ≡ given (tt {0}) → (making t n base (with_image image k)).answer ≡ given (tt {0})
  unfolding making
  same-length-making k image e h = answers _ _ same h
    where
      same : checked t (lent_by n base (with_image image k)) (has_room t k) (given (tt {0})) ≡ checked t (lent_by n base k) (has_room t k) (given (tt {0}))
      same = ap (λ (m : ℕ). checked t (lent_of n m base) (has_room t k) (given (tt {0}))) e

      answers : (a b : Answer (Unit {0})) → a ≡ b → (afterwards b k (λ _. remade t k)).answer ≡ given (tt {0}) → (afterwards a (with_image image k) (λ _. remade t (with_image image k))).answer ≡ given (tt {0})
      answers (given u) b p q = refl
      answers (refused c) (given u) p q = absurd (never c u p)
      answers (refused c) (refused d) p q = absurd (never d (tt {0}) q)

  rule-of : (k : Kept) → checked t (lent_by n base k) (has_room t k) (given (tt {0})) ≡ given (tt {0})
      → ((sizes_fit n (length k.image) base (length t) && has_room t k) ≡ true) × (keeps_rule n (length k.image) t ≡ true)
  rule-of k d = checked-tests t (lent_by n base k) (has_room t k) 0 (sym (ap (λ (y : Answer (Unit {0})). refusal_of y) d)) refl

  -- a list made anew has the room that it had
  same-room-making : (k : Kept) → (making t n base k).answer ≡ given (tt {0}) → (making t n base (remade t k)).answer ≡ given (tt {0})
  same-room-making k =
      by-making k (λ (a : After). a.answer ≡ given (tt {0}) → (making t n base (remade t k)).answer ≡ given (tt {0})) (λ c e h. absurd (never c (tt {0}) h))
      (λ e h. by-making (remade t k) (λ (a : After). a.answer ≡ given (tt {0})) (λ c d. absurd (never c (tt {0}) (sym d ∙ same e ∙ e))) (λ d. refl))
    where
      enough : checked t (lent_by n base k) (has_room t k) (given (tt {0})) ≡ given (tt {0}) → sum_below (groups t) (elements (tables_in t)) ≤ room k
      enough e =
          let b = rule-of k e in
          let l = leb-true (total (tables_in t)) (room k) (and_right (sizes_fit n (length k.image) base (length t)) (has_room t k) b.0) in
          omega (arith, total-is n (length k.image) t b.1)

      same : checked t (lent_by n base k) (has_room t k) (given (tt {0})) ≡ given (tt {0})
          → checked t (lent_by n base (remade t k)) (has_room t (remade t k)) (given (tt {0})) ≡ checked t (lent_by n base k) (has_room t k) (given (tt {0}))
      same e =
          ap (λ (y : List ℕ). checked t (lent_of n (length y) base) (has_room t (remade t k)) (given (tt {0}))) (image-made t k)
          ∙ ap (λ (y : ℕ). checked t (lent_by n base k) (leb (total (tables_in t)) y) (given (tt {0}))) (room-remade t k (enough e))

  -- ---- a run: what is kept stays the list made anew, over an image of the same length
  run-anew : (k c : Kept) → Anew t k c → (qs : List Request) → Anew t k (running t n base c qs)
  run-anew k c a [] = a
  run-anew k c a (q ∷ qs) = run-anew k (writing t n base c q).left (write-anew t n base k c a q) qs

  -- what is kept after a list was made and any requests, over an image of the same length
  run-made : (k : Kept) (qs : List Request) → (making t n base k).answer ≡ given (tt {0}) → Anew t k (running t n base (making t n base k).left qs)
  run-made k qs h = run-anew k (making t n base k).left (subst (λ (y : After). Anew t k y.left) (sym (accepted-making k h)) (start-anew t k)) qs

  run-image : (k : Kept) (qs : List Request) (h : (making t n base k).answer ≡ given (tt {0})) → (running t n base (making t n base k).left qs).image ≡ (run-made k qs h).image
  run-image k qs h = let a = run-made k qs h in ap (λ (y : Kept). y.image) a.anew ∙ image-made t (with_image a.image k)

  run_length : (k : Kept) (qs : List Request) → (making t n base k).answer ≡ given (tt {0}) → length (running t n base (making t n base k).left qs).image ≡ length k.image
  run_length k qs h = ap length (run-image k qs h) ∙ (run-made k qs h).long

  -- it is the list made anew from its image
  pub kept-is-made : (k : Kept) (qs : List Request) → (making t n base k).answer ≡ given (tt {0})
      → running t n base (making t n base k).left qs ≡ remade t (with_image (running t n base (making t n base k).left qs).image k)
  kept-is-made k qs h = (run-made k qs h).anew ∙ ap (λ (y : List ℕ). remade t (with_image y k)) (sym (run-image k qs h))

  -- THE KEPT LIST IS THE LIST MADE ANEW. A list was made over any lent columns, and then any requests were carried out or refused: what is kept is
  -- what making a list over the same lent columns from the image as it then is leaves.
  pub kept-equals-made-anew : (k : Kept) (qs : List Request) → (making t n base k).answer ≡ given (tt {0})
      → running t n base (making t n base k).left qs ≡ (making t n base (with_image (running t n base (making t n base k).left qs).image k)).left
  kept-equals-made-anew k qs h =
      let c = running t n base (making t n base k).left qs in
      let m = accepted-making (with_image c.image k) (same-length-making k c.image (run_length k qs h) h) in
      kept-is-made k qs h ∙ sym (ap (λ (y : After). y.left) m)

  -- and making it anew in place, over what is kept itself, is accepted and leaves it as it is
  pub made-anew-in-place : (k : Kept) (qs : List Request) → (making t n base k).answer ≡ given (tt {0})
      → making t n base (running t n base (making t n base k).left qs) ≡ record { answer = given (tt {0}); left = running t n base (making t n base k).left qs }
  made-anew-in-place k qs h =
      let a = run-made k qs h in
      subst (λ (y : Kept). making t n base y ≡ record { answer = given (tt {0}); left = y }) (sym a.anew) (again k a.image a.long h)
    where
      again : (k : Kept) (image : List ℕ) → length image ≡ length k.image → (making t n base k).answer ≡ given (tt {0})
          → making t n base (remade t (with_image image k)) ≡ record { answer = given (tt {0}); left = remade t (with_image image k) }
      again k image l h =
          let w = with_image image k in
          let m = same-length-making k image l h in
          accepted-making (remade t w) (same-room-making w m) ∙ ap (λ (y : Kept). record { answer = given (tt {0}); left = y }) (remade-again t image k)

  -- ---- refusals
  pub refused-changes-nothing : (k : Kept) (q : Request) (c : ℕ) → (writing t n base k q).answer ≡ refused c → (writing t n base k q).left ≡ k
  refused-changes-nothing k q c =
      by_answer t n base k q (λ (a : After). a.answer ≡ refused c → a.left ≡ k) (λ d e h. refl) (λ z e h. absurd (never c (tt {0}) (sym h)))

  pub make-refused-changes-nothing : (k : Kept) (c : ℕ) → (making t n base k).answer ≡ refused c → (making t n base k).left ≡ k
  make-refused-changes-nothing k c =
      by-making k (λ (a : After). a.answer ≡ refused c → a.left ≡ k) (λ d e h. refl) (λ e h. absurd (never c (tt {0}) (sym h)))

  -- ---- what a write leaves alone
  module _ (k : Kept) (q : Request) where
    abbrev after_write : Kept
    after_write = (writing t n base k q).left

    abbrev g : ℕ
    g = group_in q

    pub length-kept : length after_write.image ≡ length k.image
    length-kept =
        by_answer t n base k q (λ (a : After). length a.left.image ≡ length k.image) (λ c e. refl)
        (λ z e. ap length (image-after t g q.index k z) ∙ length-stored t g q.index k.image z)

    -- no byte outside the element
    pub bytes-outside-kept : (j : ℕ) → (j < low t g q.index) ⊎ (high t g q.index ≤ j) → get_or after_write.image j 0 ≡ get_or k.image j 0
    bytes-outside-kept j o =
        by_answer t n base k q (λ (a : After). get_or a.left.image j 0 ≡ get_or k.image j 0) (λ c e. refl)
        (λ z e. ap (λ (y : List ℕ). get_or y j 0) (image-after t g q.index k z) ∙ bytes-stored t g q.index k.image z j o)

    -- no bit of the element outside its mask, in an image of bytes
    pub bits-outside-kept : ((j : ℕ) → get_or k.image j 0 < 256) → 0 < mask (tables_in t) g
        → bit_and (stored_at (first (tables_in t) g) (low t g q.index) (bytes (tables_in t) g) after_write.image) (outside (mask (tables_in t) g))
        ≡ bit_and (stored_at (first (tables_in t) g) (low t g q.index) (bytes (tables_in t) g) k.image) (outside (mask (tables_in t) g))
    bits-outside-kept b m =
        let bits : List ℕ → ℕ = λ (y : List ℕ). bit_and (stored_at (first (tables_in t) g) (low t g q.index) (bytes (tables_in t) g) y) (outside (mask (tables_in t) g)) in
        by_answer t n base k q (λ (a : After). bits a.left.image ≡ bits k.image) (λ c e. refl)
        (λ z e. let a = accepted t (lent_by n base k) (has_room t k) q z e in
        ap bits (image-after t g q.index k z)
        ∙ bits-stored t g q.index k.image z (mask-inside n (length k.image) t a.rule g a.group_below) b m)

    -- no line of an element that shares no byte with the element written
    pub line-apart-kept : (h j : ℕ) → h < groups t → j < elements (tables_in t) h → touched (tables_in t) (low t g q.index) (high t g q.index) h j ≡ false
        → line_at after_write (sum_below h (elements (tables_in t)) + j) ≡ line_at k (sum_below h (elements (tables_in t)) + j)
    line-apart-kept h j a b e =
        by_answer t n base k q (λ (y : After). line_at y.left (sum_below h (elements (tables_in t)) + j) ≡ line_at k (sum_below h (elements (tables_in t)) + j))
        (λ c d. refl) (λ z d. apart-line t g q.index k z h j a b e)

    -- "Room past the used entries is untouched"
    pub rest-kept : (j : ℕ) → total (tables_in t) ≤ j → line_at after_write j ≡ line_at k j
    rest-kept j l =
        by_answer t n base k q (λ (y : After). line_at y.left j ≡ line_at k j) (λ c d. refl)
        (λ z d. past-line t g q.index k z j (rw (total-is n (length k.image) t (accepted t (lent_by n base k) (has_room t k) q z d).rule) at l))

    -- ---- an accepted write is read back: z is the raw number that the judgement gave, for a physical value the nearest one
    pub reads-as-written : (z : ℤ) → judged_request t (lent_by n base k) (has_room t k) q ≡ given z → ((j : ℕ) → get_or k.image j 0 < 256)
        → raw_in (tables_in t) after_write.image g q.index ≡ z
    reads-as-written z e b =
        by_answer t n base k q (λ (y : After). raw_in (tables_in t) y.left.image g q.index ≡ z) (λ c d. absurd (never c z (sym d ∙ e)))
        (λ y d. let same : y ≡ z = same-given y z (sym d ∙ e) in
        let a = accepted t (lent_by n base k) (has_room t k) q y d in
        ap (λ (i : List ℕ). raw_in (tables_in t) i g q.index) (image-after t g q.index k y)
        ∙ raw-stored t g q.index k.image y (mask-inside n (length k.image) t a.rule g a.group_below) b
        (wanted-fits (tables_in t) g q.wanted y a.wants) (element-inside n (length k.image) t a.rule g q.index a.group_below a.index_below)
        ∙ same)

    -- and so the call that reads the element answers
    pub reads-back : (z : ℤ) → judged_request t (lent_by n base k) (has_room t k) q ≡ given z → ((j : ℕ) → get_or k.image j 0 < 256)
        → reading t after_write.image (lent_by n base after_write) q.object q.part q.index ≡ given (reading_of (tables_in t) g z)
    unfolding reading checked
    reads-back z e b =
        let a = accepted t (lent_by n base k) (has_room t k) q z e in
        rw (length-kept, a.sizes, a.rule, a.element) (ap (λ (v : ℤ). given (reading_of (tables_in t) g v)) (reads-as-written z e b))

  -- a raw write: the element reads as the number asked
  pub reads-as-asked : (k : Kept) (o p i : ℕ) (z : ℤ) → (writing t n base k (request o p i (raw_number z))).answer ≡ given (tt {0}) → ((j : ℕ) → get_or k.image j 0 < 256)
      → raw_in (tables_in t) (writing t n base k (request o p i (raw_number z))).left.image (group_of o p) i ≡ z
  reads-as-asked k o p i z h b = go (judged_request t (lent_by n base k) (has_room t k) (request o p i (raw_number z))) refl h
    where
      is : (y : ℤ) → judged_request t (lent_by n base k) (has_room t k) (request o p i (raw_number z)) ≡ given y → y ≡ z
      is y e = sym (wanted-raw (tables_in t) (group_of o p) z y (accepted t (lent_by n base k) (has_room t k) (request o p i (raw_number z)) y e).wants)

      go : (a : Answer ℤ) → judged_request t (lent_by n base k) (has_room t k) (request o p i (raw_number z)) ≡ a → (writing t n base k (request o p i (raw_number z))).answer ≡ given (tt {0})
          → raw_in (tables_in t) (writing t n base k (request o p i (raw_number z))).left.image (group_of o p) i ≡ z
      go (given y) e w = reads-as-written k (request o p i (raw_number z)) y e b ∙ is y e
      go (refused c) e w = absurd (never c (tt {0}) (sym (refused-answer t n base k (request o p i (raw_number z)) c e) ∙ w))

  pub make-rest-kept : (k : Kept) (j : ℕ) → total (tables_in t) ≤ j → line_at (making t n base k).left j ≡ line_at k j
  make-rest-kept k j l =
      by-making k (λ (y : After). line_at y.left j ≡ line_at k j) (λ c d. refl)
      (λ d. past-made t k j (rw (total-is n (length k.image) t (rule-of k d).1) at l))

  -- ---- no byte of the image decides a write's answer, only its length
  pub write-depends-on-length-only : (k : Kept) (image : List ℕ) (q : Request) → length image ≡ length k.image → (writing t n base (with_image image k) q).answer ≡ (writing t n base k q).answer
  unfolding writing
  write-depends-on-length-only k image q e = rw e (answers (judged_request t (lent_by n base k) (has_room t k) q))
    where
      answers : (a : Answer ℤ) → (afterwards a (with_image image k) (written_to t (group_in q) q.index (with_image image k))).answer ≡ (afterwards a k (written_to t (group_in q) q.index k)).answer
      answers (given z) = refl
      answers (refused c) = refl

  -- ---- a contract leaves one result
  pub make-one : (k a b : Kept) (r s : Result (Unit {0}) CallRefusal) → after r a ≡ making t n base k → after s b ≡ making t n base k → (r ≡ s) × (a ≡ b)
  make-one k a b r s x y = (same_answer r s (ap (λ (z : After). z.answer) (x ∙ sym y)), ap (λ (z : After). z.left) (x ∙ sym y))

  pub write-one : (k a b : Kept) (q : Request) (r s : Result (Unit {0}) CallRefusal) → after r a ≡ writing t n base k q → after s b ≡ writing t n base k q → (r ≡ s) × (a ≡ b)
  write-one k a b q r s x y = (same_answer r s (ap (λ (z : After). z.answer) (x ∙ sym y)), ap (λ (z : After). z.left) (x ∙ sym y))

-- a reading that is given is that of an element, by tables that keep the rule
pub reading-of : (t image : List ℕ) (l : Lent) (o p i : ℕ) (r : Reading) → reading t image l o p i ≡ given r
    → (is_element (tables_in t) o p i ≡ true) × (keeps_rule l.text l.image t ≡ true) × (reading_of (tables_in t) (group_of o p) (raw_in (tables_in t) image (group_of o p) i) ≡ r)
unfolding reading checked
reading-of t image l o p i r =
    go (sizes_fit l.text l.image l.base (length t) && true) (keeps_rule l.text l.image t) (is_element (tables_in t) o p i)
  where
    y : Reading
    y = reading_of (tables_in t) (group_of o p) (raw_in (tables_in t) image (group_of o p) i)

    go : (a b c : Bool) → cond a (cond b (cond c (given y) (refused 14)) (refused 22)) (refused 20) ≡ given r → (c ≡ true) × (b ≡ true) × (y ≡ r)
    go false b c h = absurd (never 20 r h)
    go true false c h = absurd (never 22 r h)
    go true true false h = absurd (never 14 r h)
    go true true true h = (refl, refl, same-given y r h)

pub search-one : (x t w : List ℕ) (l : Lent) (r s : Result (Option ℕ) CallRefusal) → told_search r ≡ searched x t l w → told_search s ≡ searched x t l w → r ≡ s
search-one x t w l r s p q = same-found r s (p ∙ sym q)

-- what an answer told says which answer it was
abbrev shown_of : Display → Shown
shown_of (real x) = shown.Real x
shown_of (words a b) = shown.Words a b
shown_of nothing = shown.Nothing

shown-back : (s : Shown) → shown_of (told_shown s) ≡ s
shown-back (shown.Real x) = refl
shown-back (shown.Words a b) = refl
shown-back shown.Nothing = refl

abbrev read_of : Answer Reading → Result code.Reading CallRefusal
read_of (given r) = Ok (record { raw = r.raw; physical = r.value; shown = shown_of r.display })
read_of (refused n) = Err (refusal_by n)

read_back : (r : Result code.Reading CallRefusal) → read_of (told_read r) ≡ r
read_back (Ok r) = ap (λ (v : Shown). Ok (record { raw = r.raw; physical = r.physical; shown = v })) (shown-back r.shown)
read_back (Err r) = ap (λ (z : CallRefusal). Err z) (refusal_back r)

pub read_one : (t image : List ℕ) (l : Lent) (o p i : ℕ) (r s : Result code.Reading CallRefusal) → told_read r ≡ reading t image l o p i → told_read s ≡ reading t image l o p i → r ≡ s
read_one t image l o p i r s x y = sym (read_back r) ∙ (ap read_of (x ∙ sym y) ∙ read_back s)
