-- What an act leaves in the slots: it writes some slots of the last record of one section, and no other.
--     clear-slot      a slot that is not among those written
--     other-slot      a record that is not the last
--     written-slot    a slot of the last record that is written
--     more-records, same_count, one-record      how many records there are after it
--     start-slot      at the start every slot is 0
use Prim.Native.Nat.{ℕ, zero, suc, ◌+◌, ◌-◌, ◌≤◌, ◌<◌}
use mathlib.Core.Path.{◌≡◌, refl, sym, ◌∙◌, ap}
use mathlib.Core.List.{List, [], ◌∷◌, ◌++◌}
use mathlib.Core.Bool.{Bool, true, false, cond}
use mathlib.Core.Logic.{◌⊎◌, inl, inr}
use native.Mathlib.Omega.{arith}
use borrow.Author.Tests.{ltb-true, ltb-false, lt-ltb, eqb-true, eqb-false}
use lib.Dec.{ltb, eqb}
use lib.ListN.{length, get_or, set, take, replicate, length-set, length-append}
use lib.Seq.{set_out, set-get_or, get_or-set_same, get_or-set_other}
use Rattle.records.specs.Records.{Sec, width_of, most_of, records_of, count, slot, put, add, empty}
use Rattle.records.proofs.Encode.{Fit, Good, good-add, good-put, fit_wide, wide_at}
use Rattle.rows.specs.Sections.{sections, file}
use Rattle.grammar.specs.Move.{values, puts, added, applied}
use Rattle.grammar.specs.Read.{start}
use Rattle.grammar.specs.declared.state.Act.{Act}

-- ---- one store

-- where an element is changed in its place, it is there after that; past the list nothing is
here : {A : Type 0} (f : A → A) (z : A) → f z ≡ z → (l : List A) (n : ℕ) → get_or (set l n (f (get_or l n z))) n z ≡ f (get_or l n z)
here f z h [] n = sym h
here f z h (x ∷ xs) zero = refl
here f z h (x ∷ xs) (suc n) = here f z h xs n

module _ (d : List (List (List ℕ))) (j i k v : ℕ) where
  records-put : records_of (put d j i k v) j ≡ set (records_of d j) i (set (get_or (records_of d j) i []) k v)
  records-put = here (λ (r : List (List ℕ)). set r i (set (get_or r i []) k v)) [] refl d j

  record-put : get_or (records_of (put d j i k v) j) i [] ≡ set (get_or (records_of d j) i []) k v
  record-put = rw records-put (here (λ (r : List ℕ). set r k v) [] refl (records_of d j) i)

  -- a store where there is no record
  put-past : count d j ≤ i → put d j i k v ≡ d
  put-past h = rw (set_out (records_of d j) i (set (get_or (records_of d j) i []) k v) h) (set-get_or d j [])

  slot-put : k < length (get_or (records_of d j) i []) → slot (put d j i k v) j i k ≡ v
  slot-put h = rw record-put (get_or-set_same (get_or (records_of d j) i []) k v 0 h)

  -- a store at another place
  slot_kept : (j' i' k' : ℕ) → (j' ≡ j → i' ≡ i → k' ≡ k → ⊥) → slot (put d j i k v) j' i' k' ≡ slot d j' i' k'
  slot_kept j' i' k' h = by-section (eqb j' j) refl where
    by-slot : j' ≡ j → i' ≡ i → slot (put d j i k v) j i k' ≡ slot d j i k'
    by-slot p q = rw record-put (get_or-set_other (get_or (records_of d j) i []) k k' v 0 (h p q))

    by-record : j' ≡ j → (t : Bool) → eqb i' i ≡ t → slot (put d j i k v) j i' k' ≡ slot d j i' k'
    by-record p true q = rw (eqb-true i' i q) (by-slot p (eqb-true i' i q))
    by-record p false q = rw records-put (ap (λ (r : List ℕ). get_or r k' 0) (get_or-set_other (records_of d j) i i' (set (get_or (records_of d j) i []) k v) [] (eqb-false i' i q)))

    by-section : (t : Bool) → eqb j' j ≡ t → slot (put d j i k v) j' i' k' ≡ slot d j' i' k'
    by-section true p = rw (eqb-true j' j p) (by-record (eqb-true j' j p) (eqb i' i) refl)
    by-section false p = ap (λ (r : List (List ℕ)). get_or (get_or r i' []) k' 0) (get_or-set_other d j j' (set (records_of d j) i (set (get_or (records_of d j) i []) k v)) [] (eqb-false j' j p))

  count-put : (j' : ℕ) → count (put d j i k v) j' ≡ count d j'
  count-put j' = by-section (eqb j' j) refl where
    by-section : (t : Bool) → eqb j' j ≡ t → count (put d j i k v) j' ≡ count d j'
    by-section true p = rw (eqb-true j' j p) (ap length records-put ∙ length-set (records_of d j) i (set (get_or (records_of d j) i []) k v))
    by-section false p = ap length (get_or-set_other d j j' (set (records_of d j) i (set (get_or (records_of d j) i []) k v)) [] (eqb-false j' j p))

-- ---- several stores

pub count-puts : (d : List (List (List ℕ))) (j i k : ℕ) (vs : List ℕ) (j' : ℕ) → count (puts d j i k vs) j' ≡ count d j'
count-puts d j i k [] j' = refl
count-puts d j i k (v ∷ vs) j' = count-puts (put d j i k v) j i (suc k) vs j' ∙ count-put d j i k v j'

puts-past : (d : List (List (List ℕ))) (j i k : ℕ) (vs : List ℕ) → count d j ≤ i → puts d j i k vs ≡ d
puts-past d j i k [] h = refl
puts-past d j i k (v ∷ vs) h = rw (put-past d j i k v h) (puts-past d j i (suc k) vs h)

-- at another place
puts-kept : (j i : ℕ) (vs : List ℕ) (d : List (List (List ℕ))) (k : ℕ) (j' i' k' : ℕ) → (j' ≡ j → i' ≡ i → (k' < k) ⊎ (k + length vs ≤ k'))
    → slot (puts d j i k vs) j' i' k' ≡ slot d j' i' k'
puts-kept j i [] d k j' i' k' h = refl
puts-kept j i (v ∷ vs) d k j' i' k' h =
    puts-kept j i vs (put d j i k v) (suc k) j' i' k' (λ p q. later (h p q))
    ∙ slot_kept d j i k v j' i' k' (λ p q r. not-here (h p q) r) where
      later : (k' < k) ⊎ (k + length (v ∷ vs) ≤ k') → (k' < suc k) ⊎ (suc k + length vs ≤ k')
      later (inl l) = inl (omega arith)
      later (inr l) = inr (omega arith)

      not-here : (k' < k) ⊎ (k + length (v ∷ vs) ≤ k') → k' ≡ k → ⊥
      not-here (inl l) r = omega arith
      not-here (inr l) r = omega arith

-- the slot that is number n of those written, in a record that is wide enough
puts-at : (j i : ℕ) (vs : List ℕ) (d : List (List (List ℕ))) (k n : ℕ) → Good sections d → i < count d j → k + n < width_of sections j → n < length vs
    → slot (puts d j i k vs) j i (k + n) ≡ get_or vs n 0
puts-at j i [] d k n g hi hk hn = absurd (omega arith)
puts-at j i (v ∷ vs) d k zero g hi hk hn =
    let w : length (get_or (records_of d j) i []) ≡ width_of sections j = wide_at (width_of sections j) (records_of d j) i (fit_wide sections d j g) hi in
    let e : k + 0 ≡ k = omega arith in
    rw e (puts-kept j i vs (put d j i k v) (suc k) j i k (λ p q. inl (omega arith)) ∙ slot-put d j i k v (omega arith))
puts-at j i (v ∷ vs) d k (suc n) g hi hk hn =
    let e : k + suc n ≡ suc k + n = omega arith in
    rw e (puts-at j i vs (put d j i k v) (suc k) n (good-put sections 0 d g j i k v) (omega (arith, count-put d j i k v j)) (omega arith) (omega arith))

-- ---- one record more

zeros : (w k : ℕ) → ◌≡◌ {A = ℕ} (get_or (replicate w 0) k 0) 0
zeros zero k = refl
zeros (suc w) zero = refl
zeros (suc w) (suc k) = zeros w k

-- a record of zeros at the end reads as none does
more : (r : List (List ℕ)) (w i k : ℕ) → get_or (get_or (r ++ (replicate w 0 ∷ [])) i []) k 0 ≡ get_or (get_or r i []) k 0
more [] w zero k = zeros w k
more [] w (suc i) k = refl
more (x ∷ xs) w zero k = refl
more (x ∷ xs) w (suc i) k = more xs w i k

abbrev longer : List (List (List ℕ)) → ℕ → List (List ℕ)
longer d j = records_of d j ++ (replicate (width_of sections j) 0 ∷ [])

module _ (d : List (List (List ℕ))) (j : ℕ) where
  slot-longer : (j' i k : ℕ) → slot (set d j (longer d j)) j' i k ≡ slot d j' i k
  slot-longer j' i k = by-section (eqb j' j) refl where
    by_length : (t : Bool) → ltb j (length d) ≡ t → slot (set d j (longer d j)) j i k ≡ slot d j i k
    by_length true p = rw (get_or-set_same d j (longer d j) [] (ltb-true j (length d) p)) (more (records_of d j) (width_of sections j) i k)
    by_length false p = rw (set_out d j (longer d j) (ltb-false j (length d) p))

    by-section : (t : Bool) → eqb j' j ≡ t → slot (set d j (longer d j)) j' i k ≡ slot d j' i k
    by-section true p = rw (eqb-true j' j p) (by_length (ltb j (length d)) refl)
    by-section false p = ap (λ (r : List (List ℕ)). get_or (get_or r i []) k 0) (get_or-set_other d j j' (longer d j) [] (eqb-false j' j p))

  slot-add : (j' i k : ℕ) → slot (add sections d j) j' i k ≡ slot d j' i k
  slot-add j' i k = by-room (ltb (count d j) (most_of sections j)) where
    by-room : (t : Bool) → slot (cond t (set d j (longer d j)) d) j' i k ≡ slot d j' i k
    by-room true = slot-longer j' i k
    by-room false = refl

  count-other : (j' : ℕ) → (j' ≡ j → ⊥) → count (add sections d j) j' ≡ count d j'
  count-other j' h = by-room (ltb (count d j) (most_of sections j)) where
    by-room : (t : Bool) → count (cond t (set d j (longer d j)) d) j' ≡ count d j'
    by-room true = ap length (get_or-set_other d j j' (longer d j) [] h)
    by-room false = refl

  count-longer : count d j ≤ count (set d j (longer d j)) j
  count-longer = by_length (ltb j (length d)) refl where
    by_length : (t : Bool) → ltb j (length d) ≡ t → count d j ≤ count (set d j (longer d j)) j
    by_length true p = rw (get_or-set_same d j (longer d j) [] (ltb-true j (length d) p), length-append (records_of d j) (replicate (width_of sections j) 0 ∷ [])) (omega arith)
    by_length false p = rw (set_out d j (longer d j) (ltb-false j (length d) p)) (omega arith)

  count_add : (j' : ℕ) → count d j' ≤ count (add sections d j) j'
  count_add j' = by-section (eqb j' j) refl where
    by-room : (t : Bool) → count d j ≤ count (cond t (set d j (longer d j)) d) j
    by-room true = count-longer
    by-room false = omega arith

    by-section : (t : Bool) → eqb j' j ≡ t → count d j' ≤ count (add sections d j) j'
    by-section true p = rw (eqb-true j' j p) (by-room (ltb (count d j) (most_of sections j)))
    by-section false p = omega (arith, count-other j' (eqb-false j' j p))

-- where there is room
module _ (r : List (List ℕ)) where
  set-count : (ss : List Sec) (d : List (List (List ℕ))) (j : ℕ) → Fit ss d → count d j < most_of ss j → count (set d j r) j ≡ length r
  set-count [] d j f l = absurd (omega arith)
  set-count (s ∷ ss) [] j f l = absurd f
  set-count (s ∷ ss) (e ∷ d) zero f l = refl
  set-count (s ∷ ss) (e ∷ d) (suc j) f l = set-count ss d j f.2 l

count_room : (d : List (List (List ℕ))) (j : ℕ) → Good sections d → count d j < most_of sections j → count (add sections d j) j ≡ suc (count d j)
count_room d j g l =
    rw (lt-ltb (count d j) (most_of sections j) l)
    (set-count (longer d j) sections d j g l ∙ length-append (records_of d j) (replicate (width_of sections j) 0 ∷ []) ∙ omega arith)

-- ---- an act

few : (m : ℕ) (l : List ℕ) → length (take m l) ≤ m
few zero l = omega arith
few (suc m) [] = omega arith
few (suc m) (x ∷ xs) = let h : length (take m xs) ≤ m = few m xs in omega arith

module _ (a : Act) (d : List (List (List ℕ))) where
  -- not one of the slots that are written
  pub clear-slot : (j i k : ℕ) → (j ≡ a.sec → (k < a.slot) ⊎ (a.slot + a.many ≤ k)) → slot (applied a d) j i k ≡ slot d j i k
  unfolding applied
  clear-slot j i k h =
      puts-kept a.sec (count (added a d) a.sec - 1) (values a) (added a d) a.slot j i k (λ p q. fewer (h p)) ∙ slot-add d a.adds j i k where
        fewer : (k < a.slot) ⊎ (a.slot + a.many ≤ k) → (k < a.slot) ⊎ (a.slot + length (values a) ≤ k)
        fewer (inl l) = inl l
        fewer (inr l) = inr (omega (arith, few a.many (a.a ∷ a.b ∷ a.c ∷ a.d ∷ [])))

  -- not the last record
  pub other-slot : (j i k : ℕ) → (suc i ≡ count (applied a d) j → ⊥) → slot (applied a d) j i k ≡ slot d j i k
  unfolding applied
  other-slot j i k h = by-some (ltb 0 (count (added a d) a.sec)) refl where
    n : ℕ
    n = count (added a d) a.sec

    last : 0 < n → j ≡ a.sec → i ≡ n - 1 → ⊥
    last l p q = h (omega (arith, count-puts (added a d) a.sec (n - 1) a.slot (values a) j, ap (count (added a d)) p))

    by-some : (t : Bool) → ltb 0 n ≡ t → slot (puts (added a d) a.sec (n - 1) a.slot (values a)) j i k ≡ slot d j i k
    by-some true t =
        puts-kept a.sec (n - 1) (values a) (added a d) a.slot j i k (λ p q. absurd (last (ltb-true 0 n t) p q)) ∙ slot-add d a.adds j i k
    by-some false t = rw (puts-past (added a d) a.sec (n - 1) a.slot (values a) (omega (arith, ltb-false 0 n t))) (slot-add d a.adds j i k)

  -- number n of those written, in the last record
  pub written-slot : (i n : ℕ) → Good sections d → suc i ≡ count (applied a d) a.sec → a.slot + n < width_of sections a.sec → n < length (values a)
      → slot (applied a d) a.sec i (a.slot + n) ≡ get_or (values a) n 0
  unfolding applied
  written-slot i n g h w l =
      let c : count (applied a d) a.sec ≡ count (added a d) a.sec = count-puts (added a d) a.sec (count (added a d) a.sec - 1) a.slot (values a) a.sec in
      let e : i ≡ count (added a d) a.sec - 1 = omega arith in
      rw e (puts-at a.sec (count (added a d) a.sec - 1) (values a) (added a d) a.slot n (good-add sections 0 d g a.adds) (omega arith) w l)

  pub more-records : (j : ℕ) → count d j ≤ count (applied a d) j
  unfolding applied
  more-records j = rw (count-puts (added a d) a.sec (count (added a d) a.sec - 1) a.slot (values a) j) (count_add d a.adds j)

  pub same_count : (j : ℕ) → (j ≡ a.adds → ⊥) → count (applied a d) j ≡ count d j
  unfolding applied
  same_count j h = count-puts (added a d) a.sec (count (added a d) a.sec - 1) a.slot (values a) j ∙ count-other d a.adds j h

  pub one-record : Good sections d → count d a.adds < most_of sections a.adds → count (applied a d) a.adds ≡ suc (count d a.adds)
  unfolding applied
  one-record g l = count-puts (added a d) a.sec (count (added a d) a.sec - 1) a.slot (values a) a.adds ∙ count_room d a.adds g l

-- ---- the start

no-records : (n j : ℕ) → ◌≡◌ {A = List (List ℕ)} (get_or (replicate n []) j []) []
no-records zero j = refl
no-records (suc n) zero = refl
no-records (suc n) (suc j) = no-records n j

pub start-slot : (j i k : ℕ) → ◌≡◌ {A = ℕ} (slot start j i k) 0
unfolding start
start-slot j i k = slot-add (empty sections) file j i k ∙ ap (λ (r : List (List ℕ)). get_or (get_or r i []) k 0) (no-records (length sections) j)
