-- The cells hold the records: each operation on the cells of some records gives the cells of the records after it.
--     Good ss d       every section of d has records of its width, and at most as many as it may
--     count-encode, slot-encode, put-encode, add-encode      the operations
--     good-put, good-add, none-good     what keeps and starts Good;  none-encode: no records are zeros
use Prim.Native.Nat.{ℕ, zero, suc, ◌+◌, ◌-◌, ◌*◌, ◌<◌, ◌≤◌, min}
use mathlib.Core.Path.{◌≡◌, refl, ap, sym, ◌∙◌}
use mathlib.Core.List.{List, [], ◌∷◌, ◌++◌, append_assoc, append-nil}
use mathlib.Core.Bool.{Bool, true, false, cond, ◌&&◌, true≢false, false≢true}
use native.Mathlib.Nat.{suc-add, zero-add, add-zero, mul-le-mul_left, mul-suc}
use native.Mathlib.Omega.{arith}
use borrow.Author.Tests.{ltb-true, ltb-false}
use lib.Dec.{ltb}
use lib.ListN.{length, get_or, set, replicate, length-append, length-set, length-replicate, get_or-append, get_or-eq_default, get_or-replicate, replicate-append-replicate}
use lib.Seq.{get_or-append-add, set-append_left, set-get_or, set_out}
use Rattle.records.specs.Records.{Sec, no_sec, width_of, most_of, records_of, count, slot, put, add, empty}
use Rattle.records.specs.Cells.{joined, part, size, base_in, room, whole, encode, section_in, place, count_in, slot_in, put_in, add_in}

and_left : (a b : Bool) → (a && b) ≡ true → a ≡ true
and_left true b e = refl
and_left false b e = e

and_right : (a b : Bool) → (a && b) ≡ true → b ≡ true
and_right true b e = e
and_right false b e = absurd (false≢true e)

-- ---- records of one width

abbrev pub Wide : ℕ → List (List ℕ) → Type 0
Wide w [] = Unit {0}
Wide w (r ∷ rs) = (length r ≡ w) × Wide w rs

abbrev pub Fit : List Sec → List (List (List ℕ)) → Type 0
Fit [] ds = ds ≡ []
Fit (s ∷ ss) [] = ⊥
Fit (s ∷ ss) (d ∷ ds) = (Wide s.width d) × (length d ≤ s.most) × Fit ss ds

abbrev pub Good : List Sec → List (List (List ℕ)) → Type 0
Good ss d = Fit ss d

set-append-add : (xs ys : List ℕ) (n v : ℕ) → set (xs ++ ys) (length xs + n) v ≡ xs ++ set ys n v
set-append-add [] ys n v = ap (λ (k : ℕ). set ys k v) (zero-add n)
set-append-add (x ∷ xs) ys n v =
    ap (λ (k : ℕ). set (x ∷ (xs ++ ys)) k v) (suc-add (length xs) n) ∙ ap (λ (l : List ℕ). x ∷ l) (set-append-add xs ys n v)

joined-add : (w : ℕ) (d : List (List ℕ)) → joined (d ++ (replicate w 0 ∷ [])) ≡ joined d ++ replicate w 0
joined-add w [] = append-nil (replicate w 0)
joined-add w (r ∷ rs) = ap (λ (l : List ℕ). r ++ l) (joined-add w rs) ∙ sym (append_assoc r (joined rs) (replicate w 0))

pub length-joined : (w : ℕ) (d : List (List ℕ)) → Wide w d → length (joined d) ≡ w * length d
length-joined w [] h = omega arith
length-joined w (r ∷ rs) h = length-append r (joined rs) ∙ omega (arith, h.0, length-joined w rs h.1)

length_part : (s : Sec) (d : List (List ℕ)) → Wide s.width d → length d ≤ s.most → length (part s d) ≡ size s
length_part s d h l =
    ap suc (length-append (joined d) _)
    ∙ omega (arith, length-joined s.width d h, length-replicate (s.width * s.most - s.width * length d) (Prim.Native.Nat.zero), mul-le-mul_left s.width l)

pub zeros : (m i : ℕ) → ◌≡◌ {A = ℕ} (get_or (replicate m 0) i 0) 0
zeros m i = by_place_lem (ltb i m) refl where
  by_place_lem : (t : Bool) → ltb i m ≡ t → ◌≡◌ {A = ℕ} (get_or (replicate m 0) i 0) 0
  by_place_lem true t = get_or-replicate m i 0 0 (ltb-true i m t)
  by_place_lem false t = get_or-eq_default (replicate m 0) 0 (rw (length-replicate {A = ℕ} m 0) (ltb-false i m t))

-- number k of record i, among records that stand one after the other with zeros after them
module _ (w m k : ℕ) (h : k < w) where
  get-joined : (d : List (List ℕ)) (i : ℕ) → Wide w d → get_or (joined d ++ replicate m 0) (w * i + k) 0 ≡ get_or (get_or d i []) k 0
  get-joined [] i f = zeros m (w * i + k)
  get-joined (r ∷ rs) zero f =
      let e : w * 0 + k ≡ k = omega arith in
      rw (e, append_assoc r (joined rs) (replicate m 0)) (get_or-append r (joined rs ++ replicate m 0) 0 k (rw f.0 h))
  get-joined (r ∷ rs) (suc i) f =
      let e : w * suc i + k ≡ length r + (w * i + k) = omega (arith, f.0, mul-suc w i) in
      rw (e, append_assoc r (joined rs) (replicate m 0)) (get_or-append-add r (joined rs ++ replicate m 0) (w * i + k) 0 ∙ get-joined rs i f.1)

  set-joined : (v : ℕ) (d : List (List ℕ)) (i : ℕ) → Wide w d → i < length d
      → set (joined d ++ replicate m 0) (w * i + k) v ≡ joined (set d i (set (get_or d i []) k v)) ++ replicate m 0
  set-joined v [] i f l = absurd (omega arith)
  set-joined v (r ∷ rs) zero f l =
      let e : w * 0 + k ≡ k = omega arith in
      rw (e, append_assoc r (joined rs) (replicate m 0), append_assoc (set r k v) (joined rs) (replicate m 0)) (set-append_left r (joined rs ++ replicate m 0) k v (rw f.0 h))
  set-joined v (r ∷ rs) (suc i) f l =
      let e : w * suc i + k ≡ length r + (w * i + k) = omega (arith, f.0, mul-suc w i) in
      rw (e, append_assoc r (joined rs) (replicate m 0), append_assoc r (joined (set rs i (set (get_or rs i []) k v))) (replicate m 0))
      (set-append-add r (joined rs ++ replicate m 0) (w * i + k) v ∙ ap (λ (l : List ℕ). r ++ l) (set-joined v rs i f.1 (omega arith)))

-- ---- one section among several

pub get-part : (z : List ℕ) (ss : List Sec) (ds : List (List (List ℕ))) (j i : ℕ) → Fit ss ds → j < length ss → i < size (get_or ss j no_sec)
    → get_or (whole ss ds z) (base_in ss j + i) 0 ≡ get_or (part (get_or ss j no_sec) (get_or ds j [])) i 0
get-part z [] ds j i f p q = absurd (omega arith)
get-part z (s ∷ ss) [] j i f p q = absurd f
get-part z (s ∷ ss) (d ∷ ds) zero i f p q =
    rw (zero-add i) (get_or-append (part s d) (whole ss ds z) 0 i (rw (length_part s d f.0 f.1) q))
get-part z (s ∷ ss) (d ∷ ds) (suc j) i f p q =
    let e : size s + base_in ss j + i ≡ length (part s d) + (base_in ss j + i) = omega (arith, length_part s d f.0 f.1) in
    rw e (get_or-append-add (part s d) (whole ss ds z) (base_in ss j + i) 0 ∙ get-part z ss ds j i f.2 (omega arith) q)

-- what a store does to the section it does to the whole
set-part : (z : List ℕ) (ss : List Sec) (ds : List (List (List ℕ))) (j i v : ℕ) (d2 : List (List ℕ)) → Fit ss ds → j < length ss → i < size (get_or ss j no_sec)
    → set (part (get_or ss j no_sec) (get_or ds j [])) i v ≡ part (get_or ss j no_sec) d2
    → set (whole ss ds z) (base_in ss j + i) v ≡ whole ss (set ds j d2) z
set-part z [] ds j i v d2 f p q e = absurd (omega arith)
set-part z (s ∷ ss) [] j i v d2 f p q e = absurd f
set-part z (s ∷ ss) (d ∷ ds) zero i v d2 f p q e =
    rw (zero-add i)
    (set-append_left (part s d) (whole ss ds z) i v (rw (length_part s d f.0 f.1) q) ∙ ap (λ (l : List ℕ). l ++ whole ss ds z) e)
set-part z (s ∷ ss) (d ∷ ds) (suc j) i v d2 f p q e =
    let a : size s + base_in ss j + i ≡ length (part s d) + (base_in ss j + i) = omega (arith, length_part s d f.0 f.1) in
    rw a (set-append-add (part s d) (whole ss ds z) (base_in ss j + i) v
    ∙ ap (λ (l : List ℕ). part s d ++ l) (set-part z ss ds j i v d2 f.2 (omega arith) q e))

-- ---- what the sections keep

wide-set : (w : ℕ) (d : List (List ℕ)) (i : ℕ) (r : List ℕ) → length r ≡ w → Wide w d → Wide w (set d i r)
wide-set w [] i r e h = h
wide-set w (x ∷ xs) zero r e h = (e, h.1)
wide-set w (x ∷ xs) (suc i) r e h = (h.0, wide-set w xs i r e h.1)

pub wide_at : (w : ℕ) (d : List (List ℕ)) (i : ℕ) → Wide w d → i < length d → length (get_or d i []) ≡ w
wide_at w [] i h l = absurd (omega arith)
wide_at w (x ∷ xs) zero h l = h.0
wide_at w (x ∷ xs) (suc i) h l = wide_at w xs i h.1 (omega arith)

wide-add : (w : ℕ) (d : List (List ℕ)) → Wide w d → Wide w (d ++ (replicate w 0 ∷ []))
wide-add w [] h = (length-replicate w 0, tt)
wide-add w (r ∷ rs) h = (h.0, wide-add w rs h.1)

-- past the sections there are no records
fit-past : (ss : List Sec) (ds : List (List (List ℕ))) (j : ℕ) → Fit ss ds → length ss ≤ j → get_or ds j [] ≡ []
fit-past [] ds j f h = rw f
fit-past (s ∷ ss) [] j f h = absurd f
fit-past (s ∷ ss) (d ∷ ds) zero f h = absurd (omega arith)
fit-past (s ∷ ss) (d ∷ ds) (suc j) f h = fit-past ss ds j f.2 (omega arith)

pub fit_wide : (ss : List Sec) (ds : List (List (List ℕ))) (j : ℕ) → Fit ss ds → Wide (width_of ss j) (get_or ds j [])
fit_wide [] ds j f = rw f tt
fit_wide (s ∷ ss) [] j f = absurd f
fit_wide (s ∷ ss) (d ∷ ds) zero f = f.0
fit_wide (s ∷ ss) (d ∷ ds) (suc j) f = fit_wide ss ds j f.2

pub fit-few : (ss : List Sec) (ds : List (List (List ℕ))) (j : ℕ) → Fit ss ds → length (get_or ds j []) ≤ most_of ss j
fit-few [] ds j f = rw f (omega arith)
fit-few (s ∷ ss) [] j f = absurd f
fit-few (s ∷ ss) (d ∷ ds) zero f = f.1
fit-few (s ∷ ss) (d ∷ ds) (suc j) f = fit-few ss ds j f.2

fit-set : (ss : List Sec) (ds : List (List (List ℕ))) (j : ℕ) (e : List (List ℕ)) → Fit ss ds → Wide (width_of ss j) e → length e ≤ most_of ss j → Fit ss (set ds j e)
fit-set [] ds j e f w l = rw f
fit-set (s ∷ ss) [] j e f w l = absurd f
fit-set (s ∷ ss) (d ∷ ds) zero e f w l = (w, l, f.2)
fit-set (s ∷ ss) (d ∷ ds) (suc j) e f w l = (f.0, f.1, fit-set ss ds j e f.2 w l)

-- ---- the operations

module _ (ss : List Sec) (n : ℕ) (d : List (List (List ℕ))) (g : Good ss d) (j : ℕ) where
  inside : (i k : ℕ) → i < most_of ss j → k < width_of ss j → suc (width_of ss j * i + k) < size (get_or ss j no_sec)
  inside i k hi hk =
      let a : width_of ss j * suc i ≤ width_of ss j * most_of ss j = mul-le-mul_left (width_of ss j) hi in
      omega (arith, mul-suc (width_of ss j) i)

  past-none : length ss ≤ j → (width_of ss j ≡ 0) × (most_of ss j ≡ 0)
  past-none h = (ap (λ (x : Sec). x.width) (get_or-eq_default ss no_sec h), ap (λ (x : Sec). x.most) (get_or-eq_default ss no_sec h))

  -- a section that may have records is one of the sections
  listed : (m : ℕ) → m < most_of ss j → j < length ss
  listed m h = by_place_lem (ltb j (length ss)) refl where
    by_place_lem : (t : Bool) → ltb j (length ss) ≡ t → j < length ss
    by_place_lem true t = ltb-true j (length ss) t
    by_place_lem false t = absurd (omega (arith, (past-none (ltb-false j (length ss) t)).1))

  pub count-encode : count_in (encode ss n d) (section_in ss j) ≡ count d j
  unfolding count_in encode
  count-encode = by_most (ltb 0 (most_of ss j)) refl where
    by_most : (t : Bool) → ltb 0 (most_of ss j) ≡ t → min (get_or (whole ss d (replicate (n - room ss) 0)) (base_in ss j) 0) (most_of ss j) ≡ length (get_or d j [])
    by_most true t =
        let e : get_or (whole ss d (replicate (n - room ss) 0)) (base_in ss j) 0 ≡ length (get_or d j []) = rw (← add-zero (base_in ss j)) (get-part (replicate (n - room ss) 0) ss d j 0 g (listed 0 (ltb-true 0 (most_of ss j) t)) (omega arith)) in
        let l : length (get_or d j []) ≤ most_of ss j = fit-few ss d j g in
        rw e (omega arith)
    by_most false t = let l : length (get_or d j []) ≤ most_of ss j = fit-few ss d j g in omega (arith, ltb-false 0 (most_of ss j) t)

  pub slot-encode : (i k : ℕ) → slot_in (encode ss n d) (section_in ss j) i k ≡ slot d j i k
  unfolding slot_in encode
  slot-encode i k = by_tests (ltb i (most_of ss j)) (ltb k (width_of ss j)) refl refl where
    r : List (List ℕ)
    r = get_or d j []

    past : width_of ss j ≤ k → 0 ≡ get_or (get_or r i []) k 0
    past h = by_place_lem (ltb i (length r)) refl where
      by_place_lem : (t : Bool) → ltb i (length r) ≡ t → 0 ≡ get_or (get_or r i []) k 0
      by_place_lem true t = sym (get_or-eq_default (get_or r i []) 0 (rw (wide_at (width_of ss j) r i (fit_wide ss d j g) (ltb-true i (length r) t)) h))
      by_place_lem false t = rw (get_or-eq_default r [] (ltb-false i (length r) t))

    by_tests : (a b : Bool) → ltb i (most_of ss j) ≡ a → ltb k (width_of ss j) ≡ b → cond (a && b) (get_or (whole ss d (replicate (n - room ss) 0)) (place (section_in ss j) i k) 0) 0 ≡ get_or (get_or r i []) k 0
    by_tests false b p q = let l : length r ≤ most_of ss j = fit-few ss d j g in let m : length r ≤ i = omega (arith, ltb-false i (most_of ss j) p) in rw (get_or-eq_default r [] m)
    by_tests true false p q = past (ltb-false k (width_of ss j) q)
    by_tests true true p q =
        let e : place (section_in ss j) i k ≡ base_in ss j + suc (width_of ss j * i + k) = omega arith in
        rw e (get-part (replicate (n - room ss) 0) ss d j _ g (listed i (ltb-true i (most_of ss j) p)) (inside i k (ltb-true i (most_of ss j) p) (ltb-true k (width_of ss j) q))
        ∙ get-joined (width_of ss j) (width_of ss j * most_of ss j - width_of ss j * length r) k (ltb-true k (width_of ss j) q) r i (fit_wide ss d j g))

  -- number k of record i set
  put-part : (i k v : ℕ) → k < width_of ss j → i < length (get_or d j [])
      → set (part (get_or ss j no_sec) (get_or d j [])) (suc (width_of ss j * i + k)) v ≡ part (get_or ss j no_sec) (set (get_or d j []) i (set (get_or (get_or d j []) i []) k v))
  put-part i k v hk hi =
      rw (length-set (get_or d j []) i (set (get_or (get_or d j []) i []) k v))
      (ap (λ (l : List ℕ). length (get_or d j []) ∷ l) (set-joined (width_of ss j) (width_of ss j * most_of ss j - width_of ss j * length (get_or d j [])) k hk v (get_or d j []) i (fit_wide ss d j g) hi))

  -- nothing is set where there is no such number
  put-nothing : (i k v : ℕ) → (ltb i (count d j) && ltb k (width_of ss j)) ≡ false → d ≡ put d j i k v
  put-nothing i k v h = by_tests (ltb i (length r)) (ltb k (width_of ss j)) refl refl where
    r : List (List ℕ)
    r = get_or d j []

    -- the record, set to what it is
    same : set r i (set (get_or r i []) k v) ≡ r → d ≡ put d j i k v
    same e = sym (rw e (set-get_or d j []))

    by_tests : (a b : Bool) → ltb i (length r) ≡ a → ltb k (width_of ss j) ≡ b → d ≡ put d j i k v
    by_tests false b p q = same (set_out r i _ (ltb-false i (length r) p))
    by_tests true false p q =
        let w : length (get_or r i []) ≤ k = rw (wide_at (width_of ss j) r i (fit_wide ss d j g) (ltb-true i (length r) p)) (ltb-false k (width_of ss j) q) in
        same (rw (set_out (get_or r i []) k v w) (set-get_or r i []))
    by_tests true true p q = absurd (true≢false (rw (p, q) at h))

  there : (i k v : ℕ) → (ltb i (count d j) && ltb k (width_of ss j)) ≡ true → set (encode ss n d) (place (section_in ss j) i k) v ≡ encode ss n (put d j i k v)
  unfolding encode
  there i k v t =
      let hi : i < count d j = ltb-true i (count d j) (and_left (ltb i (count d j)) _ t) in
      let hk : k < width_of ss j = ltb-true k (width_of ss j) (and_right (ltb i (count d j)) _ t) in
      let l : count d j ≤ most_of ss j = fit-few ss d j g in
      let e : place (section_in ss j) i k ≡ base_in ss j + suc (width_of ss j * i + k) = omega arith in
      rw e (set-part (replicate (n - room ss) 0) ss d j _ v _ g (listed i (omega arith)) (inside i k (omega arith) hk) (put-part i k v hk hi))

  pub put-encode : (i k v : ℕ) → put_in (encode ss n d) (section_in ss j) i k v ≡ encode ss n (put d j i k v)
  unfolding put_in
  put-encode i k v = rw count-encode (by-test (ltb i (count d j) && ltb k (width_of ss j)) refl) where
    by-test : (t : Bool) → (ltb i (count d j) && ltb k (width_of ss j)) ≡ t → cond t (set (encode ss n d) (place (section_in ss j) i k) v) (encode ss n d) ≡ encode ss n (put d j i k v)
    by-test false t = ap (encode ss n) (put-nothing i k v t)
    by-test true t = there i k v t

  pub good-put : (i k v : ℕ) → Good ss (put d j i k v)
  good-put i k v =
      fit-set ss d j _ g (by_place_lem (ltb i (length r)) refl)
      (rw (length-set r i (set (get_or r i []) k v)) (fit-few ss d j g)) where
        r : List (List ℕ)
        r = get_or d j []

        by_place_lem : (t : Bool) → ltb i (length r) ≡ t → Wide (width_of ss j) (set r i (set (get_or r i []) k v))
        by_place_lem true t = wide-set (width_of ss j) r i _ (length-set (get_or r i []) k v ∙ wide_at (width_of ss j) r i (fit_wide ss d j g) (ltb-true i (length r) t)) (fit_wide ss d j g)
        by_place_lem false t = rw (set_out r i (set (get_or r i []) k v) (ltb-false i (length r) t)) (fit_wide ss d j g)

  part-add : length (get_or d j []) < most_of ss j
      → set (part (get_or ss j no_sec) (get_or d j [])) 0 (length (get_or d j []) + 1) ≡ part (get_or ss j no_sec) (get_or d j [] ++ (replicate (width_of ss j) 0 ∷ []))
  part-add l =
      let c : ℕ = length (get_or d j []) in
      let w : ℕ = width_of ss j in
      let a : length (get_or d j [] ++ (replicate (width_of ss j) 0 ∷ [])) ≡ c + 1 = length-append (get_or d j []) (replicate (width_of ss j) 0 ∷ []) in
      let m : w * (c + 1) ≤ w * most_of ss j = mul-le-mul_left w (omega arith) in
      let b : w * most_of ss j - w * c ≡ w + (w * most_of ss j - w * (c + 1)) = omega arith in
      rw (a, joined-add w (get_or d j []), b)
      (ap (λ (r : List ℕ). (c + 1) ∷ r)
      (ap (λ (r : List ℕ). joined (get_or d j []) ++ r) (sym (replicate-append-replicate w (w * most_of ss j - w * (c + 1)) 0))
      ∙ sym (append_assoc (joined (get_or d j [])) (replicate w 0) _)))

  added : count d j < most_of ss j → set (encode ss n d) (base_in ss j) (count d j + 1) ≡ encode ss n (set d j (records_of d j ++ (replicate (width_of ss j) 0 ∷ [])))
  unfolding encode
  added l = rw (← add-zero (base_in ss j)) (set-part (replicate (n - room ss) 0) ss d j 0 _ _ g (listed (count d j) l) (omega arith) (part-add l))

  pub add-encode : add_in (encode ss n d) (section_in ss j) ≡ encode ss n (add ss d j)
  unfolding add_in
  add-encode = rw count-encode (by-test (ltb (count d j) (most_of ss j)) refl) where
    by-test : (t : Bool) → ltb (count d j) (most_of ss j) ≡ t → cond t (set (encode ss n d) (base_in ss j) (count d j + 1)) (encode ss n d) ≡ encode ss n (cond t (set d j (records_of d j ++ (replicate (width_of ss j) 0 ∷ []))) d)
    by-test true t = added (ltb-true (count d j) (most_of ss j) t)
    by-test false t = refl

  pub good-add : Good ss (add ss d j)
  good-add = by-test (ltb (count d j) (most_of ss j)) refl where
    by-test : (t : Bool) → ltb (count d j) (most_of ss j) ≡ t → Good ss (cond t (set d j (records_of d j ++ (replicate (width_of ss j) 0 ∷ []))) d)
    by-test true t =
        let l : count d j < most_of ss j = ltb-true (count d j) (most_of ss j) t in
        fit-set ss d j _ g (wide-add (width_of ss j) (records_of d j) (fit_wide ss d j g))
        (rw (length-append (records_of d j) (replicate (width_of ss j) 0 ∷ [])) (omega arith))
    by-test false t = g

-- ---- no records

zero-part : (s : Sec) → replicate (size s) 0 ≡ part s []
zero-part s =
    let e : size s ≡ suc (s.width * s.most - s.width * 0) = omega arith in
    rw e

none-whole : (ss : List Sec) (m : ℕ) → replicate (room ss + m) 0 ≡ whole ss (empty ss) (replicate m 0)
none-whole [] m = ap (λ (k : ℕ). replicate k 0) (zero-add m)
none-whole (s ∷ ss) m =
    let e : size s + room ss + m ≡ size s + (room ss + m) = omega arith in
    rw (e, ← replicate-append-replicate {A = ℕ} (size s) (room ss + m) 0)
    (ap (λ (l : List ℕ). replicate (size s) 0 ++ l) (none-whole ss m) ∙ ap (λ (l : List ℕ). l ++ whole ss (empty ss) (replicate m 0)) (zero-part s))

-- an empty table is zeros
pub none-encode : (ss : List Sec) (n : ℕ) → room ss ≤ n → replicate n 0 ≡ encode ss n (empty ss)
unfolding encode
none-encode ss n h =
    let e : n ≡ room ss + (n - room ss) = omega arith in
    ap (λ (k : ℕ). replicate k 0) e ∙ none-whole ss (n - room ss)

pub none-good : (ss : List Sec) → Good ss (empty ss)
none-good [] = refl
none-good (s ∷ ss) = (tt, omega arith, none-good ss)
