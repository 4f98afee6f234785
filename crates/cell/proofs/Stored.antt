-- Stored numbers, over any width: reading byte by byte from the most significant, writing byte by byte from the least, and there and back.
use mathlib.Core.Path.{◌≡◌, refl, sym, ap, ◌∙◌}
use mathlib.Core.Bool.{Bool, true, false, not}
use mathlib.Core.List.{List, [], ◌∷◌, ◌++◌, reverse, append_assoc, append-nil, reverse-append, reverse_aux-eq, reverse-reverse}
use Prim.Native.Nat.{ℕ, zero, suc, ◌+◌, ◌*◌, ◌-◌, ◌/◌, ◌%◌, ◌^◌, ◌≤◌, ◌<◌}
use native.Mathlib.Numerals.{add-one}
use native.Mathlib.Nat.{pow-suc, div-add-mod', pow-le-pow_right, add-zero, lt_of_lt_of_le}
use native.Mathlib.Omega.{arith}
use lib.Dec.{lit<}
use lib.ListN.{length, take, drop, get_or, set, length-take, length-drop, length-set, length-reverse, drop_of_length-le, take-append-drop}
use lib.Seq.{drop-cons, take-suc, take_all, get_or-take, get_or-drop, take-suc-set, take-set-le, drop-set-lt, set_split, drop_at, take_at}
use Rattle.cell.specs.Bytes.{number, digits, ordered, stored_at, with_stored, byte_place}

part_length : (p w : ℕ) (s : List ℕ) → p + w ≤ length s → length (take w (drop p s)) ≡ w
part_length p w s h = simp (length-take, length-drop) (omega arith)

-- ---- reading: the i most significant bytes of a part
abbrev pub top : Bool → ℕ → ℕ → List ℕ → List ℕ
top true w i q = reverse (take i q)
top false w i q = drop (w - i) q

pub top-none : (first : Bool) (p w : ℕ) (s : List ℕ) → p + w ≤ length s → 0 ≡ number (top first w 0 (take w (drop p s)))
unfolding number
top-none true p w s h = refl
top-none false p w s h = ap number (sym (drop_of_length-le (take w (drop p s)) {i = w - 0} (omega (arith, part_length p w s h))))

front-more : (q : List ℕ) (i : ℕ) → i < length q → number (reverse (take (i + 1) q)) ≡ number (reverse (take i q)) * 256 + get_or q i 0
unfolding number
front-more q i h = rw (add-one, take-suc q i 0, reverse-append)

back_more : (q : List ℕ) (j : ℕ) → j < length q → number (drop j q) ≡ number (drop (j + 1) q) * 256 + get_or q j 0
unfolding number
back_more q j h = rw (add-one, drop-cons q j 0)

part_at : (p w i : ℕ) (s : List ℕ) → i < w → get_or (take w (drop p s)) i 0 ≡ get_or s (p + i) 0
part_at p w i s h = rw (get_or-take, get_or-drop)

pub top-more : (first : Bool) (p w i : ℕ) (s : List ℕ) → p + w ≤ length s → i < w
    → number (top first w (i + 1) (take w (drop p s))) ≡ number (top first w i (take w (drop p s))) * 256 + get_or s (byte_place first p w i) 0
top-more true p w i s h k = rw (← part_at p w i s k) (front-more (take w (drop p s)) i (omega (arith, part_length p w s h)))
top-more false p w i s h k =
    let e : w - i ≡ w - 1 - i + 1 = omega arith in
    let g : w - (i + 1) ≡ w - 1 - i = omega arith in
    rw (g, e, ← part_at p w (w - 1 - i) s (omega arith)) (back_more (take w (drop p s)) (w - 1 - i) (omega (arith, part_length p w s h)))

-- ---- writing: k bytes are left to store, the least of m first
unfoldable pub storing : Bool → ℕ → ℕ → ℕ → ℕ → List ℕ → List ℕ
storing first p w zero m s = s
storing first p w (suc k) m s = storing first p w k (m / 256) (set s (byte_place (not first) p w (w - suc k)) (m % 256))

drop-set : (j b : ℕ) (s : List ℕ) → j < length s → drop j (set s j b) ≡ b ∷ drop (suc j) s
drop-set j b s h = rw (set_split s j b h) (drop_at (take j s) (b ∷ drop (suc j) s) j (simp length-take (omega arith)))

last_step : (q n b : ℕ) (l s : List ℕ) → q < length s → q < n → take (suc q) (set s q b) ++ l ++ drop n (set s q b) ≡ take q s ++ (b ∷ l) ++ drop n s
last_step q n b l s h k = rw (take-suc-set s q b h, drop-set-lt n s q b k) (simp append_assoc)

last-stores : (p w k m : ℕ) (s : List ℕ) → k ≤ w → p + w ≤ length s
    → storing false p w k m s ≡ take (p + (w - k)) s ++ digits k m ++ drop (p + w) s
unfolding storing digits
last-stores p w zero m s h l =
    let e : p + (w - 0) ≡ p + w = omega arith in
    rw (e, append-nil) (sym (take-append-drop (p + w) s))
last-stores p w (suc k) m s h l =
    let e : p + (w - k) ≡ suc (p + (w - suc k)) = omega arith in
    last-stores p w k (m / 256) (set s (p + (w - suc k)) (m % 256)) (omega arith) (simp length-set l)
    ∙ rw e (last_step (p + (w - suc k)) (p + w) (m % 256) (digits k (m / 256)) s (omega arith) (omega arith))

first_step : (p j b : ℕ) (l s : List ℕ) → j < length s → p ≤ j → take p (set s j b) ++ reverse l ++ drop j (set s j b) ≡ take p s ++ reverse (b ∷ l) ++ drop (suc j) s
first_step p j b l s h k = rw (take-set-le p s j b k, drop-set j b s h, reverse_aux-eq l (b ∷ [])) (simp append_assoc)

first-stores : (p w k m : ℕ) (s : List ℕ) → k ≤ w → p + w ≤ length s
    → storing true p w k m s ≡ take p s ++ reverse (digits k m) ++ drop (p + k) s
unfolding storing digits
first-stores p w zero m s h l = rw (add-zero, append-nil) (sym (take-append-drop p s))
first-stores p w (suc k) m s h l =
    let e : p + (w - 1 - (w - suc k)) ≡ p + k = omega arith in
    let n : p + suc k ≡ suc (p + k) = omega arith in
    rw e (first-stores p w k (m / 256) (set s (p + k) (m % 256)) (omega arith) (simp length-set l)
    ∙ rw n (first_step p (p + k) (m % 256) (digits k (m / 256)) s (omega arith) (omega arith)))

pub stores : (first : Bool) (p w n : ℕ) (s : List ℕ) → p + w ≤ length s → storing first p w w n s ≡ with_stored first p w n s
stores true p w n s h = first-stores p w w n s (omega arith) h
stores false p w n s h = let e : p + (w - w) ≡ p = omega arith in last-stores p w w n s (omega arith) h ∙ rw e

-- ---- there and back
pub number_digits : (w n : ℕ) → n < 256 ^ w → number (digits w n) ≡ n
unfolding number digits
number_digits zero n h = omega arith
number_digits (suc w) n h =
    let q : n / 256 < 256 ^ w = omega (arith, rw pow-suc at h) in
    rw (number_digits w (n / 256) q) (div-add-mod' n 256)

pub length_digits : (w n : ℕ) → length (digits w n) ≡ w
unfolding digits
length_digits zero n = refl
length_digits (suc w) n = ap suc (length_digits w (n / 256))

pub length-ordered : (first : Bool) (bs : List ℕ) → length (ordered first bs) ≡ length bs
length-ordered true bs = length-reverse bs
length-ordered false bs = refl

-- what was stored is read back
pub get-put : (first : Bool) (p w n : ℕ) (s : List ℕ) → p + w ≤ length s → n < 256 ^ w → stored_at first p w (with_stored first p w n s) ≡ n
get-put first p w n s h l = ap (λ (l : List ℕ). number (ordered first l)) part ∙ ap number (twice first) ∙ number_digits w n l
  where
    twice : (f : Bool) → ordered f (ordered f (digits w n)) ≡ digits w n
    twice true = reverse-reverse (digits w n)
    twice false = refl

    part : take w (drop p (with_stored first p w n s)) ≡ ordered first (digits w n)
    part =
        let e : length (take p s) ≡ p = simp length-take (omega arith) in
        rw (append_assoc (take p s) (ordered first (digits w n)) (drop (p + w) s), drop_at (take p s) (ordered first (digits w n) ++ drop (p + w) s) p e)
        (take_at (ordered first (digits w n)) (drop (p + w) s) w (length-ordered first (digits w n) ∙ length_digits w n))

-- what is read of i bytes, each below 256, and one more
pub small : (i n : ℕ) → n < 256 ^ i → i < 4 → n < 16777216
small i n h k = lt_of_lt_of_le h (pow-le-pow_right (lit< tt) {j = 3} (omega arith))

pub grows : (i n b : ℕ) → n < 256 ^ i → b < 256 → n * 256 + b < 256 ^ (i + 1)
grows i n b h k = rw (add-one, pow-suc) (omega arith)

pub storing-step : (first : Bool) (p w i m : ℕ) (s : List ℕ) → i < w
    → storing first p w (w - (i + 1)) (m / 256) (set s (byte_place (not first) p w i) (m % 256)) ≡ storing first p w (w - i) m s
unfolding storing
storing-step first p w i m s h =
    let e : w - i ≡ suc (w - (i + 1)) = omega arith in
    let g : w - suc (w - (i + 1)) ≡ i = omega arith in
    sym (ap (λ (k : ℕ). storing first p w k m s) e ∙ ap (λ (j : ℕ). storing first p w (w - (i + 1)) (m / 256) (set s (byte_place (not first) p w j) (m % 256))) g)

pub storing-done : (first : Bool) (p w i m : ℕ) (s : List ℕ) → w ≤ i → s ≡ storing first p w (w - i) m s
unfolding storing
storing-done first p w i m s h = let e : w - i ≡ 0 = omega arith in rw e
