-- The bytes of a number, and what AND, OR and byte order do to them.
use mathlib.Core.Path.{◌≡◌, refl, sym, ap, ◌∙◌, subst}
use mathlib.Core.Bool.{Bool, true, false}
use mathlib.Core.List.{List, [], ◌∷◌, ◌++◌, reverse, reverse_aux-eq}
use mathlib.Core.Logic.{◌⊎◌, ⊎_elim}
use Prim.Native.Nat.{ℕ, zero, suc, ◌+◌, ◌*◌, ◌-◌, ◌/◌, ◌%◌, ◌^◌, ◌≤◌, ◌<◌}
use native.Mathlib.Nat.{pow-suc, pow-succ', div-div-eq-div-mul, div-one, not-suc-le-zero, eq-or-lt_of_le, le_of_suc-le-suc}
use native.Mathlib.Omega.{arith}
use borrow.Author.Tests.{ltb-true, ltb-false}
use lib.Dec.{ltb}
use lib.Bits.{bit_and, bit_or, and_shr, or_shr, and_mod, or_mod}
use lib.ListN.{length, take, drop, get_or, replicate, length-append, length-replicate, length-take, length-drop, length-reverse, get_or-append, get_or-eq_default}
use lib.Seq.{get_or-take, get_or-drop, get_or-append-add, get_or_at, length-take-le}
use Rattle.cell.specs.Bytes.{number, digits, ordered, stored_at, with_stored}
use Rattle.cell.proofs.Stored.{length-ordered, length_digits}
use Rattle.cell.proofs.Laws.{pow-256, around}
use Rattle.bits.specs.Bits.{stands_in}

-- ---- one byte of a number

-- byte j of a number, the least first
abbrev pub digit : ℕ → ℕ → ℕ
digit n j = n / 256 ^ j % 256

pub digit-zero : (n : ℕ) → digit n 0 ≡ n % 256
digit-zero n = ap (λ (x : ℕ). x % 256) (div-one n)

pub digit-suc : (n j : ℕ) → digit n (suc j) ≡ digit (n / 256) j
digit-suc n j = ap (λ (x : ℕ). x % 256) (ap (λ (d : ℕ). n / d) (pow-succ' 256 j) ∙ sym (div-div-eq-div-mul n 256 (256 ^ j)))

pub digit_lt : (n j : ℕ) → digit n j < 256
digit_lt n j = omega arith

pub digit_and : (a b j : ℕ) → digit (bit_and a b) j ≡ bit_and (digit a j) (digit b j)
digit_and a b j = rw (pow-256 j) (ap (λ (x : ℕ). x % 2 ^ 8) (and_shr a b (8 * j)) ∙ and_mod (a / 2 ^ (8 * j)) (b / 2 ^ (8 * j)) 8)

pub digit_or : (a b j : ℕ) → digit (bit_or a b) j ≡ bit_or (digit a j) (digit b j)
digit_or a b j = rw (pow-256 j) (ap (λ (x : ℕ). x % 2 ^ 8) (or_shr a b (8 * j)) ∙ or_mod (a / 2 ^ (8 * j)) (b / 2 ^ (8 * j)) 8)

-- the bytes of a complement are the complements of the bytes
pub digit_not : (k m j : ℕ) → m < 256 ^ k → j < k → digit (256 ^ k - 1 - m) j ≡ 255 - digit m j
digit_not zero m j h l = absurd (not-suc-le-zero l)
digit_not (suc k) m zero h l =
    rw (digit-zero (256 ^ suc k - 1 - m), digit-zero m) (omega (arith, pow-suc 256 k))
digit_not (suc k) m (suc j) h l =
    let e : (256 ^ suc k - 1 - m) / 256 ≡ 256 ^ k - 1 - m / 256 = omega (arith, pow-suc 256 k) in
    rw (digit-suc (256 ^ suc k - 1 - m) j, digit-suc m j, e) (digit_not k (m / 256) j (omega (arith, pow-suc 256 k)) (omega arith))

-- ---- the bytes as a list
pub digits-at : (w n j : ℕ) → j < w → get_or (digits w n) j 0 ≡ digit n j
unfolding digits
digits-at zero n j l = absurd (not-suc-le-zero l)
digits-at (suc w) n zero l = sym (digit-zero n)
digits-at (suc w) n (suc j) l = digits-at w (n / 256) j (omega arith) ∙ sym (digit-suc n j)

pub zero-digit : (j : ℕ) → digit 0 j ≡ 0
zero-digit zero = refl
zero-digit (suc j) = digit-suc 0 j ∙ zero-digit j

pub number_at : (bs : List ℕ) (j : ℕ) → ((i : ℕ) → get_or bs i 0 < 256) → digit (number bs) j ≡ get_or bs j 0
unfolding number
number_at [] j h = zero-digit j
number_at (b ∷ bs) zero h = digit-zero (number bs * 256 + b) ∙ (let k : b < 256 = h 0 in omega arith)
number_at (b ∷ bs) (suc j) h =
    let k : b < 256 = h 0 in
    let e : (number bs * 256 + b) / 256 ≡ number bs = omega arith in
    digit-suc (number bs * 256 + b) j ∙ ap (λ (n : ℕ). digit n j) e ∙ number_at bs j (λ i. h (suc i))

-- ---- byte order

-- which byte of its number stands i bytes after the first of w: MSB_FIRST, here true, has the most significant first
abbrev pub rank : Bool → ℕ → ℕ → ℕ
rank true w i = w - 1 - i
rank false w i = i

rev-last : (x : ℕ) (xs : List ℕ) (i : ℕ) → i ≡ length xs → get_or (reverse xs ++ (x ∷ [])) i 0 ≡ get_or (x ∷ xs) (length (x ∷ xs) - 1 - i) 0
rev-last x xs i e =
    let z : length (x ∷ xs) - 1 - i ≡ 0 = omega arith in
    get_or_at (reverse xs) x [] 0 i (length-reverse xs ∙ sym e) ∙ sym (ap (λ (n : ℕ). get_or (x ∷ xs) n 0) z)

rev-front : (x : ℕ) (xs : List ℕ) (i : ℕ) → i < length xs → get_or (reverse xs) i 0 ≡ get_or xs (length xs - 1 - i) 0
    → get_or (reverse xs ++ (x ∷ [])) i 0 ≡ get_or (x ∷ xs) (length (x ∷ xs) - 1 - i) 0
rev-front x xs i l h =
    let z : length (x ∷ xs) - 1 - i ≡ suc (length xs - 1 - i) = omega arith in
    get_or-append (reverse xs) (x ∷ []) 0 i (omega (arith, length-reverse xs)) ∙ h ∙ sym (ap (λ (n : ℕ). get_or (x ∷ xs) n 0) z)

rev-at : (l : List ℕ) (i : ℕ) → i < length l → get_or (reverse l) i 0 ≡ get_or l (length l - 1 - i) 0
rev-at [] i h = absurd (not-suc-le-zero h)
rev-at (x ∷ xs) i h =
    ap (λ (l : List ℕ). get_or l i 0) (reverse_aux-eq xs (x ∷ []))
    ∙ ⊎_elim (λ e. rev-last x xs i (omega arith)) (λ m. rev-front x xs i (le_of_suc-le-suc m) (rev-at xs i (le_of_suc-le-suc m))) (eq-or-lt_of_le h)

pub ordered_at : (first : Bool) (l : List ℕ) (i : ℕ) → i < length l → get_or (ordered first l) i 0 ≡ get_or l (rank first (length l) i) 0
ordered_at true l i h = rev-at l i h
ordered_at false l i h = refl

pub rank_lt : (first : Bool) (w i : ℕ) → i < w → rank first w i < w
rank_lt true w i h = omega arith
rank_lt false w i h = h

pub rank-rank : (first : Bool) (w i : ℕ) → i < w → rank first w (rank first w i) ≡ i
rank-rank true w i h = omega arith
rank-rank false w i h = refl

-- ---- a stored number's byte is the image's, and the image's byte after a store is the number's
module _ (first : Bool) (p w : ℕ) (s : List ℕ) (l : p + w ≤ length s) (i : ℕ) (h : i < w) where
  pub stored-byte : ((j : ℕ) → get_or s j 0 < 256) → digit (stored_at first p w s) (rank first w i) ≡ get_or s (p + i) 0
  stored-byte b =
      number_at (ordered first part) (rank first w i) (each first)
      ∙ ordered_at first part (rank first w i) (rw long (rank_lt first w i h))
      ∙ ap (λ (n : ℕ). get_or part n 0) (ap (λ (n : ℕ). rank first n (rank first w i)) long ∙ rank-rank first w i h)
      ∙ at i h
    where
      part : List ℕ
      part = take w (drop p s)

      long : length part ≡ w
      long = simp (length-take, length-drop) (omega arith)

      at : (j : ℕ) → j < w → get_or part j 0 ≡ get_or s (p + j) 0
      at j k = get_or-take w (drop p s) j 0 k ∙ get_or-drop p s j 0

      each : (f : Bool) (j : ℕ) → get_or (ordered f part) j 0 < 256
      each f j = go (ltb j (length part)) refl
        where
          go : (x : Bool) → ltb j (length part) ≡ x → get_or (ordered f part) j 0 < 256
          go true e =
              let k = ltb-true j (length part) e in
              let r = rank_lt f (length part) j k in
              subst (λ (n : ℕ). n < 256) (sym (ordered_at f part j k ∙ at (rank f (length part) j) (omega (arith, long)))) (b (p + rank f (length part) j))
          go false e =
              subst (λ (n : ℕ). n < 256) (sym (get_or-eq_default (ordered f part) 0 {n = j} (omega (arith, ltb-false j (length part) e, length-ordered f part)))) (omega arith)

  pub new-byte : (n : ℕ) → get_or (with_stored first p w n s) (p + i) 0 ≡ digit n (rank first w i)
  new-byte n =
      get_or-append (take p s ++ mid) (drop (p + w) s) 0 (p + i) (omega (arith, both))
      ∙ ap (λ (k : ℕ). get_or (take p s ++ mid) (k + i) 0) (sym head)
      ∙ get_or-append-add (take p s) mid i 0
      ∙ ordered_at first (digits w n) i (omega (arith, length_digits w n))
      ∙ ap (λ (k : ℕ). get_or (digits w n) (rank first k i) 0) (length_digits w n)
      ∙ digits-at w n (rank first w i) (rank_lt first w i h)
    where
      mid : List ℕ
      mid = ordered first (digits w n)

      long : length mid ≡ w
      long = length-ordered first (digits w n) ∙ length_digits w n

      head : length (take p s) ≡ p
      head = length-take-le p s (omega arith)

      both : length (take p s ++ mid) ≡ p + w
      both = length-append (take p s) mid ∙ omega (arith, head, long)

-- ---- a number in an image of zeros
zeros : (m b : ℕ) → get_or {A = ℕ} (replicate m 0) b 0 ≡ 0
zeros zero b = refl
zeros (suc m) zero = refl
zeros (suc m) (suc b) = zeros m b

module _ (first : Bool) (p w n : ℕ) where
  zeros-long : length {A = ℕ} (replicate (p + w) 0) ≡ p + w
  zeros-long = length-replicate (p + w) 0

  pub stands-in : (i : ℕ) → i < w → stands_in first p w n (p + i) ≡ digit n (rank first w i)
  stands-in i h = new-byte first p w (replicate (p + w) 0) (omega (arith, zeros-long)) i h n

  pub stands-out : (b : ℕ) → (b < p) ⊎ (p + w ≤ b) → stands_in first p w n b ≡ 0
  stands-out b o =
      around p w (ordered first (digits w n)) (replicate (p + w) 0) (length-ordered first (digits w n) ∙ length_digits w n) (omega (arith, zeros-long)) b o
      ∙ zeros (p + w) b
