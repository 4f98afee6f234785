-- What is seen of two parts before their bytes are compared one by one: their lengths and their last bytes.
use Prim.Native.Nat.{ℕ, suc, ◌+◌, ◌-◌, ◌≤◌}
use mathlib.Core.Path.{◌≡◌, refl, sym, ◌∙◌, ap}
use mathlib.Core.List.{List}
use mathlib.Core.Bool.{Bool, true, false, ◌&&◌, ◌||◌, and-false, and-true, true≢false}
use native.Mathlib.Omega.{arith}
use borrow.Author.Tests.{eq-eqb, le-leb, leb-true, eqb-true, eqb-false}
use lib.Dec.{eqb, leb}
use Rattle.text.specs.Bytes.{byte, same_for, same_part}
use Rattle.text.proofs.ByteLaws.{SameBack, same-last, same-on, same_differs, same-other, same-all}
use Rattle.text.proofs.Within.{and_left, and_right}

-- the bytes of s from k up to e are n, the last of them b
abbrev pub is_like : List ℕ → ℕ → ℕ → ℕ → ℕ → Bool
is_like s k e n b = leb k e && eqb (e - k) n && (eqb n 0 || eqb (byte s (e - 1)) b)

or_left : (a b : Bool) → (a || b) ≡ false → a ≡ false
or_left true b h = h
or_left false b h = refl

or_right : (a b : Bool) → (a || b) ≡ false → b ≡ false
or_right true b h = absurd (true≢false h)
or_right false b h = h

-- where the last of n bytes from k up to e stands
last-at : (k e n : ℕ) → k ≤ e → e - k ≡ n → (n ≡ 0 → ⊥) → k + (n - 1) ≡ e - 1
last-at k e n l z o = omega (arith, o)

one_less : (n : ℕ) → (n ≡ 0 → ⊥) → n ≡ suc (n - 1)
one_less n o = omega (arith, o)

last-past : (k e n : ℕ) → k ≤ e → e - k ≡ n → k + n ≤ e
last-past k e n l z = omega arith

-- two parts as long as each other, of n bytes that are compared from the last one backward: the first i are left
pub record Comparing (s : List ℕ) (k e : ℕ) (w : List ℕ) (j f n i : ℕ) : Type 0 where
  pub name_within : k + n ≤ e
  pub part_within : j + n ≤ f
  pub back : SameBack s k w j n (same_part s k e w j f) i

-- the second part, from j up to f, has n bytes, the last of them, at m, is b
module _ (s : List ℕ) (k e : ℕ) (w : List ℕ) (j f n m b : ℕ) (h : j ≤ f) (pn : n ≡ f - j) (pm : m ≡ f - 1) (pb : b ≡ byte w m) where
  -- as long: what is left is whether the bytes are the same
  sized : (leb k e && eqb (e - k) n) ≡ true → same_part s k e w j f ≡ same_for n s k w j
  unfolding same_part
  sized t =
      let z : e - k ≡ n = eqb-true (e - k) n (and_right (leb k e) (eqb (e - k) n) t) in
      rw (le-leb j f h, ← pn, and_left (leb k e) (eqb (e - k) n) t, eq-eqb (e - k) n z, z)

  short : (leb k e && eqb (e - k) n) ≡ false → false ≡ same_part s k e w j f
  unfolding same_part
  short t = rw (le-leb j f h, ← pn, and-true (leb k e), t)

  -- the last bytes differ
  ends-other : (leb k e && eqb (e - k) n) ≡ true → (eqb n 0 || eqb (byte s (e - 1)) b) ≡ false → false ≡ same_part s k e w j f
  ends-other t d =
      let l : k ≤ e = leb-true k e (and_left (leb k e) (eqb (e - k) n) t) in
      let z : e - k ≡ n = eqb-true (e - k) n (and_right (leb k e) (eqb (e - k) n) t) in
      let o : n ≡ 0 → ⊥ = eqb-false n 0 (or_left (eqb n 0) (eqb (byte s (e - 1)) b) d) in
      let last : same_for n s k w j ≡ false = ap (λ i. same_for i s k w j) (one_less n o) ∙ same-last (n - 1) s k w j ∙ rw (last-at k e n l z o, last-at j f n h (sym pn) o, ← pm, ← pb, or_right (eqb n 0) (eqb (byte s (e - 1)) b) d, and-false (same_for (n - 1) s k w j)) in
      sym (sized t ∙ last)

  module _ (r : Bool) (p : r ≡ is_like s k e n b) where
    pub compare-start : r ≡ true → Comparing s k e w j f n n
    compare-start t =
        let a : (leb k e && eqb (e - k) n) ≡ true = and_left (leb k e && eqb (e - k) n) _ (sym p ∙ t) in
        let l : k ≤ e = leb-true k e (and_left (leb k e) (eqb (e - k) n) a) in
        let z : e - k ≡ n = eqb-true (e - k) n (and_right (leb k e) (eqb (e - k) n) a) in
        record { name_within = last-past k e n l z; part_within = last-past j f n h (sym pn); back = record { within = omega arith; same = sym (sized a) } }

    pub compare-not : r ≡ false → false ≡ same_part s k e w j f
    compare-not t = split (leb k e && eqb (e - k) n) refl
      where
        split : (a : Bool) → (leb k e && eqb (e - k) n) ≡ a → false ≡ same_part s k e w j f
        split true a = ends-other a (rw a at (sym p ∙ t))
        split false a = short a

-- a turn of the loop
module _ (s : List ℕ) (k e : ℕ) (w : List ℕ) (j f n i : ℕ) (q : Comparing s k e w j f n i) where
  pub compare-all : i ≡ 0 → true ≡ same_part s k e w j f
  compare-all z = same-all s k w j n _ i q.back (omega (arith, z))

  module _ (l : i ≡ 0 → ⊥) (c d : ℕ) where
    pub compare-first : c ≡ byte s k → d ≡ byte w j → (c ≡ d → ⊥) → false ≡ same_part s k e w j f
    compare-first p o = same-other s k w j n _ i q.back (omega (arith, l)) c d p o

    pub compare-other : c ≡ byte s (k + (i - 1)) → d ≡ byte w (j + (i - 1)) → (c ≡ d → ⊥) → false ≡ same_part s k e w j f
    compare-other p o = same_differs s k w j n _ i q.back (omega (arith, l)) c d p o

    pub compare-on : c ≡ byte s (k + (i - 1)) → d ≡ byte w (j + (i - 1)) → c ≡ d → Comparing s k e w j f n (i - 1)
    compare-on p o z = record { name_within = q.name_within; part_within = q.part_within; back = same-on s k w j n _ i q.back (omega (arith, l)) c d p o z }
