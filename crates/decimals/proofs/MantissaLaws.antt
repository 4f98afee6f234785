-- A sign, digits and a point among them, by the tests that the code makes.
use Prim.Native.Nat.{ℕ, ◌+◌, ◌*◌, ◌-◌, ◌^◌, ◌<◌, ◌≤◌}
use native.Mathlib.Numerals.{add-one}
use native.Mathlib.Omega.{arith}
use mathlib.Core.Path.{◌≡◌, refl, sym, ◌∙◌, ap, subst}
use mathlib.Core.List.{List, [], ◌∷◌, ◌++◌, append-nil}
use mathlib.Core.Bool.{Bool, true, false, cond, ◌&&◌, and-false}
use borrow.Author.Tests.{le-leb, lt-leb, eq-eqb, ne_eqb}
use borrow.Author.Rules.{rules}
use lib.Dec.{leb, eqb}
use lib.ListN.{length, drop, get_or, length-drop, drop_of_length-le}
use lib.Seq.{drop-cons, drop-drop}
use Rattle.number.specs.Answer.{Answer, refused}
use Rattle.number.specs.Digits.{leading, trailing, value_on, all_digits}
use Rattle.number.specs.Decimal.{Scaled, most_digits, most_after, signs, minus, lowest, judged_decimal, pointed, signed_by}
use Rattle.number.specs.declared.exponent.Exponent.{Exponent}
use Rattle.number.proofs.Forms.{both-same, rest-drop, full, long, joined, some_first}
use Rattle.number.proofs.Tens.{ten-sum}
use Rattle.decimals.specs.Inner.{Wide, KeptDigits, moved_by, made_by, how_of}
use Rattle.decimals.specs.declared.gather.Gathered.{Gathered}
use Rattle.std.specs.Prelude.{Option, Some, None}
use Rattle.decimals.proofs.GatherLaws.{wide-more}
use Rattle.decimals.proofs.TenLaws.{wide-refused, wide-raised}

-- what is made of the digits, by the exponent
module _ (x : Option Exponent) (neg : Bool) (i f : ℕ) where
  module _ (e : x ≡ None) where
    pub made-many : (n : ℕ) → most_digits < i + f → refused 2 ≡ made_by x neg n i f
    unfolding made_by
    made-many n h = rw (e, lt-leb (i + f) most_digits h)

    pub made-past : (n : ℕ) → most_after < f → refused 2 ≡ made_by x neg n i f
    unfolding made_by
    made-past n h = rw (e, lt-leb f most_after h, and-false)

    pub made_plain : (n : ℕ) (r : Answer Scaled) → i + f ≤ most_digits → f ≤ most_after → r ≡ judged_decimal (lowest neg n f) → r ≡ made_by x neg n i f
    unfolding made_by
    made_plain n r h g q = rw (e, le-leb (i + f) most_digits h, le-leb f most_after g) q

  module _ (y : Exponent) (e : x ≡ Some y) (r : Answer Scaled) where
    pub made-down : (n : ℕ) → y.down ≡ true → r ≡ judged_decimal (lowest neg n (f + y.by)) → r ≡ made_by x neg n i f
    unfolding made_by moved_by
    made-down n h q = rw (e, h) q

    pub made_up : (m z : ℕ) → y.down ≡ false → r ≡ judged_decimal (lowest neg (m * 10 ^ (z + y.by)) f) → r ≡ made_by x neg (m * 10 ^ z) i f
    unfolding made_by moved_by
    made_up m z h q = rw (e, h) (q ∙ ap (λ (n : ℕ). judged_decimal (lowest neg n f)) (ten-sum m z y.by))

  -- more than ten digits that count are refused by every exponent
  made_wide : (n : ℕ) → Wide n → refused 2 ≡ made_by x neg n i f
  unfolding made_by moved_by
  made_wide n w = by-case x where
    moved-wide : (down : Bool) (by : ℕ) → refused 2 ≡ judged_decimal (cond down (lowest neg n (f + by)) (lowest neg (n * 10 ^ by) f))
    moved-wide true by = wide-refused neg n (f + by) w
    moved-wide false by = wide-refused neg (n * 10 ^ by) f (wide-raised n by w)

    by-case : (y : Option Exponent) → refused 2 ≡ made_by y neg n i f
    by-case None = both-same (leb (i + f) most_digits && leb f most_after) (judged_decimal (lowest neg n f)) (refused 2) (refused 2) (wide-refused neg n f w) refl
    by-case (Some y) = moved-wide y.down y.by

pub ruleset makes = (made-many, made-past, made_plain, made-down, made_up, rules)

module _ (x : Option Exponent) (neg : Bool) (i : List ℕ) where
  how-wide : (f : List ℕ) → Wide (value_on 10 0 (i ++ f)) → refused 2 ≡ how_of x neg i f
  unfolding how_of
  how-wide f w =
      both-same (leb 1 (length i)) (made_by x neg (value_on 10 0 (i ++ f)) (length i) (length f)) (refused 2) (refused 2)
      (made_wide x neg (length i) (length f) (value_on 10 0 (i ++ f)) w) refl

  how-none : (f : List ℕ) → length i ≡ 0 → refused 2 ≡ how_of x neg i f
  unfolding how_of
  how-none f h = rw h

  how-good : (f : List ℕ) (n : ℕ) → 0 < length i → n ≡ value_on 10 0 (i ++ f) → made_by x neg n (length i) (length f) ≡ how_of x neg i f
  unfolding how_of
  how-good f n h e = rw (le-leb 1 (length i) h, e)

  wide-turn : (t : Bool) (b : ℕ) (f : List ℕ) → all_digits 10 f ≡ t → Wide (value_on 10 0 i) → refused 2 ≡ cond (eqb b 46 && t && leb 1 (length f)) (how_of x neg i f) (refused 2)
  wide-turn true b f o w =
      both-same (eqb b 46 && true && leb 1 (length f)) (how_of x neg i f) (refused 2) (refused 2)
      (how-wide f (subst Wide (joined 0 i f) (wide-more (value_on 10 0 i) f o w))) refl
  wide-turn false b f o w = rw and-false

  pointed-wide : (r : List ℕ) → Wide (value_on 10 0 i) → refused 2 ≡ pointed (how_of x neg) i r
  unfolding pointed
  pointed-wide [] w = how-wide [] (subst Wide (ap (value_on 10 0) (sym (append-nil i))) w)
  pointed-wide (b ∷ f) w = wide-turn (all_digits 10 f) b f refl w

  pointed-none : (r : List ℕ) → length i ≡ 0 → refused 2 ≡ pointed (how_of x neg) i r
  unfolding pointed
  pointed-none [] h = how-none [] h
  pointed-none (b ∷ f) h = both-same (eqb b 46 && all_digits 10 f && leb 1 (length f)) (how_of x neg i f) (refused 2) (refused 2) (how-none f h) refl

-- what `gather` says
module _ (s : List ℕ) (at n : ℕ) (g : Gathered) (k : KeptDigits s at n g) where
  kept-end : at ≤ length s → g.end ≤ length s
  kept-end h = omega (arith, k.place, some_first (drop at s), length-drop at s)

  pub kept_small : at ≤ length s → length s * 1 < 2 ^ 63 → g.part.z < 9223372036854775808
  kept_small h l = omega (arith, k.few, kept-end h)

  pub after_small : (b : ℕ) → at ≤ length s → length s * 1 < 2 ^ 63 → g.end - b < 9223372036854775808
  after_small b h l = omega (arith, kept-end h)

pub next-few : (s : List ℕ) (e : ℕ) → e < length s → e + 1 ≤ length s
next-few s e h = omega arith

module _ (s : List ℕ) (x : Option Exponent) (a : ℕ) (neg : Bool) (ea : a ≡ signs s) (en : neg ≡ minus s) where
  signed_is : pointed (how_of x neg) (leading (drop a s)) (trailing (drop a s)) ≡ signed_by (how_of x) s
  unfolding signed_by
  signed_is = rw (en, ea)

  pub run-over : Wide (value_on 10 0 (leading (drop a s))) → refused 2 ≡ signed_by (how_of x) s
  run-over w = pointed-wide x neg (leading (drop a s)) (trailing (drop a s)) w ∙ signed_is

  module _ (g : Gathered) (k : KeptDigits s a 0 g) where
    abbrev e : ℕ
    e = g.end

    abbrev first : ℕ
    first = g.part.m * 10 ^ g.part.z

    pub run_none : e ≤ a → refused 2 ≡ signed_by (how_of x) s
    run_none h = pointed-none x neg (leading (drop a s)) (trailing (drop a s)) (omega (arith, k.place)) ∙ signed_is

    rest : trailing (drop a s) ≡ drop e s
    rest = rest-drop (drop a s) ∙ drop-drop (length (leading (drop a s))) a s ∙ ap (λ (n : ℕ). drop n s) (sym k.place)

    pub run_end_lem : (y : Answer Scaled) → a < e → length s ≤ e → y ≡ made_by x neg first (e - a) 0 → y ≡ signed_by (how_of x) s
    unfolding pointed
    run_end_lem y h l j =
        let i = leading (drop a s) in
        let p : trailing (drop a s) ≡ [] = rest ∙ drop_of_length-le s l in
        let c : 0 < length i = omega (arith, k.place) in
        let d : e - a ≡ length i = omega (arith, k.place) in
        j ∙ ap (λ (n : ℕ). made_by x neg first n 0) d
        ∙ how-good x neg i [] first c (k.value ∙ ap (value_on 10 0) (sym (append-nil i)))
        ∙ sym (ap (pointed (how_of x neg) i) p) ∙ signed_is

    module _ (h : e < length s) where
      next : trailing (drop a s) ≡ get_or s e 0 ∷ drop (e + 1) s
      next = rest ∙ rw (add-one, drop-cons s e 0)

      pub run-other : (get_or s e 0 ≡ 46 → ⊥) → refused 2 ≡ signed_by (how_of x) s
      unfolding pointed
      run-other b = sym (ap (pointed (how_of x neg) (leading (drop a s))) next ∙ rw (ne_eqb (get_or s e 0) 46 b)) ∙ signed_is

      module _ (b : get_or s e 0 ≡ 46) where
        after : (t : Bool) → all_digits 10 (drop (e + 1) s) ≡ t →
            cond (t && leb 1 (length (drop (e + 1) s))) (how_of x neg (leading (drop a s)) (drop (e + 1) s)) (refused 2) ≡ signed_by (how_of x) s
        unfolding pointed
        after t o = sym (ap (pointed (how_of x neg) (leading (drop a s))) next ∙ rw (eq-eqb (get_or s e 0) 46 b, o)) ∙ signed_is

        size : length (drop (e + 1) s) ≡ length s - (e + 1)
        size = length-drop (e + 1) s

        whole : (f : List ℕ) → leading (drop (e + 1) s) ≡ f → value_on 10 first (leading (drop (e + 1) s)) ≡ value_on 10 0 (leading (drop a s) ++ f)
        whole f o = ap (value_on 10 first) o ∙ ap (λ (n : ℕ). value_on 10 n f) k.value ∙ joined 0 (leading (drop a s)) f

        over-turn : (t : Bool) → all_digits 10 (drop (e + 1) s) ≡ t → Wide (value_on 10 first (leading (drop (e + 1) s))) → refused 2 ≡ signed_by (how_of x) s
        over-turn true o w =
            let f = drop (e + 1) s in
            both-same (leb 1 (length f)) (how_of x neg (leading (drop a s)) f) (refused 2) (refused 2)
            (how-wide x neg (leading (drop a s)) f (subst Wide (whole f (full f o)) w)) refl
            ∙ after true o
        over-turn false o w = after false o

        pub two-over : Wide (value_on 10 first (leading (drop (e + 1) s))) → refused 2 ≡ signed_by (how_of x) s
        two-over w = over-turn (all_digits 10 (drop (e + 1) s)) refl w

        module _ (g2 : Gathered) (v : KeptDigits s (e + 1) first g2) where
          abbrev e2 : ℕ
          e2 = g2.end

          past-turn : (t : Bool) → all_digits 10 (drop (e + 1) s) ≡ t → e2 < length s → refused 2 ≡ signed_by (how_of x) s
          past-turn true o l = absurd (omega (arith, v.place, ap length (full (drop (e + 1) s) o), size))
          past-turn false o l = after false o

          pub two_past : e2 < length s → refused 2 ≡ signed_by (how_of x) s
          two_past l = past-turn (all_digits 10 (drop (e + 1) s)) refl l

          module _ (l : length s ≤ e2) where
            all : all_digits 10 (drop (e + 1) s) ≡ true
            all = long (drop (e + 1) s) (omega (arith, v.place, size))

            same : leading (drop (e + 1) s) ≡ drop (e + 1) s
            same = full (drop (e + 1) s) all

            count : e2 ≡ e + 1 + length (drop (e + 1) s)
            count = omega (arith, v.place, ap length same)

            pub two_none : e2 - (e + 1) ≡ 0 → refused 2 ≡ signed_by (how_of x) s
            two_none u = let c : length (drop (e + 1) s) ≡ 0 = omega (arith, count) in rw c at (after true all)

            pub two-end : (w : Answer Scaled) → a < e → (e2 - (e + 1) ≡ 0 → ⊥) → w ≡ made_by x neg (g2.part.m * 10 ^ g2.part.z) (e - a) (e2 - (e + 1)) → w ≡ signed_by (how_of x) s
            two-end w c u j =
                let f = drop (e + 1) s in
                let i = leading (drop a s) in
                let d : e2 - (e + 1) ≡ length f = omega (arith, count) in
                let b' : e - a ≡ length i = omega (arith, k.place) in
                let p : 0 < length i = omega (arith, k.place) in
                let o : leb 1 (length f) ≡ true = le-leb 1 (length f) (omega (arith, count)) in
                j ∙ ap (made_by x neg (g2.part.m * 10 ^ g2.part.z) (e - a)) d ∙ ap (λ (c : ℕ). made_by x neg (g2.part.m * 10 ^ g2.part.z) c (length f)) b'
                ∙ how-good x neg i f (g2.part.m * 10 ^ g2.part.z) p (v.value ∙ whole f same)
                ∙ sym (ap (λ (t : Bool). cond t (how_of x neg i f) (refused 2)) o) ∙ after true all
