-- The lines of a column: c says how many elements each group has, n how many groups there are.
use mathlib.Core.Path.{◌≡◌, refl, sym, ap, ◌∙◌, subst}
use mathlib.Core.List.{List, [], ◌∷◌, ◌++◌, append_assoc, append-nil}
use mathlib.Core.Bool.{Bool, true, false, cond}
use mathlib.Core.Logic.{⊎_elim}
use Prim.Native.Nat.{ℕ, zero, suc, ◌+◌, ◌-◌, ◌≤◌, ◌<◌}
use native.Mathlib.Nat.{not-suc-le-zero, le_of_suc-le-suc, eq-or-lt_of_le}
use native.Mathlib.Numerals.{add-one}
use native.Mathlib.Omega.{arith}
use lib.ListN.{length, get_or, set, drop, length-append, length-drop, get_or-append}
use lib.Seq.{drop-cons, set-append_seam, set-get_or, get_or-append-add, get_or-drop, drop-append_seam, append_snoc, get_or_at}
use Rattle.number.specs.Below.{sum_below}
use Rattle.look.specs.Lines.{part, lines, laid_over, made, keep, fresh}

-- ---- the lines before a group
pub sum_more : (c : ℕ → ℕ) (g : ℕ) → sum_below (g + 1) c ≡ sum_below g c + c g
unfolding sum_below
sum_more c g = rw add-one

pub sum_mono : (c : ℕ → ℕ) (g h : ℕ) → g ≤ h → sum_below g c ≤ sum_below h c
unfolding sum_below
sum_mono c g zero l = let e : g ≡ 0 = omega arith in rw e (omega arith)
sum_mono c g (suc h) l =
    ⊎_elim (λ e. rw e (omega arith)) (λ m. omega (arith, sum_mono c g h (le_of_suc-le-suc m))) (eq-or-lt_of_le l)

pub sum-in : (c : ℕ → ℕ) (g n : ℕ) → g < n → sum_below g c + c g ≤ sum_below n c
unfolding sum_below
sum-in c g n l = sum_mono c (suc g) n l

module _ {A : Type 0} where
  -- ---- one list laid over another
  pub over_none : (l : List A) → l ≡ laid_over [] l
  unfolding laid_over
  over_none l = refl

  pub length_over : (xs ys : List A) → length xs ≤ length ys → length (laid_over xs ys) ≡ length ys
  unfolding laid_over
  length_over xs ys h = simp (length-append, length-drop) (omega arith)

  over-push : (xs ys : List A) (a d : A) → length xs < length ys → set (laid_over xs ys) (length xs) a ≡ laid_over (xs ++ a ∷ []) ys
  unfolding laid_over
  over-push xs ys a d h =
      rw (drop-cons ys (length xs) d) (set-append_seam xs (get_or ys (length xs) d) (drop (suc (length xs)) ys) a
      ∙ (let e : length (xs ++ a ∷ []) ≡ suc (length xs) = simp length-append (omega arith) in rw e (sym (append_snoc xs a (drop (suc (length xs)) ys)))))

  pub get_d_over : (xs ys : List A) (j : ℕ) (d : A) → j < length xs → get_or (laid_over xs ys) j d ≡ get_or xs j d
  unfolding laid_over
  get_d_over xs ys j d h = get_or-append xs (drop (length xs) ys) d j h

  pub get_d-over-past : (xs ys : List A) (j : ℕ) (d : A) → length xs ≤ j → get_or (laid_over xs ys) j d ≡ get_or ys j d
  unfolding laid_over
  get_d-over-past xs ys j d h =
      let e : j ≡ length xs + (j - length xs) = omega arith in
      subst (λ (n : ℕ). get_or (xs ++ drop (length xs) ys) n d ≡ get_or ys n d) (sym e)
      (get_or-append-add xs (drop (length xs) ys) (j - length xs) d ∙ get_or-drop (length xs) ys (j - length xs) d)

  pub over-over : (xs ys zs : List A) → length xs ≡ length ys → laid_over xs (laid_over ys zs) ≡ laid_over xs zs
  unfolding laid_over
  over-over xs ys zs e = rw (e, drop-append_seam)

  -- ---- the lines
  length_part : (f : ℕ → ℕ → ℕ → A) (g k i : ℕ) → length (part f g k i) ≡ i
  unfolding part
  length_part f g k zero = refl
  length_part f g k (suc i) = simp (length-append, length_part f g k i) (omega arith)

  pub length-lines : (f : ℕ → ℕ → ℕ → A) (c : ℕ → ℕ) (g : ℕ) → length (lines f c g) ≡ sum_below g c
  unfolding lines sum_below
  length-lines f c zero = refl
  length-lines f c (suc g) = simp (length-append, length_part f g (sum_below g c) (c g), length-lines f c g)

  -- the lines of the groups below g, and i of group g
  pub upto : (ℕ → ℕ → ℕ → A) → (ℕ → ℕ) → ℕ → ℕ → List A
  upto f c g i = lines f c g ++ part f g (sum_below g c) i

  pub length-upto : (f : ℕ → ℕ → ℕ → A) (c : ℕ → ℕ) (g i : ℕ) → length (upto f c g i) ≡ sum_below g c + i
  unfolding upto
  length-upto f c g i = simp (length-append, length_part, length-lines)

  upto-more : (f : ℕ → ℕ → ℕ → A) (c : ℕ → ℕ) (g i : ℕ) → upto f c g (i + 1) ≡ upto f c g i ++ (f g i (sum_below g c + i) ∷ [])
  unfolding upto part
  upto-more f c g i = rw add-one (sym (append_assoc (lines f c g) (part f g (sum_below g c) i) (f g i (sum_below g c + i) ∷ [])))

  pub upto_next : (f : ℕ → ℕ → ℕ → A) (c : ℕ → ℕ) (g i : ℕ) → i ≡ c g → upto f c g i ≡ upto f c (g + 1) 0
  unfolding upto part lines
  upto_next f c g i e = rw (e, add-one) (sym (append-nil (lines f c g ++ part f g (sum_below g c) (c g))))

  pub upto-none : (f : ℕ → ℕ → ℕ → A) (c : ℕ → ℕ) → upto f c 0 0 ≡ []
  unfolding upto part lines
  upto-none f c = refl

  pub upto_all : (f : ℕ → ℕ → ℕ → A) (c : ℕ → ℕ) (g : ℕ) → upto f c g 0 ≡ lines f c g
  unfolding upto part
  upto_all f c g = append-nil (lines f c g)

  -- one turn of the loop: line k is stored to, and the lines done are one more
  pub turn : (s : ℕ → ℕ → Bool) (w : ℕ → ℕ → A) (d : A) (c : ℕ → ℕ) (l₀ l l' : List A) (g i k : ℕ) → k ≡ sum_below g c + i → k < length l₀
      → l ≡ laid_over (upto (keep s w d l₀) c g i) l₀ → l' ≡ set l k (cond (s g i) (w g i) (get_or l k d)) → l' ≡ laid_over (upto (keep s w d l₀) c g (i + 1)) l₀
  turn s w d c l₀ l l' g i k e h p q =
      let n : length (upto (keep s w d l₀) c g i) ≡ k = length-upto (keep s w d l₀) c g i ∙ sym e in
      let r : get_or l k d ≡ get_or l₀ k d = rw (p, ← n) (get_d-over-past (upto (keep s w d l₀) c g i) l₀ _ d (omega arith)) in
      q ∙ rw (r, p) (rw (upto-more (keep s w d l₀) c g i, ← e, ← n) (over-push (upto (keep s w d l₀) c g i) l₀ _ d (rw n h)))

  -- a column keeps its length over the loop
  pub length_at : (f : ℕ → ℕ → ℕ → A) (c : ℕ → ℕ) (l₀ l : List A) (g i : ℕ) → sum_below g c + i ≤ length l₀ → l ≡ laid_over (upto f c g i) l₀ → length l ≡ length l₀
  length_at f c l₀ l g i h e = rw e (length_over (upto f c g i) l₀ (rw length-upto h))

  -- ---- lines that agree, and a line by its place
  part_ext : (f h : ℕ → ℕ → ℕ → A) (g k n : ℕ) → ((i : ℕ) → i < n → f g i (k + i) ≡ h g i (k + i)) → part f g k n ≡ part h g k n
  unfolding part
  part_ext f h g k zero e = refl
  part_ext f h g k (suc n) e = rw (part_ext f h g k n (λ i l. e i (omega arith)), e n (omega arith))

  pub lines-ext : (f h : ℕ → ℕ → ℕ → A) (c : ℕ → ℕ) (n : ℕ)
      → ((g i : ℕ) → g < n → i < c g → f g i (sum_below g c + i) ≡ h g i (sum_below g c + i)) → lines f c n ≡ lines h c n
  unfolding lines
  lines-ext f h c zero e = refl
  lines-ext f h c (suc n) e =
      rw (lines-ext f h c n (λ g i l m. e g i (omega arith) m), part_ext f h n (sum_below n c) (c n) (λ i m. e n i (omega arith) m))

  part_at : (f : ℕ → ℕ → ℕ → A) (g k n i : ℕ) (d : A) → i < n → get_or (part f g k n) i d ≡ f g i (k + i)
  unfolding part
  part_at f g k zero i d l = absurd (not-suc-le-zero l)
  part_at f g k (suc n) i d l =
      ⊎_elim (λ e. let z : i ≡ n = omega arith in rw z (get_or_at (part f g k n) (f g n (k + n)) [] d n (length_part f g k n)))
      (λ m. get_or-append (part f g k n) (f g n (k + n) ∷ []) d i (rw length_part (le_of_suc-le-suc m)) ∙ part_at f g k n i d (le_of_suc-le-suc m))
      (eq-or-lt_of_le l)

  pub lines_at : (f : ℕ → ℕ → ℕ → A) (c : ℕ → ℕ) (n g i : ℕ) (d : A) → g < n → i < c g
      → get_or (lines f c n) (sum_below g c + i) d ≡ f g i (sum_below g c + i)
  unfolding lines
  lines_at f c zero g i d l m = absurd (not-suc-le-zero l)
  lines_at f c (suc n) g i d l m =
      ⊎_elim (λ e. let z : g ≡ n = omega arith in rw z (last (rw z at m)))
      (λ q. get_or-append (lines f c n) (part f n (sum_below n c) (c n)) d (sum_below g c + i)
      (rw length-lines (let b : sum_below g c + c g ≤ sum_below n c = sum-in c g n (le_of_suc-le-suc q) in omega arith)) ∙ lines_at f c n g i d (le_of_suc-le-suc q) m)
      (eq-or-lt_of_le l)
    where
      last : i < c n → get_or (lines f c n ++ part f n (sum_below n c) (c n)) (sum_below n c + i) d ≡ f n i (sum_below n c + i)
      last b =
          subst (λ (k : ℕ). get_or (lines f c n ++ part f n (sum_below n c) (c n)) (k + i) d ≡ f n i (sum_below n c + i)) (length-lines f c n)
          (get_or-append-add (lines f c n) (part f n (sum_below n c) (c n)) i d ∙ part_at f n (sum_below n c) (c n) i d b)

  cond-first : (b : Bool) (x y : A) → (b ≡ false → y ≡ x) → cond b x y ≡ x
  cond-first true x y h = refl
  cond-first false x y h = h refl

  -- WHAT A WRITE OWES THE LIST: a column made from w, with the picked lines made from w', is the column made from w'
  pub fresh-made : (s : ℕ → ℕ → Bool) (w w' : ℕ → ℕ → A) (d : A) (c : ℕ → ℕ) (n : ℕ) (l : List A)
      → ((g i : ℕ) → g < n → i < c g → s g i ≡ false → w g i ≡ w' g i) → fresh s w' d c n (made w c n l) ≡ made w' c n l
  unfolding fresh made
  fresh-made s w w' d c n l h =
      let a = lines (λ g i k. w g i) c n in
      over-over (lines (keep s w' d (laid_over a l)) c n) a l (length-lines _ c n ∙ sym (length-lines _ c n))
      ∙ ap (λ (x : List A). laid_over x l) (lines-ext (keep s w' d (laid_over a l)) (λ g i k. w' g i) c n (λ g i p q.
      cond-first (s g i) (w' g i) (get_or (laid_over a l) (sum_below g c + i) d) (λ e.
      get_d_over a l (sum_below g c + i) d (rw length-lines (omega (arith, sum-in c g n p)))
      ∙ lines_at (λ g i k. w g i) c n g i d p q ∙ h g i p q e)))

  -- every line picked: the column made anew, whatever it held
  pub fresh-all : (s : ℕ → ℕ → Bool) (w : ℕ → ℕ → A) (d : A) (c : ℕ → ℕ) (n : ℕ) (l : List A)
      → ((g i : ℕ) → g < n → i < c g → s g i ≡ true) → fresh s w d c n l ≡ made w c n l
  unfolding fresh made
  fresh-all s w d c n l h = ap (λ (x : List A). laid_over x l) (lines-ext (keep s w d l) (λ g i k. w g i) c n (λ g i p q. rw (h g i p q)))

  -- the frame: a line that is not picked stays, and so does what stands past the lines
  pub fresh-else : (s : ℕ → ℕ → Bool) (w : ℕ → ℕ → A) (d : A) (c : ℕ → ℕ) (n : ℕ) (l : List A) (g i : ℕ) → g < n → i < c g
      → s g i ≡ false → get_or (fresh s w d c n l) (sum_below g c + i) d ≡ get_or l (sum_below g c + i) d
  unfolding fresh
  fresh-else s w d c n l g i p q e =
      get_d_over (lines (keep s w d l) c n) l (sum_below g c + i) d (rw length-lines (omega (arith, sum-in c g n p)))
      ∙ lines_at (keep s w d l) c n g i d p q ∙ rw e

  pub fresh-past : (s : ℕ → ℕ → Bool) (w : ℕ → ℕ → A) (d : A) (c : ℕ → ℕ) (n : ℕ) (l : List A) (j : ℕ) → sum_below n c ≤ j → get_or (fresh s w d c n l) j d ≡ get_or l j d
  unfolding fresh
  fresh-past s w d c n l j h = get_d-over-past (lines (keep s w d l) c n) l j d (rw length-lines h)

  pub length-fresh : (s : ℕ → ℕ → Bool) (w : ℕ → ℕ → A) (d : A) (c : ℕ → ℕ) (n : ℕ) (l : List A) → sum_below n c ≤ length l
      → length (fresh s w d c n l) ≡ length l
  unfolding fresh
  length-fresh s w d c n l h = length_over _ l (rw length-lines h)

  -- ---- a column worked out afresh twice
  -- the later time says what stands at a line, and where it says nothing the earlier one does
  fresh-fresh : (s s' : ℕ → ℕ → Bool) (w w' : ℕ → ℕ → A) (d : A) (c : ℕ → ℕ) (n : ℕ) (l : List A)
      → fresh s' w' d c n (fresh s w d c n l) ≡ laid_over (lines (λ g i k. cond (s' g i) (w' g i) (keep s w d l g i k)) c n) l
  unfolding fresh
  fresh-fresh s s' w w' d c n l =
      let a = lines (keep s w d l) c n in
      over-over (lines (keep s' w' d (laid_over a l)) c n) a l (length-lines _ c n ∙ sym (length-lines _ c n))
      ∙ ap (λ (x : List A). laid_over x l) (lines-ext (keep s' w' d (laid_over a l)) (λ g i k. cond (s' g i) (w' g i) (keep s w d l g i k)) c n (λ g i p q.
      ap (cond (s' g i) (w' g i)) (get_d_over a l (sum_below g c + i) d (rw length-lines (omega (arith, sum-in c g n p))) ∙ lines_at (keep s w d l) c n g i d p q)))

  choice : (a b : Bool) (x y u o : A) → (b ≡ false → x ≡ u) → (a ≡ false → y ≡ u) → cond b u (cond a x o) ≡ cond a u (cond b y o)
  choice true true x y u o h k = refl
  choice true false x y u o h k = h refl
  choice false true x y u o h k = sym (k refl)
  choice false false x y u o h k = refl

  -- IN EITHER ORDER: w is by the first change, w' by the second alone, u by both; a line that only one of them picks is by both what it is by that one
  pub fresh-swap : (s s' : ℕ → ℕ → Bool) (w w' u : ℕ → ℕ → A) (d : A) (c : ℕ → ℕ) (n : ℕ) (l : List A)
      → ((g i : ℕ) → s' g i ≡ false → w g i ≡ u g i) → ((g i : ℕ) → s g i ≡ false → w' g i ≡ u g i)
      → fresh s' u d c n (fresh s w d c n l) ≡ fresh s u d c n (fresh s' w' d c n l)
  fresh-swap s s' w w' u d c n l h k =
      fresh-fresh s s' w u d c n l
      ∙ ap (λ (x : List A). laid_over x l) (lines-ext (λ g i j. cond (s' g i) (u g i) (keep s w d l g i j)) (λ g i j. cond (s g i) (u g i) (keep s' w' d l g i j)) c n
      (λ g i p q. choice (s g i) (s' g i) (w g i) (w' g i) (u g i) (get_or l (sum_below g c + i) d) (h g i) (k g i)))
      ∙ sym (fresh-fresh s' s w' u d c n l)

  -- ---- the store of one line
  pub line_kept : (b : Bool) (l : List A) (k : ℕ) (x d : A) → b ≡ false → l ≡ set l k (cond b x (get_or l k d))
  line_kept b l k x d e = rw e (sym (set-get_or l k d))

  pub line-fresh : (b : Bool) (l : List A) (k : ℕ) (x y d : A) → b ≡ true → y ≡ x → set l k y ≡ set l k (cond b x (get_or l k d))
  line-fresh b l k x y d e h = rw (e, h)
