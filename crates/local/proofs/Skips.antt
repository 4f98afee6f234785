-- A block that is skipped depends on nothing after the token that decides it: its end, or the token at the place of its refusal.
-- In A2ML an item `/end` is passed or closes by the item after it; that item is read again from the place that is gone on to, so an early answer has it early too.
use Prim.Native.Nat.{ℕ, zero, suc, ◌+◌, ◌-◌, ◌≤◌, ◌<◌}
use mathlib.Core.Path.{◌≡◌, refl, sym, ◌∙◌, ap, subst}
use mathlib.Core.List.{List}
use mathlib.Core.Bool.{Bool, true, false, cond, ◌&&◌}
use native.Mathlib.Omega.{arith}
use borrow.Author.Tests.{eqb-true}
use lib.ListN.{length, take}
use lib.Dec.{leb, eqb}
use Rattle.text.specs.Walk.{done}
use Rattle.text.specs.Answer.{Answer, given, refused, with, Piece, piece, finish, is, run, begin, end, Pass, past, closes}
use Rattle.text.specs.Bytes.{same_part, spelt}
use Rattle.text.specs.Item.{next_item}
use Rattle.text.specs.Skip.{as_tag, tag_at, same_tag, closing, after_item, is_a2ml, after_end, a2ml_piece, a2ml_item, a2ml_step, a2ml_end, block_piece, block_item, block_step, block_end, block_in, skip_block, skip_item}
use Rattle.text.proofs.Within.{by-test, and_right}
use Rattle.text.proofs.SkipWithin.{Passes, a2ml-item-within, skip-item-within}
use Rattle.local.specs.Token.{TokenTo}
use Rattle.local.proofs.Tokens.{EarlyAt, PieceTo, item-to, to_inside, to_same}
use Rattle.local.proofs.Near.{Ahead, Early, EarlyStep, Near, near-cond, near-walk, EarlyAnswer, EarlyTo, EarlyIn, EarlyPiece, near-with, inside, byte-same, for-same, part_same, item-near}

and_same : (c x y : Bool) → (c ≡ true → x ≡ y) → (c && x) ≡ (c && y)
and_same true x y p = p refl
and_same false x y p = refl

-- an item that is passed lies ahead
pass-ahead : (n k : ℕ) (close : ℕ → Answer ℕ) (x : Answer Pass) → Passes n k x → Ahead k (after_item close x)
pass-ahead n k close (given (past e)) p = p.0
pass-ahead n k close (given (closes e)) p = tt
pass-ahead n k close (refused m q) p = tt

-- a tag is a token
abbrev TagTo : List ℕ → Answer (ℕ × ℕ) → Type 0
TagTo s (given tag) = TokenTo s tag.0 tag.1
TagTo s (refused n p) = Unit

as-tag-to : (s : List ℕ) (n : ℕ) (x : Answer Piece) → PieceTo s x → TagTo s (with x (as_tag n))
as-tag-to s n (given (piece kind a e)) to = by-test (TagTo s) (is kind run) (λ u. to) (λ u. tt)
as-tag-to s n (given (finish p)) to = tt
as-tag-to s n (refused m p) to = tt

tag-to : (s : List ℕ) (n k : ℕ) → TagTo s (tag_at n s k)
unfolding tag_at
tag-to s n k = as-tag-to s n (next_item s k) (item-to s k)

module _ (m : ℕ) (s : List ℕ) where
  abbrev EarlyTag : ℕ × ℕ → Type 0
  EarlyTag tag = Early m tag.1

  abbrev EarlyPass : Pass → Type 0
  EarlyPass (past e) = Early m e
  EarlyPass (closes e) = Early m e

  -- a refusal at a token whose end is known
  early-end : (a e : ℕ) → TokenTo s a e → EarlyAt m s a → Early m e
  early-end a e to b = omega (arith, to_same b.to to, b.early)

  -- there is none at the text's end
  not_last : {A : Type 0} (p : ℕ) → p ≡ length s → EarlyAt m s p → A
  not_last p q b = absurd (omega (arith, to_inside b.to))

  -- the step of a walk over items
  pass_step : (close close' : ℕ → Answer ℕ) (k : ℕ) (x x' : Answer Pass) → ((e : ℕ) → x ≡ given (closes e) → Near m (EarlyTo m s) e (close e) (close' e)) → Near m (EarlyAnswer m s EarlyPass) k x x' → Near m (EarlyStep m (Early m) (EarlyTo m s)) k (after_item close x) (after_item close' x')
  pass_step close close' k (given (past e)) x' one p b = let h : Early m k × (x' ≡ given (past e)) = p b in (h.0, ap (after_item close') h.1)
  pass_step close close' k (given (closes e)) x' one p b =
      let g : Early m e × (close' e ≡ close e) = one e refl b in
      let h : Early m k × (x' ≡ given (closes e)) = p g.0 in
      (h.0, ap (after_item close') h.1 ∙ ap done g.1)
  pass_step close close' k (refused n q) x' one p b = let h : Early m k × (x' ≡ refused n q) = p b in (h.0, ap (after_item close') h.1)

module _ (m : ℕ) (s t : List ℕ) (same : take m s ≡ take m t) where
  -- two parts of the text
  pub parts_same : (k e j f : ℕ) → Early m e → Early m f → same_part s k e s j f ≡ same_part t k e t j f
  unfolding same_part
  parts_same k e j f l h = and_same (leb k e && leb j f && eqb (e - k) (f - j)) _ _ λ u.
      let q : e - k ≡ f - j = eqb-true (e - k) (f - j) (and_right (leb k e && leb j f) _ u) in
      for-same m s t same (e - k) k s t j (λ i lt. omega arith) (λ i lt. byte-same m s t same (j + i) (omega arith))

  a2ml-same : (k e : ℕ) → Early m e → is_a2ml s k e ≡ is_a2ml t k e
  unfolding is_a2ml
  a2ml-same k e l = part_same m s t same k (spelt "A2ML") 0 4 e l

  -- ---- tags

  tag-early : (n : ℕ) (x : Piece) → PieceTo s (given x) → EarlyAnswer m s (EarlyTag m s) (as_tag n x) → EarlyIn m s x
  tag-early n (piece kind a e) to = by-test (λ y. EarlyAnswer m s (EarlyTag m s) y → Early m e) (is kind run) (λ u b. b) (λ u b. early-end m s a e to b)
  tag-early n (finish p) to = not_last m s p to

  tag-near : (n k : ℕ) → Near m (EarlyAnswer m s (EarlyTag m s)) k (tag_at n s k) (tag_at n t k)
  unfolding tag_at
  tag-near n k = near-with m s (EarlyIn m s) (EarlyTag m s) k (as_tag n) (as_tag n) (next_item s k) (next_item t k)
      (λ x q b. (tag-early n x (subst (PieceTo s) q (item-to s k)) b, refl)) (item-near m s t same k)

  -- the block's tag ends at u, before the `/end` that k is past
  closing-near : (f u k : ℕ) → u ≤ k → Near m (EarlyTo m s) k (closing s f u k) (closing t f u k)
  unfolding closing
  closing-near f u k h = near-with m s (EarlyTag m s) (Early m) k (same_tag s f u) (same_tag t f u) (tag_at 3 s k) (tag_at 3 t k)
      (λ tag q b.
      let l : Early m tag.1 = by-test (λ y. EarlyTo m s y → Early m tag.1) (same_part s tag.0 tag.1 s f u) (λ v c. c) (λ v c. early-end m s tag.0 tag.1 (subst (TagTo s) q (tag-to s 3 k)) c) b in
      let g : Early m k = (tag-near 3 k (subst (EarlyAnswer m s (EarlyTag m s)) (sym q) l)).0 in
      (l, ap (λ v. cond v (given tag.1) (refused 3 tag.0)) (sym (parts_same tag.0 tag.1 f u l (omega arith)))))
      (tag-near 3 k)

  -- ---- A2ML

  -- a place from which the next item is early too
  abbrev Onward : ℕ → Type 0
  Onward e = Early m e × EarlyPiece m s (next_item s e)

  abbrev Stepping : Answer Pass → Type 0
  Stepping x = EarlyStep m Onward (EarlyTo m s) (after_item given x)

  end-early : (e : ℕ) (y : Answer Piece) → next_item s e ≡ y → Stepping (after_end s e y) → EarlyPiece m s y
  end-early e (given (piece kind a f)) q = by-test (λ w. Stepping w → Early m f) (is kind run && is_a2ml s a f) (λ u b. b) (λ u b. subst (EarlyPiece m s) q b.1)
  end-early e (given (finish p)) q = λ b. subst (EarlyPiece m s) q b.1
  end-early e (refused n p) q = λ b. subst (EarlyPiece m s) q b.1

  end_same : (e : ℕ) (y : Answer Piece) → EarlyPiece m s y → after_end t e y ≡ after_end s e y
  end_same e (given (piece kind a f)) l = rw (a2ml-same a f l)
  end_same e (given (finish p)) l = refl
  end_same e (refused n p) l = refl

  a2ml-of : (x : Answer Piece) → PieceTo s x → Stepping (with x (a2ml_piece s)) → EarlyPiece m s x × (with x (a2ml_piece t) ≡ with x (a2ml_piece s))
  a2ml-of (given (piece kind a e)) to = by_end (is kind end) where
    by_end : (u : Bool) → Stepping (cond u (after_end s e (next_item s e)) (given (past e))) → Early m e × (cond u (after_end t e (next_item t e)) (given (past e)) ≡ cond u (after_end s e (next_item s e)) (given (past e)))
    by_end false b = (b.0, refl)
    by_end true b =
        let c : EarlyPiece m s (next_item s e) = end-early e (next_item s e) refl b in
        let g : Early m e × (next_item t e ≡ next_item s e) = item-near m s t same e c in
        (g.0, ap (after_end t e) g.1 ∙ end_same e (next_item s e) c)
  a2ml-of (given (finish p)) to = not_last m s p to
  a2ml-of (refused n p) to = λ b. (b, refl)

  a2ml-one : (j : ℕ) → EarlyStep m Onward (EarlyTo m s) (a2ml_step s j) → Onward j × (a2ml_step t j ≡ a2ml_step s j)
  unfolding a2ml_item
  a2ml-one j b =
      let g : EarlyPiece m s (next_item s j) × (with (next_item s j) (a2ml_piece t) ≡ with (next_item s j) (a2ml_piece s)) = a2ml-of (next_item s j) (item-to s j) b in
      let h : Early m j × (next_item t j ≡ next_item s j) = item-near m s t same j g.0 in
      ((h.0, g.0), ap (λ x. after_item given (with x (a2ml_piece t))) h.1 ∙ ap (after_item given) g.1)

  a2ml-near : (k : ℕ) → Near m (EarlyTo m s) k (a2ml_end s k) (a2ml_end t k)
  unfolding a2ml_end
  a2ml-near k = near-walk m (EarlyTo m s) Onward (λ j. Unit) (length s) (length t) (λ j g. g.0) (inside m s t same) (a2ml_step s) (a2ml_step t) (λ j. refused 3 (length s)) (λ j. refused 3 (length t))
      (λ j lt. pass-ahead (length s) j given (a2ml_item s j) (a2ml-item-within s j (omega arith))) (λ j e lt p q. tt) (λ j lt p. a2ml-one j) (λ j ge p b. not_last m s (length s) refl b) k tt

  -- ---- any other block

  module _ (inner inner' : ℕ → ℕ → Answer ℕ) (each : (a e : ℕ) → TokenTo s a e → Near m (EarlyTo m s) e (inner a e) (inner' a e)) (passes : (k : ℕ) → k ≤ length s → Passes (length s) k (block_item inner s k)) where
    piece-near : (x : Piece) → PieceTo s (given x) → EarlyAnswer m s (EarlyPass m s) (block_piece inner x) → EarlyIn m s x × (block_piece inner' x ≡ block_piece inner x)
    piece-near (piece kind a e) to = near-cond m (EarlyAnswer m s (EarlyPass m s)) e (is kind begin) (is kind begin) (λ l. refl)
        (near-with m s (Early m) (EarlyPass m s) e (λ k. given (past k)) (λ k. given (past k)) (inner a e) (inner' a e) (λ k q b. (b, refl)) (each a e to))
        (near-cond m (EarlyAnswer m s (EarlyPass m s)) e (is kind end) (is kind end) (λ l. refl) (λ b. (b, refl)) (λ b. (b, refl)))
    piece-near (finish p) to = not_last m s p to

    block-item-near : (k : ℕ) → Near m (EarlyAnswer m s (EarlyPass m s)) k (block_item inner s k) (block_item inner' t k)
    unfolding block_item
    block-item-near k = near-with m s (EarlyIn m s) (EarlyPass m s) k (block_piece inner) (block_piece inner') (next_item s k) (next_item t k) (λ x q. piece-near x (subst (PieceTo s) q (item-to s k))) (item-near m s t same k)

    block-ahead : (f u j : ℕ) → j < length s → Ahead j (block_step inner s f u j)
    block-ahead f u j lt = pass-ahead (length s) j (closing s f u) (block_item inner s j) (passes j (omega arith))

    block_near : (f u : ℕ) → Near m (EarlyTo m s) u (block_end inner s f u) (block_end inner' t f u)
    unfolding block_end
    block_near f u = near-cond m (EarlyTo m s) u (is_a2ml s f u) (is_a2ml t f u) (a2ml-same f u) (a2ml-near u)
        (near-walk m (EarlyTo m s) (Early m) (λ j. u ≤ j) (length s) (length t) (λ j l. l) (inside m s t same) (block_step inner s f u) (block_step inner' t f u) (λ j. refused 3 (length s)) (λ j. refused 3 (length t))
        (block-ahead f u)
        (λ j e lt p q. let a : j < e = subst (Ahead j) q (block-ahead f u j lt) in omega arith)
        (λ j lt p. pass_step m s (closing s f u) (closing t f u) j (block_item inner s j) (block_item inner' t j)
        (λ e q. closing-near f u e (omega (arith, (subst (Passes (length s) j) q (passes j (omega arith))).0))) (block-item-near j))
        (λ j ge p b. not_last m s (length s) refl b) u (omega arith))

  items-pass : (d k : ℕ) → k ≤ length s → Passes (length s) k (block_item (block_in d s) s k)
  unfolding skip_item
  items-pass d k h = skip-item-within d s k h

  block-in-near : (d a e : ℕ) → TokenTo s a e → Near m (EarlyTo m s) e (block_in d s a e) (block_in d t a e)
  unfolding block_in
  block-in-near zero a e to = λ b. (early-end m s a e to b, refl)
  block-in-near (suc d) a e to = near-with m s (EarlyTag m s) (Early m) e (λ tag. block_end (block_in d s) s tag.0 tag.1) (λ tag. block_end (block_in d t) t tag.0 tag.1) (tag_at 5 s e) (tag_at 5 t e)
      (λ tag q. block_near (block_in d s) (block_in d t) (block-in-near d) (items-pass d) tag.0 tag.1) (tag-near 5 e)

  pub skip-near : (d f k : ℕ) → Near m (EarlyTo m s) k (skip_block d s f k) (skip_block d t f k)
  unfolding skip_block
  skip-near d f k = block_near (block_in d s) (block_in d t) (block-in-near d) (items-pass d) f k
