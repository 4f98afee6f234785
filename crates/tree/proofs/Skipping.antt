-- "Skipped whole": the walk over a skipped block passes exactly such blocks.
--     skipped-exactly     `skip_block` gives the place past a block exactly if the block is skipped so
use Prim.Native.Nat.{ℕ, zero, suc, ◌≤◌, ◌<◌}
use mathlib.Core.Path.{◌≡◌, refl, sym, ◌∙◌, subst}
use mathlib.Core.List.{List}
use mathlib.Core.Bool.{Bool, true, false, cond, ◌&&◌, false≢true}
use mathlib.Core.Logic.{◌↔◌, inl, inr}
use native.Mathlib.Omega.{arith}
use borrow.Author.Tests.{le-leb, leb-true, leb-false}
use lib.Dec.{ltb, leb}
use lib.ListN.{length}
use Rattle.text.specs.Walk.{on, done, onward, walk, over}
use Rattle.text.specs.Answer.{Answer, given, refused, with, Kind, name, string, number, run, begin, end, is, Piece, piece, finish, Pass, past, closes}
use Rattle.text.specs.Bytes.{same_part}
use Rattle.text.specs.Item.{item_at, next_item}
use Rattle.text.specs.Blank.{blank_step, blank_at}
use Rattle.text.specs.Skip.{as_tag, tag_at, same_tag, closing, after_item, is_a2ml, after_end, a2ml_piece, a2ml_item, a2ml_step, a2ml_end, block_piece, block_item, block_step, block_end, block_in, skip_block, skip_item}
use Rattle.text.proofs.Within.{and_left, and_right}
use Rattle.text.proofs.Walks.{Same, start, onto, stops, ends as ends_walk}
use Rattle.text.proofs.Pieces.{Pieces, item-within}
use Rattle.text.proofs.SkipWithin.{Passes, skip-item-within}
use Rattle.tree.specs.Skipped.{Item, A2ml, ends, ends_another, holds, Items, closed, block, item, Tagged, Nested, Skipped}

never : {A : Type 0} (n p : ℕ) (a : A) → refused n p ≡ given a → ⊥
never n p a e = let z : ◌≡◌ {A = ℕ} 0 1 = cc in omega arith

same-given : {A : Type 0} (a b : A) → ◌≡◌ {A = Answer A} (given a) (given b) → a ≡ b
same-given a b e = cc

-- ---- kinds
is-end : (kind : Kind) → is kind end ≡ true → kind ≡ end
is-end name h = absurd (false≢true h)
is-end string h = absurd (false≢true h)
is-end number h = absurd (false≢true h)
is-end run h = absurd (false≢true h)
is-end begin h = absurd (false≢true h)
is-end end h = refl

is-run : (kind : Kind) → is kind run ≡ true → kind ≡ run
is-run name h = absurd (false≢true h)
is-run string h = absurd (false≢true h)
is-run number h = absurd (false≢true h)
is-run run h = refl
is-run begin h = absurd (false≢true h)
is-run end h = absurd (false≢true h)

is-begin : (kind : Kind) → is kind begin ≡ true → kind ≡ begin
is-begin name h = absurd (false≢true h)
is-begin string h = absurd (false≢true h)
is-begin number h = absurd (false≢true h)
is-begin run h = absurd (false≢true h)
is-begin begin h = refl
is-begin end h = absurd (false≢true h)

module _ (x : List ℕ) where
  -- an item of one kind is not of another
  as-kind : (k a e : ℕ) (kind other : Kind) → kind ≡ other → Item x k kind a e → Item x k other a e
  as-kind k a e kind other q h = subst (λ (y : Kind). Item x k y a e) q h

  -- there is no item past the text
  none-past : (k : ℕ) → length x ≤ k → next_item x k ≡ given (finish (length x))
  unfolding next_item blank_at item_at
  none-past k l = let b : given k ≡ over (length x) (blank_step x) given k = ends_walk start l in rw (← b, le-leb (length x) k l)

  item-starts : (k : ℕ) (kind : Kind) (a e : ℕ) → Item x k kind a e → k ≤ length x
  item-starts k kind a e h = by (leb (length x) k) refl
    where
      by : (b : Bool) → leb (length x) k ≡ b → k ≤ length x
      by true t = let c = none-past k (leb-true (length x) k t) in let z : ◌≡◌ {A = ℕ} 0 1 = cc in absurd (omega arith)
      by false t = let c = leb-false (length x) k t in omega arith

  item-ahead : (k : ℕ) (kind : Kind) (a e : ℕ) → Item x k kind a e → (k < e) × (e ≤ length x)
  item-ahead k kind a e h =
      let p : Pieces (length x) k (given (piece kind a e)) = subst (Pieces (length x) k) h (item-within x k (item-starts k kind a e h)) in
      (omega (arith, p.0, p.1), p.2)

  -- ---- a tag
  tag_is : (m k f t : ℕ) → Item x k run f t → tag_at m x k ≡ given (f, t)
  unfolding tag_at
  tag_is m k f t h = rw h

  tag_of : (m k : ℕ) (g : ℕ × ℕ) → tag_at m x k ≡ given g → Item x k run g.0 g.1
  unfolding tag_at
  tag_of m k g = by-item (next_item x k) refl
    where
      by_kind : (b : Bool) (kind : Kind) (a e : ℕ) → is kind run ≡ b → next_item x k ≡ given (piece kind a e) → cond b (given (a, e)) (refused m a) ≡ given g → Item x k run g.0 g.1
      by_kind true kind a e t h q =
          let s : ◌≡◌ {A = ℕ × ℕ} (a, e) g = same-given (a, e) g q in
          subst (λ (y : ℕ × ℕ). Item x k run y.0 y.1) s (as-kind k a e kind run (is-run kind t) h)
      by_kind false kind a e t h q = absurd (never m a g q)

      by-item : (r : Answer Piece) → next_item x k ≡ r → with r (as_tag m) ≡ given g → Item x k run g.0 g.1
      by-item (given (piece kind a e)) h q = by_kind (is kind run) kind a e refl h q
      by-item (given (finish p)) h q = absurd (never 3 p g q)
      by-item (refused n p) h q = absurd (never n p g q)

  closing-is : (f t e b k' : ℕ) → Item x e run b k' → same_part x b k' x f t ≡ true → closing x f t e ≡ given k'
  unfolding closing
  closing-is f t e b k' h s = rw (tag_is 3 e b k' h, s)

  closing-of : (f t e k' : ℕ) → closing x f t e ≡ given k' → (b : ℕ) × Item x e run b k' × (same_part x b k' x f t ≡ true)
  unfolding closing
  closing-of f t e k' = by-tag (tag_at 3 x e) refl
    where
      by-same : (c : Bool) (g : ℕ × ℕ) → same_part x g.0 g.1 x f t ≡ c → tag_at 3 x e ≡ given g → cond c (given g.1) (refused 3 g.0) ≡ given k'
          → (b : ℕ) × Item x e run b k' × (same_part x b k' x f t ≡ true)
      by-same true g s h q =
          let z : g.1 ≡ k' = same-given g.1 k' q in
          (g.0, subst (λ (y : ℕ). Item x e run g.0 y) z (tag_of 3 e g h), subst (λ (y : ℕ). same_part x g.0 y x f t ≡ true) z s)
      by-same false g s h q = absurd (never 3 g.0 k' q)

      by-tag : (r : Answer (ℕ × ℕ)) → tag_at 3 x e ≡ r → with r (same_tag x f t) ≡ given k' → (b : ℕ) × Item x e run b k' × (same_part x b k' x f t ≡ true)
      by-tag (given g) h q = by-same (same_part x g.0 g.1 x f t) g refl h q
      by-tag (refused n p) h q = absurd (never n p k' q)

  -- ---- the walk over a block: forth. Inner is what is known of the blocks inside
  module _ (inner : ℕ → ℕ → Answer ℕ) (Inner : ℕ → ℕ → ℕ → Type 0) (in-of : (a e k : ℕ) → inner a e ≡ given k → Inner a e k) (f t : ℕ) where
    module _ (k' : ℕ) (go : ℕ → Answer ℕ) (ih : (e : ℕ) → go e ≡ given k' → Items x Inner f t e k') (k : ℕ) where
      abbrev Turn : Answer Pass → Type 0
      Turn a = onward true (after_item (closing x f t) a) go (refused 3 (length x)) ≡ given k' → Items x Inner f t k k'

      by-inner : (a e : ℕ) → Item x k begin a e → (r : Answer ℕ) → inner a e ≡ r → Turn (with r (λ j. given (past j)))
      by-inner a e h (given j) q g = block h (in-of a e j q) (ih j g)
      by-inner a e h (refused n p) q g = absurd (never n p k' g)

      by_end : (a e : ℕ) → Item x k end a e → Turn (given (closes e))
      by_end a e h g = let c = closing-of f t e k' g in closed h c.1 c.2

      by_other : (c : Bool) (kind : Kind) (a e : ℕ) → is kind begin ≡ false → is kind end ≡ c → Item x k kind a e → Turn (cond c (given (closes e)) (given (past e)))
      by_other true kind a e b n h g = by_end a e (as-kind k a e kind end (is-end kind n) h) g
      by_other false kind a e b n h g = item kind b n h (ih e g)

      by_kind : (c : Bool) (kind : Kind) (a e : ℕ) → is kind begin ≡ c → Item x k kind a e
          → Turn (cond c (with (inner a e) (λ j. given (past j))) (cond (is kind end) (given (closes e)) (given (past e))))
      by_kind true kind a e b h g = by-inner a e (as-kind k a e kind begin (is-begin kind b) h) (inner a e) refl g
      by_kind false kind a e b h g = by_other (is kind end) kind a e b refl h g

      by-item : (r : Answer Piece) → next_item x k ≡ r → Turn (with r (block_piece inner))
      by-item (given (piece kind a e)) h g = by_kind (is kind begin) kind a e refl h g
      by-item (given (finish p)) h g = absurd (never 3 p k' g)
      by-item (refused n p) h g = absurd (never n p k' g)

      by-test : (b : Bool) → onward b (block_step inner x f t k) go (refused 3 (length x)) ≡ given k' → Items x Inner f t k k'
      unfolding block_item
      by-test true g = by-item (next_item x k) refl g
      by-test false g = absurd (never 3 (length x) k' g)

    walk-items : (fuel k k' : ℕ) → walk fuel (length x) (block_step inner x f t) (λ j. refused 3 (length x)) k ≡ given k' → Items x Inner f t k k'
    unfolding walk
    walk-items zero k k' g = absurd (never 3 (length x) k' g)
    walk-items (suc fuel) k k' g =
        by-test k' (walk fuel (length x) (block_step inner x f t) (λ j. refused 3 (length x))) (λ e. walk-items fuel e k') k (ltb k (length x)) g

  -- ---- A2ML: forth
  module _ (k' : ℕ) (go : ℕ → Answer ℕ) (ih : (e : ℕ) → go e ≡ given k' → A2ml x e k') (k : ℕ) where
    abbrev Turn2 : Answer Pass → Type 0
    Turn2 a = onward true (after_item given a) go (refused 3 (length x)) ≡ given k' → A2ml x k k'

    -- after `/end`, which stands from a up to e
    module _ (a e : ℕ) (h : Item x k end a e) where
      another : (c : Bool) (kind : Kind) (b f : ℕ) → (is kind run && is_a2ml x b f) ≡ false → next_item x e ≡ given (piece kind b f) → (b' f' : ℕ) → Item x e run b' f' → is_a2ml x b' f' ≡ false
      another c kind b f n q b' f' u =
          let z : ◌≡◌ {A = Answer Piece} (given (piece kind b f)) (given (piece run b' f')) = sym q ∙ u in
          let i : kind ≡ run = cc in
          let j : b ≡ b' = cc in
          let o : f ≡ f' = cc in
          rw (i, j, o) at n

      by-tag : (c : Bool) (kind : Kind) (b f : ℕ) → (is kind run && is_a2ml x b f) ≡ c → next_item x e ≡ given (piece kind b f) → Turn2 (cond c (given (closes f)) (given (past e)))
      by-tag true kind b f n q g =
          let r : is kind run ≡ true = and_left (is kind run) (is_a2ml x b f) n in
          let m : is_a2ml x b f ≡ true = and_right (is kind run) (is_a2ml x b f) n in
          let z : f ≡ k' = same-given f k' g in
          subst (λ (y : ℕ). A2ml x k y) z (ends h (as-kind e b f kind run (is-run kind r) q) m)
      by-tag false kind b f n q g = ends_another h (another false kind b f n q) (ih e g)

      none-run : (r : Answer Piece) → next_item x e ≡ r → ((kind : Kind) (b f : ℕ) → r ≡ given (piece kind b f) → ⊥) → (b f : ℕ) → Item x e run b f → is_a2ml x b f ≡ false
      none-run r q w b f u = absurd (w run b f (sym q ∙ u))

      by_next : (r : Answer Piece) → next_item x e ≡ r → Turn2 (after_end x e r)
      by_next (given (piece kind b f)) q g = by-tag (is kind run && is_a2ml x b f) kind b f refl q g
      by_next (given (finish p)) q g = ends_another h (none-run (given (finish p)) q (λ kind b f u. let z : ◌≡◌ {A = ℕ} 0 1 = cc in omega arith)) (ih e g)
      by_next (refused n p) q g = ends_another h (none-run (refused n p) q (λ kind b f u. let z : ◌≡◌ {A = ℕ} 0 1 = cc in omega arith)) (ih e g)

    a2ml-kind : (c : Bool) (kind : Kind) (a e : ℕ) → is kind end ≡ c → Item x k kind a e → Turn2 (cond c (after_end x e (next_item x e)) (given (past e)))
    a2ml-kind true kind a e n h g = by_next a e (as-kind k a e kind end (is-end kind n) h) (next_item x e) refl g
    a2ml-kind false kind a e n h g = holds kind n h (ih e g)

    a2ml-next : (r : Answer Piece) → next_item x k ≡ r → Turn2 (with r (a2ml_piece x))
    a2ml-next (given (piece kind a e)) h g = a2ml-kind (is kind end) kind a e refl h g
    a2ml-next (given (finish p)) h g = absurd (never 3 p k' g)
    a2ml-next (refused n p) h g = absurd (never n p k' g)

    a2ml-test : (b : Bool) → onward b (a2ml_step x k) go (refused 3 (length x)) ≡ given k' → A2ml x k k'
    unfolding a2ml_item
    a2ml-test true g = a2ml-next (next_item x k) refl g
    a2ml-test false g = absurd (never 3 (length x) k' g)

  walk-a2ml : (fuel k k' : ℕ) → walk fuel (length x) (a2ml_step x) (λ j. refused 3 (length x)) k ≡ given k' → A2ml x k k'
  unfolding walk
  walk-a2ml zero k k' g = absurd (never 3 (length x) k' g)
  walk-a2ml (suc fuel) k k' g = a2ml-test k' (walk fuel (length x) (a2ml_step x) (λ j. refused 3 (length x))) (λ e. walk-a2ml fuel e k') k (ltb k (length x)) g

  -- ---- a block: forth
  module _ (inner : ℕ → ℕ → Answer ℕ) (Inner : ℕ → ℕ → ℕ → Type 0) (in-of : (a e k : ℕ) → inner a e ≡ given k → Inner a e k) (f t k' : ℕ) where
    tagged-of : block_end inner x f t ≡ given k' → Tagged x Inner f t k'
    unfolding block_end a2ml_end over
    tagged-of = by-a2ml (is_a2ml x f t) refl
      where
        by-a2ml : (b : Bool) → is_a2ml x f t ≡ b → cond b (walk (length x) (length x) (a2ml_step x) (λ j. refused 3 (length x)) t) (walk (length x) (length x) (block_step inner x f t) (λ j. refused 3 (length x)) t) ≡ given k'
            → Tagged x Inner f t k'
        by-a2ml true e g = inl (e, walk-a2ml (length x) t k' g)
        by-a2ml false e g = inr (e, walk-items inner Inner in-of f t (length x) t k' g)

  nested-of : (d a e k : ℕ) → block_in d x a e ≡ given k → Nested x d a e k
  unfolding block_in
  nested-of zero a e k g = never 3 a k g
  nested-of (suc d) a e k g = by-tag (tag_at 5 x e) refl (nested-of d) g
    where
      by-tag : (r : Answer (ℕ × ℕ)) → tag_at 5 x e ≡ r → ((b c j : ℕ) → block_in d x b c ≡ given j → Nested x d b c j) → with r (λ tag. block_end (block_in d x) x tag.0 tag.1) ≡ given k → Nested x (suc d) a e k
      by-tag (given tag) h ih g = (tag.0, tag.1, tag_of 5 e tag h, tagged-of (block_in d x) (Nested x d) ih tag.0 tag.1 k g)
      by-tag (refused n p) h ih g = absurd (never n p k g)

  pub skipped-of : (d f t k' : ℕ) → skip_block d x f t ≡ given k' → Skipped x d f t k'
  unfolding skip_block
  skipped-of d f t k' g = tagged-of (block_in d x) (Nested x d) (nested-of d) f t k' g

  -- ---- A2ML: back
  abbrev last : ℕ → Answer ℕ
  last j = refused 3 (length x)

  -- `/end` with no `A2ML` after it is passed
  past_end : (e : ℕ) → ((b f : ℕ) → Item x e run b f → is_a2ml x b f ≡ false) → after_end x e (next_item x e) ≡ given (past e)
  past_end e w = by_next (next_item x e) refl
    where
      by-run : (c : Bool) (kind : Kind) (b f : ℕ) → is kind run ≡ c → next_item x e ≡ given (piece kind b f) → cond (c && is_a2ml x b f) (given (closes f)) (given (past e)) ≡ given (past e)
      by-run true kind b f r q = rw (w b f (as-kind e b f kind run (is-run kind r) q))
      by-run false kind b f r q = refl

      by_next : (r : Answer Piece) → next_item x e ≡ r → after_end x e r ≡ given (past e)
      by_next (given (piece kind b f)) q = by-run (is kind run) kind b f refl q
      by_next (given (finish p)) q = refl
      by_next (refused n p) q = refl

  a2ml-back : {k k' : ℕ} (t : ℕ) → A2ml x k k' → Same (Answer ℕ) (length x) (a2ml_step x) last t k → given k' ≡ over (length x) (a2ml_step x) last t
  unfolding a2ml_item
  a2ml-back {k} {k'} t (ends {a = a} {e = e} {b = b} h q m) s =
      let g = item-ahead k end a e h in
      let p : a2ml_step x k ≡ done (given k') = rw (h, q, m) in
      stops s (omega (arith, g.0, g.1)) p
  a2ml-back {k} t (ends_another {a = a} {e = e} h w r) s =
      let g = item-ahead k end a e h in
      let p : a2ml_step x k ≡ on e = rw (h, past_end e w) in
      a2ml-back t r (onto s (omega (arith, g.0, g.1)) p g.0)
  a2ml-back {k} t (holds {a = a} {e = e} kind n h r) s =
      let g = item-ahead k kind a e h in
      let p : a2ml_step x k ≡ on e = rw (h, n) in
      a2ml-back t r (onto s (omega (arith, g.0, g.1)) p g.0)

  -- ---- a block: back
  module _ (d : ℕ) (in_is : (a e k : ℕ) → Nested x d a e k → block_in d x a e ≡ given k) (f t : ℕ) where
    items_back : {k k' : ℕ} → Items x (Nested x d) f t k k' → Same (Answer ℕ) (length x) (block_step (block_in d x) x f t) last t k
        → given k' ≡ over (length x) (block_step (block_in d x) x f t) last t
    unfolding block_item skip_item
    items_back {k} {k'} (closed {a = a} {e = e} {b = b} h q m) s =
        let g = item-ahead k end a e h in
        let p : block_step (block_in d x) x f t k ≡ done (given k') = rw (h, closing-is f t e b k' q m) in
        stops s (omega (arith, g.0, g.1)) p
    items_back {k} (block {a = a} {e = e} {k₁ = k₁} h i r) s =
        let o : Pieces (length x) k (given (piece begin a e)) = subst (Pieces (length x) k) h (item-within x k (item-starts k begin a e h)) in
        let c : block_in d x a e ≡ given k₁ = in_is a e k₁ i in
        let z : block_item (block_in d x) x k ≡ given (past k₁) = rw (h, c) in
        let w : Passes (length x) k (given (past k₁)) = subst (Passes (length x) k) z (skip-item-within d x k (item-starts k begin a e h)) in
        let p : block_step (block_in d x) x f t k ≡ on k₁ = rw (h, c) in
        items_back r (onto s (omega (arith, w.0, w.1)) p w.0)
    items_back {k} (item {a = a} {e = e} kind b n h r) s =
        let g = item-ahead k kind a e h in
        let p : block_step (block_in d x) x f t k ≡ on e = rw (h, b, n) in
        items_back r (onto s (omega (arith, g.0, g.1)) p g.0)

    tagged_is : (k' : ℕ) → Tagged x (Nested x d) f t k' → block_end (block_in d x) x f t ≡ given k'
    unfolding block_end a2ml_end
    tagged_is k' (inl p) = rw p.0 (sym (a2ml-back t p.1 start))
    tagged_is k' (inr p) = rw p.0 (sym (items_back p.1 start))

  nested_is : (d a e k : ℕ) → Nested x d a e k → block_in d x a e ≡ given k
  unfolding block_in
  nested_is zero a e k n = absurd n
  nested_is (suc d) a e k n = rw (tag_is 5 e n.0 n.1 n.2) (tagged_is d (nested_is d) n.0 n.1 k n.3)

  -- the block whose tag stands from f up to t, with d levels left below it, is passed up to k' exactly if it is skipped so
  pub skipped-exactly : (d f t k' : ℕ) → (skip_block d x f t ≡ given k') ↔ Skipped x d f t k'
  unfolding skip_block
  skipped-exactly d f t k' = (skipped-of d f t k', tagged_is d (nested_is d) f t k')
