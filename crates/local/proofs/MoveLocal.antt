-- What a token leads to depends on nothing after it: a move that ends, or is refused at a token that ends, two bytes before m is the move of every text that is the same before m.
use Prim.Native.Nat.{ℕ, zero, suc, ◌+◌, ◌-◌, ◌≤◌, ◌<◌}
use mathlib.Core.Path.{◌≡◌, refl, sym, ◌∙◌, ap, subst}
use mathlib.Core.List.{List, ◌++◌}
use mathlib.Core.Bool.{Bool, true, false, cond}
use mathlib.Core.Logic.{◌⊎◌, inl, inr}
use native.Mathlib.Omega.{arith}
use borrow.Author.Tests.{leb-true, leb-false, le-leb, lt-leb, eqb-true}
use lib.Dec.{leb, eqb}
use lib.ListN.{length, take, drop}
use lib.Seq.{take-take, take-add, drop-append_seam}
use Rattle.text.specs.Answer.{Answer, given, Piece, piece, finish, kind_number}
use Rattle.text.specs.Answer as text
use Rattle.text.specs.Skip.{skip_block}
use Rattle.text.specs.Token.{next_token}
use Rattle.text.proofs.Pieces.{Pieces, token-within}
use Rattle.number.specs.Answer as number
use Rattle.number.specs.Answer.{in_run}
use Rattle.number.specs.Whole.{whole_of}
use Rattle.number.specs.Decimal.{decimal_of}
use Rattle.number.specs.Form.{has_form}
use Rattle.words.specs.Kind as word
use Rattle.words.specs.Class.{class_at}
use Rattle.rows.specs.Codes.{FILE}
use Rattle.rows.specs.Slots.{own_name, own_name_past}
use Rattle.grammar.specs.Move.{View, begun, ended, finished, Move, went, over, refused}
use Rattle.grammar.specs.Parameter.{a_name, wrong, kind_of, sec_of, high_of, taken_number, find_from, taken_new, taken_name, taken}
use Rattle.grammar.specs.Keyword.{levels_in, of_skip, skips, begun_word, item, after_begin, after_end}
use Rattle.grammar.specs.Read.{on_piece, on_token, move}
use Rattle.grammar.specs.declared.state.State.{State}
use Rattle.facts.specs.Facts.{is_named}
use Rattle.facts.proofs.Numbers.{Number}
use Rattle.facts.proofs.Moves.{Leads, Calm, no_cases, piece-leads}
use Rattle.local.specs.Token.{TokenTo}
use Rattle.local.proofs.Tokens.{EarlyAt, PieceTo, to_inside, to_same, to_end, token-to}
use Rattle.local.proofs.Near.{cut-same}
use Rattle.local.proofs.Skips.{parts_same}
use Rattle.local.proofs.Refusals.{token-given, token-refused, skip-given, skip-refused}
use Rattle.local.proofs.Before.{new-named}

-- a branch that is taken where its test holds
cond_same : {A : Type 0} (u : Bool) (a b c : A) → (u ≡ true → a ≡ b) → cond u a c ≡ cond u b c
cond_same true a b c h = h refl
cond_same false a b c h = refl

module _ (m : ℕ) (x y : List ℕ) (same : take m x ≡ take m y) where
  -- ---- bytes

  front_same : (k : ℕ) → k ≤ m → take k x ≡ take k y
  front_same k h = sym (take-take k m x h) ∙ ap (take k) same ∙ take-take k m y h

  last-same : (e : ℕ) → e ≤ m → leb e (length x) ≡ leb e (length y)
  last-same e h = by-leb (leb e (length x)) refl where
    by-leb : (u : Bool) → leb e (length x) ≡ u → u ≡ leb e (length y)
    by-leb true q = sym (le-leb e (length y) (omega (arith, cut-same m x y same, leb-true e (length x) q)))
    by-leb false q = sym (lt-leb e (length y) (omega (arith, cut-same m x y same, leb-false e (length x) q)))

  part_same : (a n : ℕ) → a + n ≤ m → take n (drop a x) ≡ take n (drop a y)
  part_same a n h = sym (drop-append_seam (take a x) (take n (drop a x))) ∙ ap (drop (length (take a x))) joined ∙ drop-append_seam (take a x) (take n (drop a y)) where
    joined : take a x ++ take n (drop a x) ≡ take a x ++ take n (drop a y)
    joined = sym (take-add a n x) ∙ front_same (a + n) h ∙ take-add a n y ∙ ap (λ l. l ++ take n (drop a y)) (sym (front_same a (omega arith)))

  -- ---- a piece from a up to e that ends two bytes before m

  module _ (a e : ℕ) (h : a < e) (l : e + 2 ≤ m) where
    bytes_same : take (e - a) (drop a x) ≡ take (e - a) (drop a y)
    bytes_same = part_same a (e - a) (omega arith)

    class_same : class_at x a e ≡ class_at y a e
    unfolding class_at
    class_same = rw (last-same e (omega arith), bytes_same)

    form-same : has_form x a e ≡ has_form y a e
    unfolding has_form
    form-same = rw (last-same e (omega arith), bytes_same)

    run-same : {A : Type 0} (f : List ℕ → number.Answer A) → in_run f x a e ≡ in_run f y a e
    unfolding in_run
    run-same f = rw (last-same e (omega arith), bytes_same)

    wrong-same : (n k : ℕ) → wrong n x k a e ≡ wrong n y k a e
    unfolding wrong
    wrong-same n k = rw form-same

    module _ (v : View) (s : State) (b : (j i : ℕ) → is_named j ≡ true → v.slots j i own_name_past + 2 ≤ m) where
      find-same : (f j i : ℕ) → is_named j ≡ true → find_from f x v j i a e ≡ find_from f y v j i a e
      unfolding find_from
      find-same zero j i n = refl
      find-same (suc f) j i n = rw (parts_same m x y same (v.slots j i own_name) (v.slots j i own_name_past) a e (b j i n) l, find-same f j (suc i) n)

      new-same : kind_of s ≡ 6 → taken_new x v s a e ≡ taken_new y v s a e
      unfolding taken_new
      new-same q = rw (find-same (v.counts (sec_of s)) (sec_of s) 0 (new-named s q))

      name-same : taken_name x v s a e ≡ taken_name y v s a e
      unfolding taken_name
      name-same = rw class_same (cond_same (eqb (kind_of s) 6) _ _ _ (λ t. new-same (eqb-true (kind_of s) 6 t)))

      number_same : taken_number x v s a e ≡ taken_number y v s a e
      unfolding taken_number
      number_same = rw (run-same (whole_of (high_of s)), run-same decimal_of)

      taken-same : (k : ℕ) → taken x v s k a e ≡ taken y v s k a e
      unfolding taken
      taken-same k = rw (wrong-same 5 k, name-same, number_same)

      item-same : (k : ℕ) → item x v s k a e ≡ item y v s k a e
      unfolding item
      item-same k = rw (class_same, wrong-same 5 k)

      end_same : (k : ℕ) → after_end x s k a e ≡ after_end y s k a e
      unfolding after_end
      end_same k = rw (class_same, wrong-same 3 k)

  -- ---- moves

  -- a move that ends, or is refused at a token that ends, two bytes before m
  abbrev pub EarlyMove : Move → Type 0
  EarlyMove (went e s a) = e + 2 ≤ m
  EarlyMove over = ⊥
  EarlyMove (refused n p) = EarlyAt m x p

  near-if : (u : Bool) {w w' z z' : Move} → (EarlyMove w → w' ≡ w) → (EarlyMove z → z' ≡ z) → EarlyMove (cond u w z) → cond u w' z' ≡ cond u w z
  near-if true p q = p
  near-if false p q = q

  module _ (s : State) (a e : ℕ) where
    skip-near : (d : ℕ) (r : Answer ℕ) → skip_block d x a e ≡ r → EarlyMove (of_skip s r) → of_skip s (skip_block d y a e) ≡ of_skip s r
    skip-near d (given i) q w = ap (of_skip s) (skip-given m x y same d a e i q w)
    skip-near d (text.refused n p) q w = ap (of_skip s) (skip-refused m x y same d a e n p q w)

    skips-near : EarlyMove (skips x s a e) → skips y s a e ≡ skips x s a e
    unfolding skips
    skips-near = near-if (eqb s.block FILE) (λ w. refl) (skip-near (levels_in s.block) (skip_block (levels_in s.block) x a e) refl)

    begun-near : (v : View) (c : word.Kind) → EarlyMove (begun_word x v s a e c) → begun_word y v s a e c ≡ begun_word x v s a e c
    begun-near v (word.skipped_block k) w = skips-near w
    begun-near v (word.taken_block k) w = refl
    begun-near v (word.taken_plain k) w = refl
    begun-near v (word.taken_choice k) w = refl
    begun-near v (word.skipped_plain k) w = refl
    begun-near v word.listed_only w = refl
    begun-near v word.unlisted w = refl

  module _ (v : View) (s : State) (b : (j i : ℕ) → is_named j ≡ true → v.slots j i own_name_past + 2 ≤ m) where
    piece-near : (a e : ℕ) → a < e → e + 2 ≤ m → (k : ℕ) → EarlyMove (on_piece x v s k a e) → on_piece y v s k a e ≡ on_piece x v s k a e
    unfolding on_piece after_begin
    piece-near a e h l k =
        near-if (eqb s.mode finished) (λ w. sym (wrong-same a e h l 3 k))
        (near-if (eqb s.mode begun)
        (near-if (eqb k a_name) (λ w. ap (begun_word y v s a e) (sym (class_same a e h l)) ∙ begun-near s a e v (class_at x a e) w) (λ w. sym (wrong-same a e h l 5 k)))
        (near-if (eqb s.mode ended) (λ w. sym (end_same a e h l v s b k))
        (near-if (eqb s.param 0) (λ w. sym (item-same a e h l v s b k)) (λ w. sym (taken-same a e h l v s b k)))))

    -- the piece of an early move ends early
    piece-early : (a e : ℕ) → TokenTo x a e → (w : Move) → Leads (s.param ≡ 0) (λ i t z. (e ≤ i) × (i ≤ length x) × Calm t × (i ≤ 0 → Unit {0})) (λ n p. (Number n × (p ≤ length x)) × ((p ≡ a) ⊎ (e ≤ p))) w → EarlyMove w → e + 2 ≤ m
    piece-early a e t (went i u z) q w = omega (arith, q.0)
    piece-early a e t over q w = absurd w
    piece-early a e t (refused n p) (b, inl q) w = let z : w.end ≡ e = to_same (subst (λ i. TokenTo x i w.end) q w.to) t in omega (arith, w.early)
    piece-early a e t (refused n p) (b, inr q) w = omega (arith, (to_inside w.to).0, w.early)

    token-near : Calm s → (k : ℕ) (r : Answer Piece) → next_token x k ≡ r → Pieces (length x) k r → PieceTo x r → EarlyMove (on_token x v s r) → on_token y v s (next_token y k) ≡ on_token x v s r
    token-near c k (given (piece kind a e)) q i t w =
        let l : e + 2 ≤ m = piece-early a e t (on_piece x v s (kind_number kind) a e) (piece-leads x v s (λ u z. Unit {0}) 0 (no_cases 0 v s) a e i.1 i.2 c (kind_number kind)) w in
        ap (on_token y v s) (token-given m x y same k a e kind q l) ∙ piece-near a e i.1 l (kind_number kind) w
    token-near c k (given (finish p)) q i t w = by_mode (eqb s.mode finished) w where
      by_mode : {A : Type 0} (u : Bool) → EarlyMove (cond u over (refused 3 p)) → A
      by_mode true z = absurd z
      by_mode false z = absurd (to_end x z.end (subst (λ i. TokenTo x i z.end) i z.to))
    token-near c k (text.refused n p) q i t w = ap (on_token y v s) (token-refused m x y same k n p q w)

    pub move-near : Calm s → (k : ℕ) → k ≤ length x → EarlyMove (move x v s k) → move y v s k ≡ move x v s k
    unfolding move
    move-near c k h = token-near c k (next_token x k) refl (token-within x k h) (token-to x k)
