-- One token where a keyword may come, after `/begin`, after `/end` and after PROJECT's end: what the reading from there on says.
use Prim.Native.Nat.{ℕ, suc}
use mathlib.Core.Path.{◌≡◌, refl, sym, ◌∙◌, ap, subst}
use mathlib.Core.List.{List}
use mathlib.Core.Bool.{Bool, true, false, cond, not}
use borrow.Author.Tests.{eqb-true, not-false}
use lib.Dec.{leb, eqb}
use lib.ListN.{length}
use Rattle.text.specs.Answer as piece
use Rattle.text.specs.Answer.{Answer, given, kind_number}
use Rattle.text.specs.Skip.{skip_block}
use Rattle.text.specs.Token.{next_token}
use Rattle.text.proofs.Within.{by-test, and_left, and_right}
use Rattle.words.specs.Kind as word
use Rattle.words.specs.Class.{class_at}
use Rattle.rows.specs.Codes.{FILE, ANY, PROJECT}
use Rattle.rows.specs.Row.{opening, Row, outside}
use Rattle.rows.specs.Rows.{rows, needed, keeps}
use Rattle.rows.specs.Numbered.{row_at, first_param}
use Rattle.grammar.specs.Move.{view, state, begun, ended, finished, applied, Move}
use Rattle.grammar.specs.Parameter.{a_name, a_begin, an_end}
use Rattle.grammar.specs.Keyword.{row_of, is_row, may_stand, is_often, counting, stands, plain_row, home_of, bare_word, levels_in, of_skip, skips, opens, begun_word, all_met, ends, holder_of, closes, ended_word, item, after_begin, after_end}
use Rattle.grammar.specs.Read.{on_piece, read_from}
use Rattle.tree.proofs.Skipping.{skipped-exactly}
use Rattle.tree.specs.Tree.{Records, Among, Comes, Word, Free, counted, Stands, Met, Content, closed, holds_keyword, passes_keyword, holds_block, skips_block, Versions, version}
use Rattle.tree.specs.Tree as tree
use Rattle.tree.proofs.Tables.{IsRow, row-at}
use Rattle.tree.proofs.Shapes.{Shaped, row-shaped, row-found}
use Rattle.tree.proofs.Words.{block-number, plain-number}
use Rattle.tree.proofs.Acts.{applied-idle, applied-counting, is_free_lem, met_all}
use Rattle.tree.proofs.Filled.{wanting}
use Rattle.tree.proofs.Complete.{resting}
use Rattle.tree.proofs.Rests.{Rest, before, last, inside, prepended, earlier, enclosed, project}
use Rattle.tree.proofs.Claims.{Claims, Gives, by_token, wrong-gives, kind_is}

-- the row that a word was found in
pub record InRow (b c i : ℕ) : Type 0 where
  pub row : Row
  pub listed : Among row rows
  pub is : IsRow i row
  pub shape : Shaped row
  pub placed : row.parent ≡ b
  pub named : row.word ≡ c

row-of : (b c : ℕ) → is_row (row_of b c) ≡ true → InRow b c (row_of b c)
row-of b c h =
    let t = row-at (row_of b c) h in
    let u = row-found b c h in
    record { row = t.0; listed = t.1; is = t.2; shape = row-shaped t.0 t.1; placed = rw t.2.same at u.0; named = rw t.2.same at u.1 }

module _ (x : List ℕ) (d' : Records) (f : ℕ) (ih : Claims x d' f) (d : Records) where
  abbrev Gv : Type 0 → Move → Type 0
  Gv = Gives x d' f d

  -- a keyword that stands, and its parameters
  module _ (home b c i : ℕ) (o : InRow home c i) (a e : ℕ) (G : Type 0)
      (go : (k₁ : ℕ) (d₁ : Records) → Stands x home b o.row e d k₁ d₁ → Rest x d' b k₁ d₁ → G) where
    stands-gives : Gv G (stands (view d) i b a e)
    unfolding stands
    stands-gives =
        by-test Gv-G (not (may_stand (view d) i)) (λ t. tt) λ t.
        by-test Gv-G (is_often (view d) i) (λ u. tt) λ u h.
        filled (is_free_lem d i o.row o.is (not-false (may_stand (view d) i) t) u) h where
          Gv-G : Move → Type 0
          Gv-G = Gv G

          filled : Free d o.row → read_from f x e (wanting b (first_param i) 0) (applied (counting (view d) i) d) ≡ given d' → G
          filled free h =
              let w = ih.wants b (keeps o.row) o.row.params (first_param i) e (counted o.row d) o.is.chain o.shape.filled
              (subst (λ (c : Records). read_from f x e (wanting b (first_param i) 0) c ≡ given d') (applied-counting d i o.row o.is free) h) in
              go w.0 w.1 (record { listed = o.listed; placed = o.placed; free = free; filled = w.2 }) w.3

  -- ---- a bare word

  module _ (b k a e : ℕ) (q : Comes x k piece.name a e) where
    plain-gives : (home c : ℕ) → ((o : InRow home c (row_of home c)) → eqb o.row.opens outside ≡ false → (k₁ : ℕ) (d₁ : Records) → Stands x home b o.row e d k₁ d₁ → Rest x d' b k₁ d₁ → Rest x d' b k d)
        → Gv (Rest x d' b k d) (plain_row (view d) (resting b) (row_of home c) a e)
    unfolding plain_row
    plain-gives home c go =
        by-test (Gives x d' f d (Rest x d' b k d)) (not (is_row (row_of home c))) (λ t. tt) λ t.
        by-test (Gives x d' f d (Rest x d' b k d)) (eqb (row_at (row_of home c)).opens outside) (λ u. tt) λ u.
        let o : InRow home c (row_of home c) = row-of home c (not-false (is_row (row_of home c)) t) in
        stands-gives home b c (row_of home c) o a e (Rest x d' b k d) (go o (subst (λ (r : Row). eqb r.opens outside ≡ false) o.is.same u))

    module _ (c : ℕ) where
      -- a keyword of the block
      taken-rest : class_at x a e ≡ word.taken_plain c → (o : InRow b c (row_of b c)) → eqb o.row.opens outside ≡ false → (k₁ : ℕ) (d₁ : Records)
          → Stands x b b o.row e d k₁ d₁ → Rest x d' b k₁ d₁ → Rest x d' b k d
      taken-rest w o u k₁ d₁ s rest = by-file (eqb b FILE) refl where
        low : leb 11 o.row.word ≡ true
        low = subst (λ (n : ℕ). leb 11 n ≡ true) (sym o.named) (and_left (leb 11 c) (leb c 28) (plain-number x a e c w))

        high : leb o.row.word 28 ≡ true
        high = subst (λ (n : ℕ). leb n 28 ≡ true) (sym o.named) (and_right (leb 11 c) (leb c 28) (plain-number x a e c w))

        by-file : (t : Bool) → eqb b FILE ≡ t → Rest x d' b k d
        by-file true t = absurd (o.shape.great (o.placed ∙ eqb-true b FILE t) low high)
        by-file false t = prepended x d' k d t (λ k₂ d₂ m. holds_keyword o.row (o.shape.plains low u) (a, q, w ∙ ap word.taken_plain (sym o.named)) s m) rest

      -- one that is passed
      passed-rest : class_at x a e ≡ word.skipped_plain c → (o : InRow (home_of b) c (row_of (home_of b) c)) → eqb o.row.opens outside ≡ false → (k₁ : ℕ) (d₁ : Records)
          → Stands x (home_of b) b o.row e d k₁ d₁ → Rest x d' b k₁ d₁ → Rest x d' b k d
      passed-rest w o u k₁ d₁ s rest = by-file (eqb b FILE) refl s where
        r : Row
        r = o.row

        word_at : Word x k (word.skipped_plain r.word) e
        word_at = (a, q, w ∙ ap word.skipped_plain (sym o.named))

        in-file : b ≡ FILE → Stands x FILE b r e d k₁ d₁ → Rest x d' b k d
        in-file z m = earlier x d' k d z (λ k₂ d₂ v. version r word_at (subst (λ (n : ℕ). Stands x FILE n r e d k₁ d₁) z m) v) rest

        by-file : (t : Bool) → eqb b FILE ≡ t → Stands x (cond t FILE ANY) b r e d k₁ d₁ → Rest x d' b k d
        by-file true t m = in-file (eqb-true b FILE t) m
        by-file false t m = prepended x d' k d t (λ k₂ d₂ v. passes_keyword r word_at m v) rest

    bare-gives : (w : word.Kind) → class_at x a e ≡ w → Gv (Rest x d' b k d) (bare_word (view d) (resting b) a e w)
    bare-gives (word.taken_plain c) w = plain-gives b c (taken-rest c w)
    bare-gives (word.skipped_plain c) w = plain-gives (home_of b) c (passed-rest c w)
    bare-gives (word.taken_block c) w = tt
    bare-gives (word.taken_choice c) w = tt
    bare-gives (word.skipped_block c) w = tt
    bare-gives word.listed_only w = tt
    bare-gives word.unlisted w = tt

  -- ---- the word after `/begin`

  module _ (b k₀ a₀ k a e : ℕ) (p : Comes x k₀ piece.begin a₀ k) (q : Comes x k piece.name a e) where
    -- a block inside another, and PROJECT
    opened-rest : (c : ℕ) → class_at x a e ≡ word.taken_block c → (o : InRow b c (row_of b c)) → (k₁ : ℕ) (d₁ : Records) → Stands x b c o.row e d k₁ d₁ → Rest x d' c k₁ d₁ → Rest x d' b k₀ d
    opened-rest c w o k₁ d₁ s rest = by-file (eqb b FILE) refl where
      r : Row
      r = o.row

      opens-it : r.opens ≡ opening
      opens-it = o.shape.blocks (subst (λ (n : ℕ). leb n 10 ≡ true) (sym o.named) (block-number x a e c w))

      word_at : Word x k (word.taken_block r.word) e
      word_at = (a, q, w ∙ ap word.taken_block (sym o.named))

      stands-it : Stands x b r.word r e d k₁ d₁
      stands-it = subst (λ (n : ℕ). Stands x b n r e d k₁ d₁) (sym o.named) s

      in-file : b ≡ FILE → Rest x d' b k₀ d
      in-file z =
          let y : c ≡ PROJECT = sym o.named ∙ o.shape.first (o.placed ∙ z) opens-it in
          subst (λ (n : ℕ). Rest x d' n k₀ d) (sym z)
          (project x d' k₀ d y (λ k₂ n m l. before r tree.Versions.no_more p (a, q, w ∙ ap word.taken_block y) (o.named ∙ y) (subst (λ (n : ℕ). Stands x n PROJECT r e d k₁ d₁) z (subst (λ (n : ℕ). Stands x b n r e d k₁ d₁) y s)) m l) rest)

      by-file : (t : Bool) → eqb b FILE ≡ t → Rest x d' b k₀ d
      by-file true t = in-file (eqb-true b FILE t)
      by-file false t =
          enclosed x d' b k₀ d o.is.named (o.is.held opens-it ∙ o.placed) t (λ k₂ d₂ k₃ d₃ m n. holds_block r p word_at stands-it m n)
          (subst (λ (n : ℕ). Rest x d' n k₁ d₁) (sym o.named) rest)

    opens-gives : (c : ℕ) → class_at x a e ≡ word.taken_block c → Gv (Rest x d' b k₀ d) (opens (view d) (state begun b 0 0) c a e)
    unfolding opens
    opens-gives c w =
        by-test (Gives x d' f d (Rest x d' b k₀ d)) (not (is_row (row_of b c))) (λ t. tt) λ t.
        let o : InRow b c (row_of b c) = row-of b c (not-false (is_row (row_of b c)) t) in
        stands-gives b c c (row_of b c) o a e (Rest x d' b k₀ d) (opened-rest c w o)

    -- a block that is skipped
    skip-gives : (c : ℕ) → class_at x a e ≡ word.skipped_block c → eqb b FILE ≡ false → (r : Answer ℕ) → skip_block (levels_in b) x a e ≡ r → Gv (Rest x d' b k₀ d) (of_skip (state begun b 0 0) r)
    skip-gives c w z (given k₁) s = λ h.
        prepended x d' k₀ d z (λ k₂ d₂ m. skips_block p q w ((skipped-exactly x (levels_in b) a e k₁).0 s) m) (ih.rests b k₁ d (subst (λ (c : Records). read_from f x k₁ (resting b) c ≡ given d') (applied-idle d) h))
    skip-gives c w z (piece.refused n i) s = tt

    skips-gives : (c : ℕ) → class_at x a e ≡ word.skipped_block c → Gv (Rest x d' b k₀ d) (skips x (state begun b 0 0) a e)
    unfolding skips
    skips-gives c w = by-test (Gives x d' f d (Rest x d' b k₀ d)) (eqb b FILE) (λ t. tt) (λ t. skip-gives c w t (skip_block (levels_in b) x a e) refl)

    begun-gives : (w : word.Kind) → class_at x a e ≡ w → Gv (Rest x d' b k₀ d) (begun_word x (view d) (state begun b 0 0) a e w)
    begun-gives (word.taken_block c) w = opens-gives c w
    begun-gives (word.skipped_block c) w = skips-gives c w
    begun-gives (word.taken_plain c) w = tt
    begun-gives (word.taken_choice c) w = tt
    begun-gives (word.skipped_plain c) w = tt
    begun-gives word.listed_only w = tt
    begun-gives word.unlisted w = tt

  -- ---- the word after `/end`

  module _ (b k₀ a₀ k a e : ℕ) (z : eqb b FILE ≡ false) (m : Met d b) (p : Comes x k₀ piece.end a₀ k) (q : Comes x k piece.name a e) where
    closes-gives : class_at x a e ≡ word.taken_block b → Gv (Rest x d' b k₀ d) (closes (state ended b 0 0) a e)
    closes-gives w = by-test (Gives x d' f d (Rest x d' b k₀ d)) (eqb b PROJECT)
        (λ t h. of-project (eqb-true b PROJECT t) (ih.finishes e d (subst (λ (c : Records). read_from f x e (state finished FILE 0 0) c ≡ given d') (applied-idle d) h)))
        (λ t h. inside z t done (ih.rests (holder_of b) e d (subst (λ (c : Records). read_from f x e (resting (holder_of b)) c ≡ given d') (applied-idle d) h))) where
          done : Content x b k₀ d e d
          done = closed m p (a, q, w)

          of-project : b ≡ PROJECT → (n : ℕ) × (next_token x e ≡ given (piece.finish n)) × (d ≡ d') → Rest x d' b k₀ d
          of-project t u =
              subst (λ (n : ℕ). Rest x d' n k₀ d) (sym t)
              (last (subst (Content x PROJECT k₀ d e) u.2 (subst (λ (n : ℕ). Content x n k₀ d e d) t done)) u.1)

    ended-gives : (w : word.Kind) → class_at x a e ≡ w → Gv (Rest x d' b k₀ d) (ended_word (state ended b 0 0) a e w)
    ended-gives (word.taken_block c) w = by-test (Gives x d' f d (Rest x d' b k₀ d)) (eqb c b) (λ t. closes-gives (w ∙ ap word.taken_block (eqb-true c b t))) (λ t. tt)
    ended-gives (word.taken_plain c) w = tt
    ended-gives (word.taken_choice c) w = tt
    ended-gives (word.skipped_block c) w = tt
    ended-gives (word.skipped_plain c) w = tt
    ended-gives word.listed_only w = tt
    ended-gives word.unlisted w = tt

  -- ---- any token

  named : (k : ℕ) (t : piece.Kind) (a e : ℕ) (u : piece.Kind) → eqb (kind_number t) (kind_number u) ≡ true → Comes x k t a e → Comes x k u a e
  named k t a e u h q = subst (λ (v : piece.Kind). Comes x k v a e) (kind_is t u h) q

  pub begins-one : (b k : ℕ) → read_from (suc f) x k (state begun b 0 0) d ≡ given d' → (k₀ a : ℕ) → Comes x k₀ piece.begin a k → Rest x d' b k₀ d
  unfolding after_begin on_piece
  begins-one b k h k₀ a₀ p = by_token x d' f d (Rest x d' b k₀ d) k (state begun b 0 0) one (λ n q. tt) h where
    one : (t : piece.Kind) (a e : ℕ) → Comes x k t a e → Gives x d' f d (Rest x d' b k₀ d) (on_piece x (view d) (state begun b 0 0) (kind_number t) a e)
    one t a e q =
        by-test (Gives x d' f d (Rest x d' b k₀ d)) (eqb (kind_number t) a_name) (λ u. begun-gives b k₀ a₀ k a e p (named k t a e piece.name u q) (class_at x a e) refl)
        (λ u. wrong-gives x d' f d (Rest x d' b k₀ d) 5 (kind_number t) a e)

  pub ends-one : (b k : ℕ) → eqb b FILE ≡ false → Met d b → read_from (suc f) x k (state ended b 0 0) d ≡ given d' → (k₀ a : ℕ) → Comes x k₀ piece.end a k → Rest x d' b k₀ d
  unfolding after_end on_piece
  ends-one b k z m h k₀ a₀ p = by_token x d' f d (Rest x d' b k₀ d) k (state ended b 0 0) one (λ n q. tt) h where
    one : (t : piece.Kind) (a e : ℕ) → Comes x k t a e → Gives x d' f d (Rest x d' b k₀ d) (on_piece x (view d) (state ended b 0 0) (kind_number t) a e)
    one t a e q =
        by-test (Gives x d' f d (Rest x d' b k₀ d)) (eqb (kind_number t) a_name) (λ u. ended-gives b k₀ a₀ k a e z m p (named k t a e piece.name u q) (class_at x a e) refl)
        (λ u. wrong-gives x d' f d (Rest x d' b k₀ d) 3 (kind_number t) a e)

  pub finishes-one : (k : ℕ) → read_from (suc f) x k (state finished FILE 0 0) d ≡ given d' → (p : ℕ) × (next_token x k ≡ given (piece.finish p)) × (d ≡ d')
  unfolding on_piece
  finishes-one k = by_token x d' f d End k (state finished FILE 0 0) one (λ n q h. (n, q, h)) where
    End : Type 0
    End = (p : ℕ) × (next_token x k ≡ given (piece.finish p)) × (d ≡ d')

    one : (t : piece.Kind) (a e : ℕ) → Comes x k t a e → Gives x d' f d End (on_piece x (view d) (state finished FILE 0 0) (kind_number t) a e)
    one t a e q = wrong-gives x d' f d End 3 (kind_number t) a e

  pub rests-one : (b k : ℕ) → read_from (suc f) x k (resting b) d ≡ given d' → Rest x d' b k d
  unfolding ends item on_piece
  rests-one b k = by_token x d' f d (Rest x d' b k d) k (resting b) one (λ n q. tt) where
    ending : (a e : ℕ) → Comes x k piece.end a e → Gives x d' f d (Rest x d' b k d) (ends (view d) (resting b) a e)
    ending a e q =
        by-test (Gives x d' f d (Rest x d' b k d)) (eqb b FILE) (λ t. tt) λ t.
        by-test (Gives x d' f d (Rest x d' b k d)) (all_met (length needed) (view d) b 0)
        (λ u h. ih.ends b e d t (met_all d b u) (subst (λ (c : Records). read_from f x e (state ended b 0 0) c ≡ given d') (applied-idle d) h) k a q) (λ u. tt)

    one : (t : piece.Kind) (a e : ℕ) → Comes x k t a e → Gives x d' f d (Rest x d' b k d) (on_piece x (view d) (resting b) (kind_number t) a e)
    one t a e q =
        by-test (Gives x d' f d (Rest x d' b k d)) (eqb (kind_number t) a_name) (λ u. bare-gives b k a e (named k t a e piece.name u q) (class_at x a e) refl) λ u.
        by-test (Gives x d' f d (Rest x d' b k d)) (eqb (kind_number t) a_begin)
        (λ v h. ih.begins b e d (subst (λ (c : Records). read_from f x e (state begun b 0 0) c ≡ given d') (applied-idle d) h) k a (named k t a e piece.begin v q)) λ v.
        by-test (Gives x d' f d (Rest x d' b k d)) (eqb (kind_number t) an_end) (λ w. ending a e (named k t a e piece.end w q)) (λ w. wrong-gives x d' f d (Rest x d' b k d) 5 (kind_number t) a e)
