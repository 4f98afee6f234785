-- A text that is accepted has a tree, which makes the records that were read.
use Prim.Native.Nat.{ℕ, zero, suc, ◌+◌, ◌≤◌, ◌<◌}
use mathlib.Core.Path.{◌≡◌, refl, sym, subst}
use mathlib.Core.List.{List, [], ◌∷◌}
use mathlib.Core.Bool.{true, false, ◌||◌}
use mathlib.Core.Logic.{◌⊎◌, inl, inr}
use borrow.Author.Tests.{eqb-true, ltb-false, not-false}
use lib.Dec.{eqb}
use lib.ListN.{length, take}
use Rattle.text.specs.Answer as piece
use Rattle.text.specs.Answer.{given, kind_number}
use Rattle.text.proofs.Within.{or_case}
use Rattle.number.specs.Decimal.{Scaled}
use Rattle.records.specs.Records.{most_of, count}
use Rattle.rows.specs.Codes.{FILE}
use Rattle.rows.specs.Sections.{sections, entry}
use Rattle.rows.specs.Row.{Param, name, string, whole, decimal, choice, new, points, alignment, nought, upper, pairs, number as number_entry, text as text_entry}
use Rattle.rows.specs.Numbered.{param_at}
use Rattle.grammar.specs.Move.{view, writes, applied}
use Rattle.grammar.specs.Parameter.{after_text, keeping, new_record, sign_of, twice, taken_pairs}
use Rattle.grammar.specs.Read.{on_piece, read_from, start, read}
use Rattle.grammar.specs.declared.state.Act.{Act}
use Rattle.grammar.specs.declared.state.State.{State}
use Rattle.tree.specs.Tree.{Records, Among, written, kept, appended, Comes, Parameter, takes_name, takes_string, takes_whole, takes_decimal, takes_choice, takes_new, takes_points, takes_alignment, takes_nought, takes_upper, Pairs, pair, Parameters, next, many, Description}
use Rattle.tree.specs.Tree as tree
use Rattle.tree.proofs.Tables.{IsParam, Chain}
use Rattle.tree.proofs.Shapes.{Formed, is_name, is_string, is_whole, is_decimal, is_choice, is_new, is_points, is_alignment, is_nought, is_upper, Forms, more, paired}
use Rattle.tree.proofs.Shapes as shapes
use Rattle.tree.proofs.Acts.{applied-writes, applied-new, find-fresh, once-apart}
use Rattle.tree.proofs.Filled.{wanting, keeps-at, coming, after_text_lem, pairs_next, run-most}
use Rattle.tree.proofs.Rests as rests
use Rattle.tree.proofs.Claims.{Claims, Gives, by_token, not-given, kind_is, Filling, Pairing, Telling}
use Rattle.tree.proofs.Keywords.{begins-one, ends-one, finishes-one, rests-one}
use Rattle.tree.proofs.Values.{name-gives, string-gives, choice-gives, new-gives, whole-on, whole-gives, decimal-on, decimal-gives, entry-on, pairs-gives, text-gives}

-- one of the four numbers of an alignment
is-four : (m : ℕ) → (eqb m 1 || eqb m 2 || eqb m 4 || eqb m 8) ≡ true → Among m (1 ∷ 2 ∷ 4 ∷ 8 ∷ [])
is-four m h = eighth (or_case (eqb m 1 || eqb m 2 || eqb m 4) (eqb m 8) h) where
  second : (eqb m 1 ≡ true) ⊎ (eqb m 2 ≡ true) → Among m (1 ∷ 2 ∷ 4 ∷ 8 ∷ [])
  second (inl t) = inl (eqb-true m 1 t)
  second (inr t) = inr (inl (eqb-true m 2 t))

  fourth : ((eqb m 1 || eqb m 2) ≡ true) ⊎ (eqb m 4 ≡ true) → Among m (1 ∷ 2 ∷ 4 ∷ 8 ∷ [])
  fourth (inl t) = second (or_case (eqb m 1) (eqb m 2) t)
  fourth (inr t) = inr (inr (inl (eqb-true m 4 t)))

  eighth : ((eqb m 1 || eqb m 2 || eqb m 4) ≡ true) ⊎ (eqb m 8 ≡ true) → Among m (1 ∷ 2 ∷ 4 ∷ 8 ∷ [])
  eighth (inl t) = fourth (or_case (eqb m 1 || eqb m 2) (eqb m 4) t)
  eighth (inr t) = inr (inr (inr (inl (eqb-true m 8 t))))

-- the token is of the kind that was tested
of-kind : (x : List ℕ) (k : ℕ) (t : piece.Kind) (a e : ℕ) (u : piece.Kind) → eqb (kind_number t) (kind_number u) ≡ true → Comes x k t a e → Comes x k u a e
of-kind x k t a e u h q = subst (λ (v : piece.Kind). Comes x k v a e) (kind_is t u h) q

module _ (x : List ℕ) (d' : Records) (f : ℕ) (ih : Claims x d' f) (d : Records) where
  -- ---- one parameter

  module _ (b j : ℕ) (q : Param) (qs : List Param) (p k : ℕ) (c : Chain p j (q ∷ qs)) (fs : Forms qs) where
    abbrev G : Type 0
    G = Filling x d' b j (q ∷ qs) k d

    -- it is one of the tree's, and the others follow
    goes_on : (e : ℕ) (act : Act) (d₁ : Records) → applied act d ≡ d₁ → Parameter x b j q k d e d₁ → read_from f x e (wanting b (param_at p).next 0) (applied act d) ≡ given d' → G
    goes_on e act d₁ z one h =
        let w = ih.wants b j qs (param_at p).next e d₁ c.1 fs (subst (λ (m : Records). read_from f x e (wanting b (param_at p).next 0) m ≡ given d') z h) in
        (w.0, w.1, next one w.2, w.3)

    -- its numbers are kept
    kept_on : (e m y z u : ℕ) → Parameter x b j q k d e (kept j q.slot (take m (y ∷ z ∷ u ∷ 0 ∷ [])) d)
        → read_from f x e (wanting b (param_at p).next 0) (applied (keeping (wanting b p 0) m y z u) d) ≡ given d' → G
    kept_on e m y z u = goes_on e (keeping (wanting b p 0) m y z u) (kept j q.slot (take m (y ∷ z ∷ u ∷ 0 ∷ [])) d) (keeps-at x b j 0 d p q c.0 m y z u)

  module _ (b j : ℕ) (qs : List Param) (p k : ℕ) (fs : Forms qs) (t : piece.Kind) (a e : ℕ) (tok : Comes x k t a e) where
    one-gives : {q : Param} → Formed q → (c : Chain p j (q ∷ qs)) → Gives x d' f d (Filling x d' b j (q ∷ qs) k d) (on_piece x (view d) (wanting b p 0) (kind_number t) a e)
    one-gives (is_name s) c =
        name-gives x d' f d (G b j (name s) qs p k c fs) b j 0 p (name s) c.0 a e (kind_number t) refl
        (λ u. kept_on b j (name s) qs p k c fs e 2 a e 0 (takes_name (of-kind x k t a e piece.name u tok)))
    one-gives (is_string s) c =
        string-gives x d' f d (G b j (string s) qs p k c fs) b j 0 p (string s) c.0 a e (kind_number t) refl
        (λ u. kept_on b j (string s) qs p k c fs e 2 a e 0 (takes_string (of-kind x k t a e piece.string u tok)))
    one-gives (is_whole s l h) c =
        whole-gives x d' f d (G b j (whole s l h) qs p k c fs) b j 0 p (whole s l h) c.0 a e (kind_number t) (inl refl)
        (λ u. whole-on x d' f d (G b j (whole s l h) qs p k c fs) b j 0 p (whole s l h) c.0 a e
        (λ m v y z w. kept_on b j (whole s l h) qs p k c fs e 1 m 0 0 (takes_whole (a, of-kind x k t a e piece.number u tok, v) y)))
    one-gives (is_decimal s) c =
        decimal-gives x d' f d (G b j (decimal s) qs p k c fs) b j 0 p (decimal s) c.0 a e (kind_number t) (inl refl)
        (λ u. decimal-on x d' f d (G b j (decimal s) qs p k c fs) b j 0 p (decimal s) c.0 a e refl
        (λ m v y z. kept_on b j (decimal s) qs p k c fs e 3 (sign_of m) m.whole m.tens (takes_decimal (a, of-kind x k t a e piece.number u tok, v))))
    one-gives (is_choice s l h) c =
        choice-gives x d' f d (G b j (choice s l h) qs p k c fs) b j 0 p (choice s l h) c.0 a e (kind_number t) refl
        (λ u n v y z. kept_on b j (choice s l h) qs p k c fs e 1 n 0 0 (takes_choice (a, of-kind x k t a e piece.name u tok, v) y z))
    one-gives (is_new h) c =
        new-gives x d' f d (G b j (new h) qs p k c fs) b j 0 p (new h) c.0 a e (kind_number t) refl
        (λ u y z. goes_on b j (new h) qs p k c fs e (new_record j 4 a e (count d h) b) (appended j (a ∷ e ∷ count d h ∷ b ∷ []) d) (applied-new j 4 a e (count d h) b d)
        (takes_new (of-kind x k t a e piece.name u tok) (find-fresh x d j a e y) z))
    one-gives (is_points s) c =
        whole-gives x d' f d (G b j (points s) qs p k c fs) b j 0 p (points s) c.0 a e (kind_number t) (inr (inl refl))
        (λ u. whole-on x d' f d (G b j (points s) qs p k c fs) b j 0 p (points s) c.0 a e
        (λ m v y z w. kept_on b j (points s) qs p k c fs e 1 m 0 0 (takes_points (a, of-kind x k t a e piece.number u tok, v) y (ltb-false 256 m z))))
    one-gives (is_alignment s) c =
        whole-gives x d' f d (G b j (alignment s) qs p k c fs) b j 0 p (alignment s) c.0 a e (kind_number t) (inr (inr refl))
        (λ u. whole-on x d' f d (G b j (alignment s) qs p k c fs) b j 0 p (alignment s) c.0 a e
        (λ m v y z w. kept_on b j (alignment s) qs p k c fs e 1 m 0 0 (takes_alignment (a, of-kind x k t a e piece.number u tok, v) (is-four m (not-false _ w)))))
    one-gives is_nought c =
        decimal-gives x d' f d (G b j nought qs p k c fs) b j 0 p nought c.0 a e (kind_number t) (inr (inl refl))
        (λ u. decimal-on x d' f d (G b j nought qs p k c fs) b j 0 p nought c.0 a e refl
        (λ m v y z. goes_on b j nought qs p k c fs e (keeping (wanting b p 0) 3 (sign_of m) m.whole m.tens) d (unfold kept in (keeps-at x b j 0 d p nought c.0 3 (sign_of m) m.whole m.tens))
        (takes_nought (a, of-kind x k t a e piece.number u tok, v) (eqb-true m.whole 0 (not-false _ y)))))
    one-gives (is_upper s) c =
        decimal-gives x d' f d (G b j (upper s) qs p k c fs) b j 0 p (upper s) c.0 a e (kind_number t) (inr (inr (inl refl)))
        (λ u. decimal-on x d' f d (G b j (upper s) qs p k c fs) b j 0 p (upper s) c.0 a e refl
        (λ m v y z. kept_on b j (upper s) qs p k c fs e 3 (sign_of m) m.whole m.tens (takes_upper (a, of-kind x k t a e piece.number u tok, v) (not-false _ z))))

  -- ---- pairs

  module _ (b j t p : ℕ) (i : IsParam p j number_entry) (i' : IsParam (param_at p).next j (text_entry t)) where
    -- where n pairs are to come
    come : (n k : ℕ) (d₁ : Records) → read_from f x k (coming x b j p t i i' n) d₁ ≡ given d' → Pairing x d' b n k d₁
    come zero k d₁ h = (k, d₁, tree.Pairs.no_more, ih.rests b k d₁ h)
    come (suc n) k d₁ h = ih.numbers b j t p i i' n k d₁ h

    numbers-one : (n k : ℕ) → read_from (suc f) x k (wanting b p (suc n)) d ≡ given d' → Pairing x d' b (suc n) k d
    numbers-one n k = by_token x d' f d (Pairing x d' b (suc n) k d) k (wanting b p (suc n)) one (λ m q. tt) where
      told : (a e : ℕ) (m : Scaled) → tree.Decimal x k m e → m.tens ≡ 0 → twice (view d) (sign_of m) m.whole ≡ false → count d entry < most_of sections entry
          → read_from f x e (wanting b (param_at p).next (suc n)) (applied (new_record entry 2 (sign_of m) m.whole 0 0) d) ≡ given d' → Pairing x d' b (suc n) k d
      told a e m v y z w h =
          let r = ih.texts b j t p i i' n e (appended entry (sign_of m ∷ m.whole ∷ []) d)
          (subst (λ (c : Records). read_from f x e (wanting b (param_at p).next (suc n)) c ≡ given d') (applied-new entry 2 (sign_of m) m.whole 0 0 d) h) in
          (r.3.0, r.3.1, pair v y (once-apart d m z) w r.2 r.3.2, r.3.3)

      one : (u : piece.Kind) (a e : ℕ) → Comes x k u a e → Gives x d' f d (Pairing x d' b (suc n) k d) (on_piece x (view d) (wanting b p (suc n)) (kind_number u) a e)
      one u a e q =
          decimal-gives x d' f d (Pairing x d' b (suc n) k d) b j (suc n) p number_entry i a e (kind_number u) (inr (inr (inr refl)))
          (λ s. entry-on x d' f d (Pairing x d' b (suc n) k d) b j (suc n) p number_entry i a e refl
          (λ m v y z w. told a e m (a, of-kind x k u a e piece.number s q, v) y z w))

    texts-one : (n k : ℕ) → read_from (suc f) x k (wanting b (param_at p).next (suc n)) d ≡ given d' → Telling x d' b n k d
    texts-one n k = by_token x d' f d (Telling x d' b n k d) k (wanting b (param_at p).next (suc n)) one (λ m q. tt) where
      told : (a e : ℕ) → Comes x k piece.string a e → read_from f x e (after_text (wanting b (param_at p).next (suc n))) (applied (writes entry 2 2 a e 0) d) ≡ given d' → Telling x d' b n k d
      told a e q h = (
        a,
        e,
        q,
        come n e (written entry 2 (a ∷ e ∷ []) d)
            (subst (λ (s : State). read_from f x e s (written entry 2 (a ∷ e ∷ []) d) ≡ given d') (after_text_lem x b j p t i i' n)
            (subst (λ (c : Records). read_from f x e (after_text (wanting b (param_at p).next (suc n))) c ≡ given d') (applied-writes entry 2 2 a e 0 d) h)),
      )

      one : (u : piece.Kind) (a e : ℕ) → Comes x k u a e → Gives x d' f d (Telling x d' b n k d) (on_piece x (view d) (wanting b (param_at p).next (suc n)) (kind_number u) a e)
      one u a e q =
          text-gives x d' f d (Telling x d' b n k d) b j (suc n) (param_at p).next (text_entry t) i' a e (kind_number u) refl
          (λ s h. told a e (of-kind x k u a e piece.string s q) h)

  -- how many pairs, and the pairs
  many-one : (b j s t p k : ℕ) → Chain p j (pairs s ∷ number_entry ∷ text_entry t ∷ []) → read_from (suc f) x k (wanting b p 0) d ≡ given d'
      → Filling x d' b j (pairs s ∷ number_entry ∷ text_entry t ∷ []) k d
  many-one b j s t p k c = by_token x d' f d All k (wanting b p 0) one (λ m q. tt) where
    All : Type 0
    All = Filling x d' b j (pairs s ∷ number_entry ∷ text_entry t ∷ []) k d

    so-many : (e n : ℕ) → tree.Whole x k 65535 n e → n ≤ 65535 → Gives x d' f d All (taken_pairs (wanting b p 0) e n)
    so-many e n v l =
        subst (Gives x d' f d All) (sym (pairs_next x b j (param_at p).next t c.1.0 c.1.1.0 p 0 (pairs s) c.0 refl e n l))
        (λ h. let r = come b j t (param_at p).next c.1.0 c.1.1.0 n e (kept j s (n ∷ []) d)
        (subst (λ (m : Records). read_from f x e (coming x b j (param_at p).next t c.1.0 c.1.1.0 n) m ≡ given d') (keeps-at x b j 0 d p (pairs s) c.0 1 n 0 0) h) in
        (r.0, r.1, many v r.2, r.3))

    one : (u : piece.Kind) (a e : ℕ) → Comes x k u a e → Gives x d' f d All (on_piece x (view d) (wanting b p 0) (kind_number u) a e)
    one u a e q =
        pairs-gives x d' f d All b j 0 p (pairs s) c.0 a e (kind_number u) refl
        (λ z n v. so-many e n (a, of-kind x k u a e piece.number z q, v) (run-most 65535 x a e n v))

  -- ---- all parameters

  wants-one : (b j : ℕ) (qs : List Param) (p k : ℕ) → Chain p j qs → Forms qs → read_from (suc f) x k (wanting b p 0) d ≡ given d' → Filling x d' b j qs k d
  wants-one b j qs p k c shapes.no_more h = (k, d, tree.Parameters.no_more, rests-one x d' f ih d b k (subst (λ (n : ℕ). read_from (suc f) x k (wanting b n 0) d ≡ given d') c h))
  wants-one b j qs p k c (more {q} {qs = rs} form fs) h = by_token x d' f d (Filling x d' b j (q ∷ rs) k d) k (wanting b p 0) (λ t a e tok. one-gives b j rs p k fs t a e tok form c) (λ m z. tt) h
  wants-one b j qs p k c (paired s t) h = many-one b j s t p k c h

-- ---- every reading

claims : (x : List ℕ) (d' : Records) (f : ℕ) → Claims x d' f
unfolding read_from
claims x d' zero = record {
  rests = λ b k d h. absurd (not-given 3 (length x) d' h);
  wants = λ b j qs p k d c fs h. absurd (not-given 3 (length x) d' h);
  numbers = λ b j t p i i' n k d h. absurd (not-given 3 (length x) d' h);
  texts = λ b j t p i i' n k d h. absurd (not-given 3 (length x) d' h);
  begins = λ b k d h. absurd (not-given 3 (length x) d' h);
  ends = λ b k d z m h. absurd (not-given 3 (length x) d' h);
  finishes = λ k d h. absurd (not-given 3 (length x) d' h);
}
claims x d' (suc f) = record {
  rests = λ b k d h. rests-one x d' f (claims x d' f) d b k h;
  wants = λ b j qs p k d c fs h. wants-one x d' f (claims x d' f) d b j qs p k c fs h;
  numbers = λ b j t p i i' n k d h. numbers-one x d' f (claims x d' f) d b j t p i i' n k h;
  texts = λ b j t p i i' n k d h. texts-one x d' f (claims x d' f) d b j t p i i' n k h;
  begins = λ b k d h. begins-one x d' f (claims x d' f) d b k h;
  ends = λ b k d z m h. ends-one x d' f (claims x d' f) d b k z m h;
  finishes = λ k d h. finishes-one x d' f (claims x d' f) d k h;
}

-- "accepted exactly if": an accepted text has a tree, which makes its records
pub accepted-is : (x : List ℕ) (d : Records) → read x ≡ given d → Description x d
unfolding read
accepted-is x d h = rests.entire x d refl refl refl ((claims x d (length x + 1)).rests FILE 0 start h)
