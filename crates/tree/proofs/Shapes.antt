-- What the rows of the grammar are like: the parameters that they list, and the words of blocks, keywords and what is passed.
use Prim.Native.Nat.{ℕ, zero, suc, ◌+◌, ◌<◌}
use mathlib.Core.Path.{◌≡◌, refl, sym, subst}
use mathlib.Core.List.{List, [], ◌∷◌}
use mathlib.Core.Bool.{Bool, true, false, not, ◌&&◌, ◌||◌, false≢true}
use mathlib.Core.Logic.{◌⊎◌, inl, inr}
use native.Mathlib.Omega.{arith}
use borrow.Author.Tests.{eqb-true, ltb-true, eq-eqb}
use lib.Dec.{leb, eqb}
use lib.ListN.{length}
use Rattle.text.proofs.Within.{by-test, and_left, and_right, or_case}
use Rattle.rows.specs.Codes.{FILE, PROJECT}
use Rattle.rows.specs.Row.{Param, name, string, whole, decimal, choice, new, points, alignment, nought, upper, pairs, number as number_entry, text as text_entry, plain, opening, Row, outside}
use Rattle.rows.specs.Rows.{rows}
use Rattle.rows.specs.Numbered.{row_at}
use Rattle.grammar.specs.Keyword.{row_from, row_of, is_row}
use Rattle.facts.proofs.Tests.{every, implied}
use Rattle.tree.specs.Tree.{Among}

-- a parameter of one of the forms
pub data Formed : Param → Type 0 where
  is_name : (s : ℕ) → Formed (name s)
  is_string : (s : ℕ) → Formed (string s)
  is_whole : (s l h : ℕ) → Formed (whole s l h)
  is_decimal : (s : ℕ) → Formed (decimal s)
  is_choice : (s l h : ℕ) → Formed (choice s l h)
  is_new : (h : ℕ) → Formed (new h)
  is_points : (s : ℕ) → Formed (points s)
  is_alignment : (s : ℕ) → Formed (alignment s)
  is_nought : Formed nought
  is_upper : (s : ℕ) → Formed (upper s)

-- parameters of a keyword: such, or how many pairs and a pair
pub data Forms : List Param → Type 0 where
  no_more : Forms []
  more : {q : Param} {qs : List Param} → Formed q → Forms qs → Forms (q ∷ qs)
  paired : (s t : ℕ) → Forms (pairs s ∷ number_entry ∷ text_entry t ∷ [])

both : (a b : Bool) → (a && b) ≡ true → (a ≡ true) × (b ≡ true)
both a b h = (and_left a b h, and_right a b h)

-- two parameters are the same
abbrev same : Param → Param → Bool
same q r = (eqb q.kind r.kind && eqb q.slot r.slot) && (eqb q.low r.low && eqb q.high r.high)

same-is : (q r : Param) → same q r ≡ true → r ≡ q
same-is q r h =
    let a = both (eqb q.kind r.kind && eqb q.slot r.slot) (eqb q.low r.low && eqb q.high r.high) h in
    let b = both (eqb q.kind r.kind) (eqb q.slot r.slot) a.0 in
    let c = both (eqb q.low r.low) (eqb q.high r.high) a.1 in
    sym (equal (eqb-true q.kind r.kind b.0) (eqb-true q.slot r.slot b.1) (eqb-true q.low r.low c.0) (eqb-true q.high r.high c.1)) where
      equal : q.kind ≡ r.kind → q.slot ≡ r.slot → q.low ≡ r.low → q.high ≡ r.high → q ≡ r
      equal k s l h i = record { kind = k i; slot = s i; low = l i; high = h i }

-- the forms, one after the other
abbrev is_form : Param → Bool
is_form q =
    same q (name q.slot) || (same q (string q.slot) || (same q (whole q.slot q.low q.high) || (same q (decimal q.slot)
    || (same q (choice q.slot q.low q.high) || (same q (new q.slot) || (same q (points q.slot) || (same q (alignment q.slot)
    || (same q nought || same q (upper q.slot)))))))))

module _ (q : Param) where
  -- the first form that it has
  or-form : (r : Param) (t : Bool) → Formed r → (t ≡ true → Formed q) → (same q r || t) ≡ true → Formed q
  or-form r t f g h = by-case (or_case (same q r) t h) where
    by-case : (same q r ≡ true) ⊎ (t ≡ true) → Formed q
    by-case (inl e) = subst Formed (same-is q r e) f
    by-case (inr e) = g e

  formed : is_form q ≡ true → Formed q
  formed =
      or-form (name q.slot) _ (is_name q.slot) (or-form (string q.slot) _ (is_string q.slot) (or-form (whole q.slot q.low q.high) _ (is_whole q.slot q.low q.high)
      (or-form (decimal q.slot) _ (is_decimal q.slot) (or-form (choice q.slot q.low q.high) _ (is_choice q.slot q.low q.high)
      (or-form (new q.slot) _ (is_new q.slot) (or-form (points q.slot) _ (is_points q.slot) (or-form (alignment q.slot) _ (is_alignment q.slot)
      (or-form nought _ is_nought (λ e. subst Formed (same-is q (upper q.slot) e) (is_upper q.slot))))))))))

-- how many pairs and a pair
abbrev is_paired : Param → List Param → Bool
is_paired q [] = false
is_paired q (a ∷ []) = false
is_paired q (a ∷ (b ∷ [])) = same q (pairs q.slot) && (same a number_entry && same b (text_entry b.slot))
is_paired q (a ∷ (b ∷ (c ∷ qs))) = false

is-paired : (q : Param) (qs : List Param) → is_paired q qs ≡ true → Forms (q ∷ qs)
is-paired q [] h = absurd (false≢true h)
is-paired q (a ∷ []) h = absurd (false≢true h)
is-paired q (a ∷ (b ∷ [])) h =
    let c = both (same q (pairs q.slot)) _ h in
    let e = both (same a number_entry) (same b (text_entry b.slot)) c.1 in
    subst (λ (p : Param). Forms (p ∷ a ∷ b ∷ [])) (same-is q (pairs q.slot) c.0)
    (subst (λ (p : Param). Forms (pairs q.slot ∷ p ∷ b ∷ [])) (same-is a number_entry e.0)
    (subst (λ (p : Param). Forms (pairs q.slot ∷ number_entry ∷ p ∷ [])) (same-is b (text_entry b.slot) e.1) (paired q.slot b.slot)))
is-paired q (a ∷ (b ∷ (c ∷ qs))) h = absurd (false≢true h)

abbrev are_forms : List Param → Bool
are_forms [] = true
are_forms (q ∷ qs) = (is_form q && are_forms qs) || is_paired q qs

forms : (qs : List Param) → are_forms qs ≡ true → Forms qs
forms [] h = no_more
forms (q ∷ qs) h = by-case (or_case (is_form q && are_forms qs) (is_paired q qs) h) (λ e. forms qs e) where
  by-case : ((is_form q && are_forms qs) ≡ true) ⊎ (is_paired q qs ≡ true) → (are_forms qs ≡ true → Forms qs) → Forms (q ∷ qs)
  by-case (inl e) go = more (formed q (and_left (is_form q) (are_forms qs) e)) (go (and_right (is_form q) (are_forms qs) e))
  by-case (inr e) go = is-paired q qs e

-- ---- a row

-- a test of each holds of one of them
pub every-among : {A : Type 0} (t : A → Bool) (l : List A) → every t l ≡ true → (a : A) → Among a l → t a ≡ true
every-among t [] h a m = absurd m
every-among t (b ∷ bs) h a (inl e) = rw e (and_left (t b) (every t bs) h)
every-among t (b ∷ bs) h a (inr m) = every-among t bs (and_right (t b) (every t bs) h) a m

-- its parameters have forms; a small word opens a block, a great one is passed, another does neither; before PROJECT only PROJECT and great ones
pub record Shaped (r : Row) : Type 0 where
  pub filled : Forms r.params
  pub blocks : leb r.word 10 ≡ true → r.opens ≡ opening
  pub plains : leb 11 r.word ≡ true → eqb r.opens outside ≡ false → r.opens ≡ plain
  pub great : r.parent ≡ FILE → leb 11 r.word ≡ true → leb r.word 28 ≡ true → ⊥
  pub passed : leb 37 r.word ≡ true → r.opens ≡ plain
  pub first : r.parent ≡ FILE → r.opens ≡ opening → r.word ≡ PROJECT

abbrev is_shaped : Row → Bool
is_shaped r =
    ((are_forms r.params && (not (leb r.word 10) || eqb r.opens opening)) && ((not (leb 11 r.word) || (eqb r.opens outside || eqb r.opens plain))
    && (not (eqb r.parent FILE && (leb 11 r.word && leb r.word 28)))))
    && ((not (leb 37 r.word) || eqb r.opens plain) && (not (eqb r.parent FILE && eqb r.opens opening) || eqb r.word PROJECT))

shaped : (r : Row) → is_shaped r ≡ true → Shaped r
shaped r h =
    let a = both ((are_forms r.params && (not (leb r.word 10) || eqb r.opens opening)) && ((not (leb 11 r.word) || (eqb r.opens outside || eqb r.opens plain)) && (not (eqb r.parent FILE && (leb 11 r.word && leb r.word 28))))) _ h in
    let b = both (are_forms r.params && (not (leb r.word 10) || eqb r.opens opening)) _ a.0 in
    let c = both (are_forms r.params) (not (leb r.word 10) || eqb r.opens opening) b.0 in
    let e = both (not (leb 11 r.word) || (eqb r.opens outside || eqb r.opens plain)) _ b.1 in
    let f = both (not (leb 37 r.word) || eqb r.opens plain) _ a.1 in
    record {
      filled = forms r.params c.0;
      blocks = λ t. eqb-true r.opens opening (implied (leb r.word 10) _ c.1 t);
      plains = λ t u. eqb-true r.opens plain (other u (implied (leb 11 r.word) _ e.0 t));
      great = λ p t u. false≢true (rw (eq-eqb r.parent FILE p, t, u) at e.1);
      passed = λ t. eqb-true r.opens plain (implied (leb 37 r.word) _ f.0 t);
      first = λ p o. eqb-true r.word PROJECT (implied (eqb r.parent FILE && eqb r.opens opening) _ f.1 (rw (eq-eqb r.parent FILE p, eq-eqb r.opens opening o)));
    } where
      other : eqb r.opens outside ≡ false → (eqb r.opens outside || eqb r.opens plain) ≡ true → eqb r.opens plain ≡ true
      other u t = rw u at t

all-shaped : every is_shaped rows ≡ true
unfolding rows
all-shaped = refl

pub row-shaped : (r : Row) → Among r rows → Shaped r
row-shaped r m = shaped r (every-among is_shaped rows all-shaped r m)

-- ---- the row that a search finds

found_from : (b w f i : ℕ) → row_from f i b w < i + f → ((row_at (row_from f i b w)).parent ≡ b) × ((row_at (row_from f i b w)).word ≡ w)
unfolding row_from
found_from b w zero i = λ h. absurd (omega arith)
found_from b w (suc f) i =
    by-test (λ (n : ℕ). n < i + suc f → ((row_at n).parent ≡ b) × ((row_at n).word ≡ w)) (eqb (row_at i).parent b && eqb (row_at i).word w)
    (λ t h. (eqb-true (row_at i).parent b (and_left (eqb (row_at i).parent b) (eqb (row_at i).word w) t), eqb-true (row_at i).word w (and_right (eqb (row_at i).parent b) (eqb (row_at i).word w) t)))
    (λ t h. found_from b w f (suc i) (omega arith))

pub row-found : (b w : ℕ) → is_row (row_of b w) ≡ true → ((row_at (row_of b w)).parent ≡ b) × ((row_at (row_of b w)).word ≡ w)
unfolding row_of
row-found b w h = found_from b w (length rows) 0 (omega (arith, ltb-true (row_from (length rows) 0 b w) (length rows) h))
