-- One token where a parameter comes: what the reading from there on says.
use Prim.Native.Nat.{ℕ, ◌-◌, ◌≤◌, ◌<◌}
use mathlib.Core.Path.{◌≡◌, refl, ◌∙◌}
use mathlib.Core.List.{List}
use mathlib.Core.Bool.{Bool, true, false, not, ◌&&◌, ◌||◌}
use mathlib.Core.Logic.{◌⊎◌, inl, inr}
use borrow.Author.Tests.{eqb-true, ltb-false, leb-true, leb-false, not-false}
use lib.Dec.{ltb, leb, eqb}
use Rattle.text.specs.Answer.{given}
use Rattle.text.proofs.Within.{by-test, and_left, and_right}
use Rattle.number.specs.Answer as number
use Rattle.number.specs.Answer.{in_run}
use Rattle.number.specs.Whole.{whole_of}
use Rattle.number.specs.Decimal.{Scaled, decimal_of}
use Rattle.convert.specs.Limit.{at_most}
use Rattle.words.specs.Kind as word
use Rattle.words.specs.Class.{class_at}
use Rattle.records.specs.Records.{most_of, count}
use Rattle.rows.specs.Sections.{sections, entry}
use Rattle.rows.specs.Row.{Param}
use Rattle.rows.specs.Numbered.{param_at}
use Rattle.grammar.specs.Move.{view, writes, applied, Move, went}
use Rattle.grammar.specs.Parameter.{a_name, a_string, a_number, after_text, keeping, new_record, sign_of, decimal_in, twice, find, taken_whole, taken_pairs, taken_entry, taken_decimal, of_number, of_whole, of_decimal, taken_number, taken_new, of_choice, taken_name, taken_text, taken}
use Rattle.grammar.specs.Read.{on_piece, read_from}
use Rattle.grammar.specs.declared.state.Act.{Act}
use Rattle.tree.specs.Tree.{Records}
use Rattle.tree.proofs.Tables.{IsParam}
use Rattle.tree.proofs.Filled.{wanting}
use Rattle.tree.proofs.Claims.{Gives, wrong-gives}

module _ (x : List ℕ) (d' : Records) (f : ℕ) (d : Records) (G : Type 0) where
  -- what is made of a number that was read
  of_number_lem : {A : Type 0} (a : ℕ) (r : number.Answer A) (g : A → Move) → ((m : A) → r ≡ number.given m → Gives x d' f d G (g m)) → Gives x d' f d G (of_number a r g)
  of_number_lem a (number.given m) g h = h m refl
  of_number_lem a (number.refused n) g h = tt

  module _ (b j n p : ℕ) (q : Param) (i : IsParam p j q) (a e : ℕ) where
    -- it goes on with the next parameter
    abbrev pub Goes : Act → Type 0
    Goes act = read_from f x e (wanting b (param_at p).next n) (applied act d) ≡ given d' → G

    pub name-gives : (t : ℕ) → q.kind ≡ 1 → (eqb t a_name ≡ true → Goes (keeping (wanting b p n) 2 a e 0)) → Gives x d' f d G (on_piece x (view d) (wanting b p n) t a e)
    unfolding on_piece taken taken_name
    name-gives t z go = rw (i.some, i.kind ∙ z) (by-test (Gives x d' f d G) (eqb t a_name) (λ u. go u) (λ u. wrong-gives x d' f d G 5 t a e))

    pub string-gives : (t : ℕ) → q.kind ≡ 2 → (eqb t a_string ≡ true → Goes (keeping (wanting b p n) 2 a e 0)) → Gives x d' f d G (on_piece x (view d) (wanting b p n) t a e)
    unfolding on_piece taken taken_text
    string-gives t z go = rw (i.some, i.kind ∙ z) (by-test (Gives x d' f d G) (eqb t a_string) (λ u. go u) (λ u. wrong-gives x d' f d G 5 t a e))

    -- a choice: one of those that may stand
    pub choice-gives : (t : ℕ) → q.kind ≡ 5
        → (eqb t a_name ≡ true → (c : ℕ) → class_at x a e ≡ word.taken_choice c → q.low ≤ c → c ≤ q.high → Goes (keeping (wanting b p n) 1 c 0 0))
        → Gives x d' f d G (on_piece x (view d) (wanting b p n) t a e)
    unfolding on_piece taken taken_name
    choice-gives t z go =
        rw (i.some, i.kind ∙ z) (by-test (Gives x d' f d G) (eqb t a_name) (λ u. of-class (go u) (class_at x a e) refl) (λ u. wrong-gives x d' f d G 5 t a e)) where
          of-class : ((c : ℕ) → class_at x a e ≡ word.taken_choice c → q.low ≤ c → c ≤ q.high → Goes (keeping (wanting b p n) 1 c 0 0))
              → (w : word.Kind) → class_at x a e ≡ w → Gives x d' f d G (of_choice (wanting b p n) a e w)
          of-class on (word.taken_choice c) w =
              rw (i.low, i.high) (by-test (Gives x d' f d G) (leb q.low c && leb c q.high)
              (λ v. on c w (leb-true q.low c (and_left (leb q.low c) (leb c q.high) v)) (leb-true c q.high (and_right (leb q.low c) (leb c q.high) v)))
              (λ v. tt))
          of-class on (word.taken_block c) w = tt
          of-class on (word.taken_plain c) w = tt
          of-class on (word.skipped_block c) w = tt
          of-class on (word.skipped_plain c) w = tt
          of-class on word.listed_only w = tt
          of-class on word.unlisted w = tt

    -- a new name
    pub new-gives : (t : ℕ) → q.kind ≡ 6
        → (eqb t a_name ≡ true → find x (view d) j a e ≡ 0 → count d j < most_of sections j → Goes (new_record j 4 a e (count d q.slot) b))
        → Gives x d' f d G (on_piece x (view d) (wanting b p n) t a e)
    unfolding on_piece taken taken_name taken_new
    new-gives t z go =
        rw (i.some, i.kind ∙ z, i.sec, i.slot) (by-test (Gives x d' f d G) (eqb t a_name)
        (λ u. by-test (Gives x d' f d G) (not (eqb (find x (view d) j a e) 0)) (λ v. tt) λ v.
        by-test (Gives x d' f d G) (leb (most_of sections j) (count d j)) (λ w. tt) λ w.
        go u (eqb-true (find x (view d) j a e) 0 (not-false (eqb (find x (view d) j a e) 0) v)) (leb-false (most_of sections j) (count d j) w))
        (λ u. wrong-gives x d' f d G 5 t a e))

    -- ---- whole numbers

    abbrev pub four : ℕ → Bool
    four m = eqb m 1 || eqb m 2 || eqb m 4 || eqb m 8

    pub whole-on : ((m : ℕ) → in_run (whole_of q.high) x a e ≡ number.given m → q.low ≤ m → (eqb q.kind 7 && ltb 256 m) ≡ false → (eqb q.kind 8 && not (four m)) ≡ false
        → Goes (keeping (wanting b p n) 1 m 0 0)) → Gives x d' f d G (of_whole x (wanting b p n) a e)
    unfolding taken_whole
    whole-on go =
        rw i.high (of_number_lem a (in_run (whole_of q.high) x a e) (taken_whole (wanting b p n) a e) λ m v.
        rw (i.low, i.kind) (by-test (Gives x d' f d G) (ltb m q.low) (λ t. tt) λ t.
        by-test (Gives x d' f d G) (eqb q.kind 7 && ltb 256 m) (λ u. tt) λ u.
        by-test (Gives x d' f d G) (eqb q.kind 8 && not (four m)) (λ w. tt) λ w.
        go m v (ltb-false m q.low t) u w))

    pub whole-gives : (t : ℕ) → (q.kind ≡ 3) ⊎ (q.kind ≡ 7) ⊎ (q.kind ≡ 8)
        → (eqb t a_number ≡ true → Gives x d' f d G (of_whole x (wanting b p n) a e)) → Gives x d' f d G (on_piece x (view d) (wanting b p n) t a e)
    unfolding on_piece taken taken_number
    whole-gives t (inl z) go = rw (i.some, i.kind ∙ z) (by-test (Gives x d' f d G) (eqb t a_number) go (λ u. tt))
    whole-gives t (inr (inl z)) go = rw (i.some, i.kind ∙ z) (by-test (Gives x d' f d G) (eqb t a_number) go (λ u. tt))
    whole-gives t (inr (inr z)) go = rw (i.some, i.kind ∙ z) (by-test (Gives x d' f d G) (eqb t a_number) go (λ u. tt))

    -- ---- decimals

    pub decimal-on : eqb q.kind 12 ≡ false
        → ((m : Scaled) → in_run decimal_of x a e ≡ number.given m → (eqb q.kind 9 && not (eqb m.whole 0)) ≡ false
        → (eqb q.kind 10 && not (at_most (decimal_in (view d) j (q.slot - 3)) m)) ≡ false → Goes (keeping (wanting b p n) 3 (sign_of m) m.whole m.tens))
        → Gives x d' f d G (of_decimal x (view d) (wanting b p n) a e)
    unfolding taken_decimal
    decimal-on z go =
        of_number_lem a (in_run decimal_of x a e) (taken_decimal (view d) (wanting b p n) a e) λ m v.
        rw (i.kind, z, i.sec, i.slot) (by-test (Gives x d' f d G) (eqb q.kind 9 && not (eqb m.whole 0)) (λ u. tt) λ u.
        by-test (Gives x d' f d G) (eqb q.kind 10 && not (at_most (decimal_in (view d) j (q.slot - 3)) m)) (λ w. tt) λ w.
        go m v u w)

    pub decimal-gives : (t : ℕ) → (q.kind ≡ 4) ⊎ (q.kind ≡ 9) ⊎ (q.kind ≡ 10) ⊎ (q.kind ≡ 12)
        → (eqb t a_number ≡ true → Gives x d' f d G (of_decimal x (view d) (wanting b p n) a e)) → Gives x d' f d G (on_piece x (view d) (wanting b p n) t a e)
    unfolding on_piece taken taken_number
    decimal-gives t (inl z) go = rw (i.some, i.kind ∙ z) (by-test (Gives x d' f d G) (eqb t a_number) go (λ u. tt))
    decimal-gives t (inr (inl z)) go = rw (i.some, i.kind ∙ z) (by-test (Gives x d' f d G) (eqb t a_number) go (λ u. tt))
    decimal-gives t (inr (inr (inl z))) go = rw (i.some, i.kind ∙ z) (by-test (Gives x d' f d G) (eqb t a_number) go (λ u. tt))
    decimal-gives t (inr (inr (inr z))) go = rw (i.some, i.kind ∙ z) (by-test (Gives x d' f d G) (eqb t a_number) go (λ u. tt))

    -- the number of a pair
    pub entry-on : q.kind ≡ 12
        → ((m : Scaled) → in_run decimal_of x a e ≡ number.given m → m.tens ≡ 0 → twice (view d) (sign_of m) m.whole ≡ false → count d entry < most_of sections entry
        → Goes (new_record entry 2 (sign_of m) m.whole 0 0)) → Gives x d' f d G (of_decimal x (view d) (wanting b p n) a e)
    unfolding taken_decimal taken_entry
    entry-on z go =
        of_number_lem a (in_run decimal_of x a e) (taken_decimal (view d) (wanting b p n) a e) λ m v.
        rw (i.kind ∙ z) (by-test (Gives x d' f d G) (not (eqb m.tens 0)) (λ t. tt) λ t.
        by-test (Gives x d' f d G) (twice (view d) (sign_of m) m.whole) (λ u. tt) λ u.
        by-test (Gives x d' f d G) (leb (most_of sections entry) (count d entry)) (λ w. tt) λ w.
        go m v (eqb-true m.tens 0 (not-false (eqb m.tens 0) t)) u (leb-false (most_of sections entry) (count d entry) w))

    -- how many pairs
    pub pairs-gives : (t : ℕ) → q.kind ≡ 11 → (eqb t a_number ≡ true → (m : ℕ) → in_run (whole_of q.high) x a e ≡ number.given m → Gives x d' f d G (taken_pairs (wanting b p n) e m))
        → Gives x d' f d G (on_piece x (view d) (wanting b p n) t a e)
    unfolding on_piece taken taken_number
    pairs-gives t z go =
        rw (i.some, i.kind ∙ z, i.high) (by-test (Gives x d' f d G) (eqb t a_number)
        (λ u. of_number_lem a (in_run (whole_of q.high) x a e) (taken_pairs (wanting b p n) e) (go u)) (λ u. tt))

    -- the text of a pair
    pub text-gives : (t : ℕ) → q.kind ≡ 13 → (eqb t a_string ≡ true → Gives x d' f d G (went e (after_text (wanting b p n)) (writes entry 2 2 a e 0)))
        → Gives x d' f d G (on_piece x (view d) (wanting b p n) t a e)
    unfolding on_piece taken taken_text
    text-gives t z go = rw (i.some, i.kind ∙ z) (by-test (Gives x d' f d G) (eqb t a_string) go (λ u. wrong-gives x d' f d G 5 t a e))
