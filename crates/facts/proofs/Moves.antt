-- What a token leads to, in six cases: what holds in each of them holds of every move.
use Prim.Native.Nat.{ℕ, ◌-◌, ◌≤◌, ◌<◌, min}
use mathlib.Core.Path.{◌≡◌, refl, sym}
use mathlib.Core.List.{List}
use mathlib.Core.Bool.{Bool, true, false, cond, not, ◌&&◌, ◌||◌, false≢true}
use mathlib.Core.Logic.{◌⊎◌, inl, inr, ⊎_elim}
use native.Mathlib.Omega.{arith}
use borrow.Author.Tests.{eqb-true, eq-eqb}
use lib.Dec.{ltb, leb, eqb}
use lib.ListN.{length, take, drop}
use Rattle.text.specs.Answer.{given, Piece, piece, finish, kind_number}
use Rattle.text.specs.Answer as text
use Rattle.text.specs.Skip.{skip_block}
use Rattle.text.specs.Token.{next_token}
use Rattle.text.proofs.Within.{by-test, or_case}
use Rattle.text.proofs.Pieces.{Pieces, token-within}
use Rattle.text.proofs.SkipWithin.{Reaches, skip-block-within}
use Rattle.number.specs.Answer as number
use Rattle.number.specs.Answer.{in_run}
use Rattle.number.specs.Whole.{whole_of}
use Rattle.number.specs.Form.{has_form}
use Rattle.records.specs.Records.{most_of}
use Rattle.number.specs.Decimal.{Scaled, Form, decimal_of}
use Rattle.number.proofs.Laws.{decimal-form, run-refused, decimal-refused, whole-refused}
use Rattle.convert.specs.Limit.{at_most}
use Rattle.words.specs.Kind as word
use Rattle.words.specs.Class.{class_at}
use Rattle.rows.specs.Codes.{FILE, PROJECT}
use Rattle.rows.specs.Sections.{sections, entry}
use Rattle.rows.specs.Rows.{needed}
use Rattle.rows.specs.Numbered.{row_at, first_param}
use Rattle.rows.specs.Row.{outside}
use Rattle.grammar.specs.Move.{View, state, items, begun, ended, finished, idle, writes, Move, went, over, refused}
use Rattle.grammar.specs.Parameter.{a_name, a_string, a_number, a_begin, an_end, wrong, kind_of, slot_of, next_of, sec_of, low_of, high_of, after, keeping, sign_of, taken_whole, taken_pairs, decimal_in, twice, new_record, taken_entry, taken_decimal, of_number, taken_number, find, taken_new, of_choice, taken_name, after_text, taken_text, wants_text, wants_name, taken}
use Rattle.grammar.specs.Keyword.{row_of, is_row, may_stand, is_often, counting, stands, plain_row, home_of, bare_word, levels_in, of_skip, skips, opens, begun_word, all_met, ends, holder_of, closes, ended_word, item, after_begin, after_end}
use Rattle.grammar.specs.Read.{on_piece, on_token, move}
use Rattle.grammar.specs.declared.state.State.{State}
use Rattle.grammar.specs.declared.state.Act.{Act}
use Rattle.facts.proofs.Numbers.{Number, Numbered, token-numbered, skip-numbered}

-- what is asked of a move that goes on, of a refusal, and of the text's end
abbrev pub Leads : Type 0 → (ℕ → State → Act → Type 0) → (ℕ → ℕ → Type 0) → Move → Type 0
Leads E R F (went e s a) = R e s a
Leads E R F over = E
Leads E R F (refused n p) = F n p

-- the same with nothing asked of a refusal
abbrev pub Goes : Type 0 → (ℕ → State → Act → Type 0) → Move → Type 0
Goes E R = Leads E R (λ n p. Unit {0})

leads-to : (E : Type 0) {R S : ℕ → State → Act → Type 0} {F H : ℕ → ℕ → Type 0} → ((e : ℕ) (t : State) (a : Act) → R e t a → S e t a) → ((n p : ℕ) → F n p → H n p)
    → (m : Move) → Leads E R F m → Leads E S H m
leads-to E f g (went e t a) q = f e t a q
leads-to E f g over q = q
leads-to E f g (refused n p) q = g n p q

-- a parameter comes only where a keyword could
abbrev pub Calm : State → Type 0
Calm s = (s.mode ≡ items → ⊥) → s.param ≡ 0

-- how many slots a parameter of a kind takes, by the kinds of Row.antt; 0: it makes a record, or goes to one of its own
unfoldable pub wide_of : ℕ → ℕ
wide_of k =
    cond (eqb k 1 || eqb k 2) 2
    (cond (eqb k 3 || eqb k 5 || eqb k 7 || eqb k 8 || eqb k 11) 1
    (cond (eqb k 6 || eqb k 12 || eqb k 13) 0 3))

-- the decimal that three numbers are read as
abbrev pub three_of : ℕ → ℕ → ℕ → Scaled
three_of a b c = record { negative = eqb a 1; whole = b; tens = min c 7 }

-- what is true of the numbers that the parameter of a state keeps, in a text of n bytes
pub record Fits (n : ℕ) (v : View) (s : State) (a b c : ℕ) : Type 0 where
  pub some : wide_of (kind_of s) ≡ 0 → ⊥
  pub words : wide_of (kind_of s) ≡ 2 → (a < b) × (b ≤ n)
  pub upper : kind_of s ≡ 10 → at_most (decimal_in v (sec_of s) (slot_of s - 3)) (three_of a b c) ≡ true

-- the cases: nothing is written; a keyword of row i; a new record's name; a parameter that is kept; a pair's number; a pair's text
pub record Cases (n : ℕ) (v : View) (s : State) (P : State → Act → Type 0) : Type 0 where
  pub passing : s.param ≡ 0 → (t : State) → t.param ≡ 0 → P t idle
  pub standing : s.param ≡ 0 → (t : State) (i : ℕ) → P t (counting v i)
  pub naming : kind_of s ≡ 6 → (t : State) (a e : ℕ) → a < e → e ≤ n → P t (new_record (sec_of s) 4 a e (v.counts (slot_of s)) s.block)
  pub keeps : (t : State) → ((kind_of s ≡ 11 → ⊥) → t.param ≡ next_of s) → (a b c : ℕ) → Fits n v s a b c → P t (keeping s (wide_of (kind_of s)) a b c)
  pub pairing : kind_of s ≡ 12 → (t : State) → t.param ≡ next_of s → (a b : ℕ) → P t (new_record entry 2 a b 0 0)
  pub telling : kind_of s ≡ 13 → (t : State) (a e : ℕ) → a < e → e ≤ n → P t (writes entry 2 2 a e 0)

-- where nothing is asked
pub no_cases : (n : ℕ) (v : View) (s : State) → Cases n v s (λ t a. Unit {0})
no_cases n v s = record {
  passing = λ z t q. tt;
  standing = λ z t i. tt;
  naming = λ k t a e l m. tt;
  keeps = λ t q a b c f. tt;
  pairing = λ k t q a b. tt;
  telling = λ k t a e l m. tt;
}

or-false : (a b : Bool) → (a || b) ≡ false → (a ≡ false) × (b ≡ false)
or-false true b e = absurd (false≢true (sym e))
or-false false b e = (refl, e)

wide-one : (k : ℕ) → (k ≡ 3) ⊎ (k ≡ 5) ⊎ (k ≡ 7) ⊎ (k ≡ 8) ⊎ (k ≡ 11) → wide_of k ≡ 1
unfolding wide_of
wide-one k (inl e) = rw e
wide-one k (inr (inl e)) = rw e
wide-one k (inr (inr (inl e))) = rw e
wide-one k (inr (inr (inr (inl e)))) = rw e
wide-one k (inr (inr (inr (inr e)))) = rw e

wide-two : (k : ℕ) → (k ≡ 1) ⊎ (k ≡ 2) → wide_of k ≡ 2
unfolding wide_of
wide-two k (inl e) = rw e
wide-two k (inr e) = rw e

-- any kind that is none of the others
wide-three : (k : ℕ) → (eqb k 2 || eqb k 13) ≡ false → (eqb k 1 || eqb k 5 || eqb k 6) ≡ false → eqb k 11 ≡ false → (eqb k 3 || eqb k 7 || eqb k 8) ≡ false
    → eqb k 12 ≡ false → wide_of k ≡ 3
unfolding wide_of
wide-three k k₁ k₂ k₃ k₄ t =
    let a₁ = or-false (eqb k 2) (eqb k 13) k₁ in
    let a₂ = or-false (eqb k 1 || eqb k 5) (eqb k 6) k₂ in
    let a₃ = or-false (eqb k 1) (eqb k 5) a₂.0 in
    let a₄ = or-false (eqb k 3 || eqb k 7) (eqb k 8) k₄ in
    let a₅ = or-false (eqb k 3) (eqb k 7) a₄.0 in
    rw (a₁.0, a₁.1, a₂.1, a₃.0, a₃.1, a₄.1, a₅.0, a₅.1, k₃, t)

-- a sign comes back from its slot, and so does a small power of ten
sign-back : (b : Bool) → eqb (cond b 1 0) 1 ≡ b
sign-back true = refl
sign-back false = refl

three_back : (d : Scaled) → Form d → three_of (sign_of d) d.whole d.tens ≡ d
three_back d f = let e : min d.tens 7 ≡ d.tens = omega (arith, f.tens_most) in rw (sign-back d.negative, e)

run-form : (x : List ℕ) (a e : ℕ) (d : Scaled) → in_run decimal_of x a e ≡ number.given d → Form d
unfolding in_run
run-form x a e d = by-run (leb a e && leb e (length x)) where
  by-run : (t : Bool) → cond t (decimal_of (take (e - a) (drop a x))) (number.refused 2) ≡ number.given d → Form d
  by-run true q = decimal-form (take (e - a) (drop a x)) d (sym q)
  by-run false q = let z : ◌≡◌ {A = ℕ} 0 1 = cc in absurd (omega arith)

-- z is any place: a move that ends there or before it is one of the cases of a text of z bytes
module _ (x : List ℕ) (v : View) (s : State) (P : State → Act → Type 0) (z : ℕ) (c : Cases z v s P) where
  module _ (a e : ℕ) (h : a < e) (l : e ≤ length x) where
    -- the piece from a up to e is passed, or refused at its first byte; a block that is skipped is passed further, or refused past the piece
    abbrev R : ℕ → State → Act → Type 0
    R i t w = (e ≤ i) × (i ≤ length x) × Calm t × (i ≤ z → P t w)

    abbrev F : ℕ → ℕ → Type 0
    F m p = (Number m × (p ≤ length x)) × ((p ≡ a) ⊎ (e ≤ p))

    abbrev G : Move → Type 0
    G = Leads (s.param ≡ 0) R F

    here : (m : ℕ) → Number m → F m a
    here m n = ((n, omega arith), inl refl)

    wrong-goes : (m k : ℕ) → Number m → G (wrong m x k a e)
    unfolding wrong
    wrong-goes m k n = by-test G (eqb k a_number && not (has_form x a e)) (λ t. here 2 (omega arith)) (λ t. here m n)

    -- ---- keywords
    module _ (o : s.param ≡ 0) where
      rest : (m b : ℕ) → R e (state m b 0 0) idle
      rest m b = (omega arith, l, (λ q. refl), λ r. c.passing o (state m b 0 0) refl)

      stands-goes : (i inner : ℕ) → G (stands v i inner a e)
      unfolding stands
      stands-goes i inner =
          by-test G (not (may_stand v i)) (λ t. (omega arith, inl refl)) λ t.
          by-test G (is_often v i) (λ u. (omega arith, inl refl)) λ u. (omega arith, l, (λ q. absurd (q refl)), λ r. c.standing o (state items inner (first_param i) 0) i)

      plain-goes : (i : ℕ) → G (plain_row v s i a e)
      unfolding plain_row
      plain-goes i =
          by-test G (not (is_row i)) (λ t. (omega arith, inl refl)) λ t.
          by-test G (eqb (row_at i).opens outside) (λ u. (omega arith, inl refl)) λ u. stands-goes i s.block

      bare-goes : (w : word.Kind) → G (bare_word v s a e w)
      bare-goes (word.taken_plain k) = plain-goes (row_of s.block k)
      bare-goes (word.skipped_plain k) = plain-goes (row_of (home_of s.block) k)
      bare-goes (word.taken_block k) = (omega arith, inl refl)
      bare-goes (word.taken_choice k) = (omega arith, inl refl)
      bare-goes (word.skipped_block k) = (omega arith, inl refl)
      bare-goes word.listed_only = (omega arith, inl refl)
      bare-goes word.unlisted = (omega arith, inl refl)

      of-skip : (r : text.Answer ℕ) → Reaches (length x) e r → Numbered r → G (of_skip s r)
      of-skip (given k) q n = (q.0, q.1, (λ t. refl), λ r. c.passing o (state items s.block 0 0) refl)
      of-skip (text.refused m p) q n = ((n, q.1), inr q.0)

      skips-goes : G (skips x s a e)
      unfolding skips
      skips-goes = by-test G (eqb s.block FILE) (λ t. (omega arith, inl refl)) λ t. of-skip (skip_block (levels_in s.block) x a e) (skip-block-within (levels_in s.block) x a e l) (skip-numbered x (levels_in s.block) a e)

      opens-goes : (k : ℕ) → G (opens v s k a e)
      unfolding opens
      opens-goes k = by-test G (not (is_row (row_of s.block k))) (λ t. (omega arith, inl refl)) λ t. stands-goes (row_of s.block k) k

      begun-goes : (w : word.Kind) → G (begun_word x v s a e w)
      begun-goes (word.taken_block k) = opens-goes k
      begun-goes (word.skipped_block k) = skips-goes
      begun-goes (word.taken_plain k) = (omega arith, inl refl)
      begun-goes (word.taken_choice k) = (omega arith, inl refl)
      begun-goes (word.skipped_plain k) = (omega arith, inl refl)
      begun-goes word.listed_only = (omega arith, inl refl)
      begun-goes word.unlisted = (omega arith, inl refl)

      ends-goes : G (ends v s a e)
      unfolding ends
      ends-goes =
          by-test G (eqb s.block FILE) (λ t. (omega arith, inl refl)) λ t.
          by-test G (all_met (length needed) v s.block 0) (λ u. rest ended s.block) (λ u. (omega arith, inl refl))

      closes-goes : G (closes s a e)
      closes-goes = by-test G (eqb s.block PROJECT) (λ t. rest finished FILE) (λ t. rest items (holder_of s.block))

      ended-goes : (w : word.Kind) → G (ended_word s a e w)
      ended-goes (word.taken_block k) = by-test G (eqb k s.block) (λ t. closes-goes) (λ t. (omega arith, inl refl))
      ended-goes (word.taken_plain k) = (omega arith, inl refl)
      ended-goes (word.taken_choice k) = (omega arith, inl refl)
      ended-goes (word.skipped_block k) = (omega arith, inl refl)
      ended-goes (word.skipped_plain k) = (omega arith, inl refl)
      ended-goes word.listed_only = (omega arith, inl refl)
      ended-goes word.unlisted = (omega arith, inl refl)

      item-goes : (k : ℕ) → G (item x v s k a e)
      unfolding item
      item-goes k =
          by-test G (eqb k a_name) (λ t. bare-goes (class_at x a e)) λ t.
          by-test G (eqb k a_begin) (λ u. rest begun s.block) λ u.
          by-test G (eqb k an_end) (λ w. ends-goes) (λ w. wrong-goes 5 k (omega arith))

      begin-goes : (k : ℕ) → G (after_begin x v s k a e)
      unfolding after_begin
      begin-goes k = by-test G (eqb k a_name) (λ t. begun-goes (class_at x a e)) (λ t. wrong-goes 5 k (omega arith))

      end_goes : (k : ℕ) → G (after_end x s k a e)
      unfolding after_end
      end_goes k = by-test G (eqb k a_name) (λ t. ended-goes (class_at x a e)) (λ t. wrong-goes 3 k (omega arith))

    -- ---- parameters

    busy : (b p n : ℕ) → Calm (state items b p n)
    busy b p n q = absurd (q refl)

    -- one slot, two slots
    one : (t : State) → Calm t → ((kind_of s ≡ 11 → ⊥) → t.param ≡ next_of s) → (kind_of s ≡ 3) ⊎ (kind_of s ≡ 5) ⊎ (kind_of s ≡ 7) ⊎ (kind_of s ≡ 8) ⊎ (kind_of s ≡ 11)
        → (n : ℕ) → R e t (keeping s 1 n 0 0)
    one t m q k n =
        let w : wide_of (kind_of s) ≡ 1 = wide-one (kind_of s) k in
        let f : Fits z v s n 0 0 = record { some = λ u. omega arith; words = λ u. absurd (omega arith); upper = λ u. absurd (not-ten k u) } in
        (omega arith, l, m, λ r. rw w at (c.keeps t q n 0 0 f)) where
          not-ten : (kind_of s ≡ 3) ⊎ (kind_of s ≡ 5) ⊎ (kind_of s ≡ 7) ⊎ (kind_of s ≡ 8) ⊎ (kind_of s ≡ 11) → kind_of s ≡ 10 → ⊥
          not-ten (inl p) u = omega arith
          not-ten (inr (inl p)) u = omega arith
          not-ten (inr (inr (inl p))) u = omega arith
          not-ten (inr (inr (inr (inl p)))) u = omega arith
          not-ten (inr (inr (inr (inr p)))) u = omega arith

    two : (kind_of s ≡ 1) ⊎ (kind_of s ≡ 2) → R e (after s) (keeping s 2 a e 0)
    two k =
        let w : wide_of (kind_of s) ≡ 2 = wide-two (kind_of s) k in
        let f : e ≤ z → Fits z v s a e 0 = (λ b. record { some = λ u. omega arith; words = λ u. (omega arith, b); upper = λ u. absurd (not-ten k u) }) in
        (omega arith, l, busy s.block (next_of s) s.left, λ b. rw w at (c.keeps (after s) (λ q. refl) a e 0 (f b))) where
          not-ten : (kind_of s ≡ 1) ⊎ (kind_of s ≡ 2) → kind_of s ≡ 10 → ⊥
          not-ten (inl p) u = omega arith
          not-ten (inr p) u = omega arith

    whole-goes : (kind_of s ≡ 3) ⊎ (kind_of s ≡ 7) ⊎ (kind_of s ≡ 8) → (n : ℕ) → G (taken_whole s a e n)
    unfolding taken_whole
    whole-goes k n =
        by-test G (ltb n (low_of s)) (λ t. (omega arith, inl refl)) λ t.
        by-test G (eqb (kind_of s) 7 && ltb 256 n) (λ u. (omega arith, inl refl)) λ u.
        by-test G (eqb (kind_of s) 8 && not (eqb n 1 || eqb n 2 || eqb n 4 || eqb n 8)) (λ w. (omega arith, inl refl)) λ w.
        one (after s) (busy s.block (next_of s) s.left) (λ q. refl) (among k) n where
          among : (kind_of s ≡ 3) ⊎ (kind_of s ≡ 7) ⊎ (kind_of s ≡ 8) → (kind_of s ≡ 3) ⊎ (kind_of s ≡ 5) ⊎ (kind_of s ≡ 7) ⊎ (kind_of s ≡ 8) ⊎ (kind_of s ≡ 11)
          among (inl p) = inl p
          among (inr (inl p)) = inr (inr (inl p))
          among (inr (inr p)) = inr (inr (inr (inl p)))

    pairs-goes : kind_of s ≡ 11 → (n : ℕ) → G (taken_pairs s e n)
    unfolding taken_pairs
    pairs-goes k n =
        by-test G (eqb n 0)
        (λ t. one (state items s.block 0 0) (busy s.block 0 0) (λ q. absurd (q k)) (inr (inr (inr (inr k)))) n)
        (λ t. one (state items s.block (next_of s) (min n 65535)) (busy s.block (next_of s) (min n 65535)) (λ q. refl) (inr (inr (inr (inr k)))) n)

    entry-goes : kind_of s ≡ 12 → (d : Scaled) → G (taken_entry v s a e d)
    unfolding taken_entry
    entry-goes k d =
        by-test G (not (eqb d.tens 0)) (λ t. (omega arith, inl refl)) λ t.
        by-test G (twice v (sign_of d) d.whole) (λ u. (omega arith, inl refl)) λ u.
        by-test G (leb (most_of sections entry) (v.counts entry)) (λ w. (omega arith, inl refl)) λ w.
        (omega arith, l, busy s.block (next_of s) s.left, λ r. c.pairing k (after s) refl (sign_of d) d.whole)

    -- three slots
    decimal-goes : wants_text s ≡ false → wants_name s ≡ false → eqb (kind_of s) 11 ≡ false → (eqb (kind_of s) 3 || eqb (kind_of s) 7 || eqb (kind_of s) 8) ≡ false
        → (d : Scaled) → Form d → G (taken_decimal v s a e d)
    unfolding taken_decimal
    decimal-goes k₁ k₂ k₃ k₄ d f =
        by-test G (eqb (kind_of s) 12) (λ t. entry-goes (eqb-true (kind_of s) 12 t) d) λ t.
        by-test G (eqb (kind_of s) 9 && not (eqb d.whole 0)) (λ u. (omega arith, inl refl)) λ u.
        by-test G (eqb (kind_of s) 10 && not (at_most (decimal_in v (sec_of s) (slot_of s - 3)) d)) (λ w. (omega arith, inl refl)) λ w.
        (omega arith, l, busy s.block (next_of s) s.left, λ r. rw (wide-three (kind_of s) k₁ k₂ k₃ k₄ t) at (c.keeps (after s) (λ q. refl) (sign_of d) d.whole d.tens (fits t w))) where
          under : (b : Bool) → (true && not b) ≡ false → b ≡ true
          under true q = refl
          under false q = sym q

          fits : eqb (kind_of s) 12 ≡ false → (eqb (kind_of s) 10 && not (at_most (decimal_in v (sec_of s) (slot_of s - 3)) d)) ≡ false → Fits z v s (sign_of d) d.whole d.tens
          fits t w = record {
            some = λ u. omega (arith, wide-three (kind_of s) k₁ k₂ k₃ k₄ t);
            words = λ u. absurd (omega (arith, wide-three (kind_of s) k₁ k₂ k₃ k₄ t));
            upper = λ u. rw (three_back d f) (under (at_most (decimal_in v (sec_of s) (slot_of s - 3)) d) (rw (eq-eqb (kind_of s) 10 u) at w));
          }

    of_number_lem : {A : Type 0} (r : number.Answer A) (g : A → Move) → ((k : ℕ) → number.refused k ≡ r → k ≡ 2) → ((n : A) → r ≡ number.given n → G (g n)) → G (of_number a r g)
    of_number_lem (number.given n) g t q = q n refl
    of_number_lem (number.refused k) g t q = let o = t k refl in here k (omega arith)

    number-goes : wants_text s ≡ false → wants_name s ≡ false → G (taken_number x v s a e)
    unfolding taken_number
    number-goes k₁ k₂ =
        by-test G (eqb (kind_of s) 11)
        (λ t. of_number_lem (in_run (whole_of (high_of s)) x a e) (taken_pairs s e) (λ k. run-refused k (whole_of (high_of s)) (whole-refused k (high_of s)) x a e) (λ n q. pairs-goes (eqb-true (kind_of s) 11 t) n)) λ t.
        by-test G (eqb (kind_of s) 3 || eqb (kind_of s) 7 || eqb (kind_of s) 8)
        (λ u. of_number_lem (in_run (whole_of (high_of s)) x a e) (taken_whole s a e) (λ k. run-refused k (whole_of (high_of s)) (whole-refused k (high_of s)) x a e) (λ n q. whole-goes (which u) n))
        (λ u. of_number_lem (in_run decimal_of x a e) (taken_decimal v s a e) (λ k. run-refused k decimal_of (decimal-refused k) x a e) (λ d q. decimal-goes k₁ k₂ t u d (run-form x a e d q))) where
          inner : (eqb (kind_of s) 3 ≡ true) ⊎ (eqb (kind_of s) 7 ≡ true) → (kind_of s ≡ 3) ⊎ (kind_of s ≡ 7) ⊎ (kind_of s ≡ 8)
          inner (inl p) = inl (eqb-true (kind_of s) 3 p)
          inner (inr p) = inr (inl (eqb-true (kind_of s) 7 p))

          outer : ((eqb (kind_of s) 3 || eqb (kind_of s) 7) ≡ true) ⊎ (eqb (kind_of s) 8 ≡ true) → (kind_of s ≡ 3) ⊎ (kind_of s ≡ 7) ⊎ (kind_of s ≡ 8)
          outer (inl p) = inner (or_case (eqb (kind_of s) 3) (eqb (kind_of s) 7) p)
          outer (inr p) = inr (inr (eqb-true (kind_of s) 8 p))

          which : (eqb (kind_of s) 3 || eqb (kind_of s) 7 || eqb (kind_of s) 8) ≡ true → (kind_of s ≡ 3) ⊎ (kind_of s ≡ 7) ⊎ (kind_of s ≡ 8)
          which u = outer (or_case (eqb (kind_of s) 3 || eqb (kind_of s) 7) (eqb (kind_of s) 8) u)

    new-goes : kind_of s ≡ 6 → G (taken_new x v s a e)
    unfolding taken_new
    new-goes k =
        by-test G (not (eqb (find x v (sec_of s) a e) 0)) (λ t. (omega arith, inl refl)) λ t.
        by-test G (leb (most_of sections (sec_of s)) (v.counts (sec_of s))) (λ u. (omega arith, inl refl)) λ u.
        (omega arith, l, busy s.block (next_of s) s.left, λ b. c.naming k (after s) a e (omega arith) b)

    choice-goes : kind_of s ≡ 5 → (w : word.Kind) → G (of_choice s a e w)
    choice-goes k (word.taken_choice n) =
        by-test G (leb (low_of s) n && leb n (high_of s)) (λ t. one (after s) (busy s.block (next_of s) s.left) (λ q. refl) (inr (inl k)) n) (λ t. (omega arith, inl refl))
    choice-goes k (word.taken_block n) = (omega arith, inl refl)
    choice-goes k (word.taken_plain n) = (omega arith, inl refl)
    choice-goes k (word.skipped_block n) = (omega arith, inl refl)
    choice-goes k (word.skipped_plain n) = (omega arith, inl refl)
    choice-goes k word.listed_only = (omega arith, inl refl)
    choice-goes k word.unlisted = (omega arith, inl refl)

    name-goes : wants_name s ≡ true → G (taken_name x v s a e)
    unfolding taken_name
    name-goes k =
        by-test G (eqb (kind_of s) 6) (λ t. new-goes (eqb-true (kind_of s) 6 t)) λ t.
        by-test G (eqb (kind_of s) 5) (λ u. choice-goes (eqb-true (kind_of s) 5 u) (class_at x a e)) λ u.
        two (inl (eqb-true (kind_of s) 1 (first (eqb (kind_of s) 1) (eqb (kind_of s) 5) (eqb (kind_of s) 6) k u t))) where
          first : (p q r : Bool) → (p || q || r) ≡ true → q ≡ false → r ≡ false → p ≡ true
          first true q r h f g = refl
          first false q r h f g = rw (f, g) at h

    text-goes : wants_text s ≡ true → G (taken_text s a e)
    unfolding taken_text
    text-goes k =
        by-test G (eqb (kind_of s) 13) (λ t. (omega arith, l, calm (ltb 1 s.left), λ b. c.telling (eqb-true (kind_of s) 13 t) (after_text s) a e (omega arith) b)) λ t.
        two (inr (eqb-true (kind_of s) 2 (first (eqb (kind_of s) 2) (eqb (kind_of s) 13) k t))) where
          first : (p q : Bool) → (p || q) ≡ true → q ≡ false → p ≡ true
          first true q h f = refl
          first false q h f = rw f at h

          calm : (b : Bool) → Calm (cond b (state items s.block (s.param - 1) (s.left - 1)) (state items s.block 0 0))
          calm true q = absurd (q refl)
          calm false q = refl

    taken-goes : (k : ℕ) → G (taken x v s k a e)
    unfolding taken
    taken-goes k =
        by-test G (wants_text s) (λ t. by-test G (eqb k a_string) (λ u. text-goes t) (λ u. wrong-goes 5 k (omega arith))) λ t.
        by-test G (wants_name s) (λ w. by-test G (eqb k a_name) (λ u. name-goes w) (λ u. wrong-goes 5 k (omega arith))) λ w.
        by-test G (eqb k a_number) (λ u. number-goes t w) (λ u. (omega arith, inl refl))

    -- ---- any piece

    pub piece-leads : Calm s → (k : ℕ) → Leads (s.param ≡ 0) (λ i t w. (e ≤ i) × (i ≤ length x) × Calm t × (i ≤ z → P t w)) (λ m p. (Number m × (p ≤ length x)) × ((p ≡ a) ⊎ (e ≤ p))) (on_piece x v s k a e)
    unfolding on_piece
    piece-leads m k =
        by-test G (eqb s.mode finished) (λ t. wrong-goes 3 k (omega arith)) λ t.
        by-test G (eqb s.mode begun) (λ u. begin-goes (m (λ q. let r = eqb-true s.mode begun u in omega arith)) k) λ u.
        by-test G (eqb s.mode ended) (λ w. end_goes (m (λ q. let r = eqb-true s.mode ended w in omega arith)) k) λ w.
        by-test G (eqb s.param 0) (λ p. item-goes (eqb-true s.param 0 p) k) (λ p. taken-goes k)

  module _ (k : ℕ) (h : k ≤ length x) where
    abbrev T : Move → Type 0
    T = Leads (s.param ≡ 0) (λ e t a. (k < e) × (e ≤ length x) × Calm t × (e ≤ z → P t a)) (λ n p. (Number n × (p ≤ length x)) × (k ≤ p))

    of-piece : (a e : ℕ) → k ≤ a → a < e → (m : Move) → Leads (s.param ≡ 0) (λ i t w. (e ≤ i) × (i ≤ length x) × Calm t × (i ≤ z → P t w)) (λ n p. (Number n × (p ≤ length x)) × ((p ≡ a) ⊎ (e ≤ p))) m → T m
    of-piece a e l q = leads-to (s.param ≡ 0) (λ i t w r. (omega (arith, r.0), r.1, r.2, r.3)) (λ n p r. (r.0, ⊎_elim (λ u. omega arith) (λ u. omega arith) r.1))

    token-leads : Calm s → (r : text.Answer Piece) → Pieces (length x) k r → Numbered r → T (on_token x v s r)
    token-leads m (given (piece kind a e)) q n = of-piece a e q.0 q.1 (on_piece x v s (kind_number kind) a e) (piece-leads a e q.1 q.2 m (kind_number kind))
    token-leads m (given (finish p)) q n = by-test T (eqb s.mode finished) (λ t. m (λ u. let w = eqb-true s.mode finished t in omega arith)) (λ t. omega arith)
    token-leads m (text.refused i p) q n = ((n, q.1), q.0)

    -- every move goes ahead inside the text or is refused, with a number of the text, at a place ahead and inside it or at its end, is one of the cases, and at the text's end no parameter is to come
    pub move-leads : Calm s → Leads (s.param ≡ 0) (λ e t a. (k < e) × (e ≤ length x) × Calm t × (e ≤ z → P t a)) (λ n p. (Number n × (p ≤ length x)) × (k ≤ p)) (move x v s k)
    unfolding move
    move-leads m = token-leads m (next_token x k) (token-within x k h) (token-numbered x k)

-- the cases of the whole text
module _ (x : List ℕ) (v : View) (s : State) (P : State → Act → Type 0) (c : Cases (length x) v s P) where
  pub move-goes : Calm s → (k : ℕ) → k ≤ length x → Goes (s.param ≡ 0) (λ e t a. (e ≤ length x) × Calm t × P t a) (move x v s k)
  move-goes m k h = leads-to (s.param ≡ 0) (λ e t a q. (q.1, q.2, q.3 q.1)) (λ n p q. tt) (move x v s k) (move-leads x v s P (length x) c k h m)
