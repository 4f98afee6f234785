-- Parameters that stand as the tree says lead the reading past them.
use Prim.Native.Nat.{ℕ, zero, suc, ◌-◌, ◌≤◌, ◌<◌, min}
use mathlib.Core.Path.{◌≡◌, refl, sym, ◌∙◌, ap}
use mathlib.Core.List.{List, [], ◌∷◌}
use mathlib.Core.Bool.{true, false, ◌||◌}
use mathlib.Core.Logic.{inl, inr}
use native.Mathlib.Omega.{arith}
use borrow.Author.Tests.{eq-eqb, ne_eqb, le-ltb, lt-ltb, le-leb, lt-leb}
use lib.Dec.{eqb}
use lib.ListN.{take, drop}
use Rattle.text.specs.Answer as piece
use Rattle.text.specs.Answer.{given}
use Rattle.number.specs.Answer as number
use Rattle.number.specs.Answer.{in_run}
use Rattle.number.specs.Whole.{whole_of}
use Rattle.number.specs.Decimal.{Scaled, decimal_of}
use Rattle.number.proofs.Laws.{whole_most, run-given}
use Rattle.convert.specs.Limit.{at_most}
use Rattle.words.specs.Kind as word
use Rattle.words.specs.Class.{class_at}
use Rattle.records.specs.Records.{most_of, count}
use Rattle.rows.specs.Sections.{sections, entry}
use Rattle.rows.specs.Row.{Param, name, string, whole, decimal, choice, new, points, alignment, nought, upper, pairs, number as number_entry, text as text_entry}
use Rattle.rows.specs.Numbered.{param_at}
use Rattle.grammar.specs.Move.{view, state, items, writes, applied, went}
use Rattle.grammar.specs.Parameter.{a_name, a_string, a_number, after, after_text, keeping, new_record, sign_of, decimal_in, twice, find, taken_whole, taken_pairs, taken_entry, taken_decimal, taken_number, taken_new, taken_name, taken_text, taken}
use Rattle.grammar.specs.Read.{on_piece}
use Rattle.grammar.specs.declared.state.State.{State}
use Rattle.tree.specs.Tree.{Records, Among, written, kept, appended, three, Parameter, takes_name, takes_string, takes_whole, takes_decimal, takes_choice, takes_new, takes_points, takes_alignment, takes_nought, takes_upper, Pairs, pair, Parameters, next, many}
use Rattle.tree.specs.Tree as tree
use Rattle.tree.proofs.Tables.{IsParam, Chain}
use Rattle.tree.proofs.Acts.{applied-keeping, applied-writes, applied-new, fresh-find, apart-once}
use Rattle.tree.proofs.Steps.{Leads, stays, ◌then◌, past}

-- the state in which parameter p is next, with n pairs left
abbrev pub wanting : ℕ → ℕ → ℕ → State
wanting b p n = state items b p n

module _ (x : List ℕ) (b j n : ℕ) (d : Records) (p : ℕ) (q : Param) (i : IsParam p j q) where
  on-taken : (t a e : ℕ) → on_piece x (view d) (wanting b p n) t a e ≡ taken x (view d) (wanting b p n) t a e
  unfolding on_piece
  on-taken t a e = rw i.some

  pub keeps-at : (m y z u : ℕ) → applied (keeping (wanting b p n) m y z u) d ≡ kept j q.slot (take m (y ∷ z ∷ u ∷ 0 ∷ [])) d
  keeps-at m y z u = rw (i.sec, i.slot) at (applied-keeping (wanting b p n) m y z u d)

  -- a name, a string
  module _ (a e : ℕ) where
    name-taken : q.kind ≡ 1 → taken x (view d) (wanting b p n) a_name a e ≡ went e (after (wanting b p n)) (keeping (wanting b p n) 2 a e 0)
    unfolding taken taken_name
    name-taken z = rw (i.kind ∙ z)

    string-taken : q.kind ≡ 2 → taken x (view d) (wanting b p n) a_string a e ≡ went e (after (wanting b p n)) (keeping (wanting b p n) 2 a e 0)
    unfolding taken taken_text
    string-taken z = rw (i.kind ∙ z)

    choice-taken : q.kind ≡ 5 → (c : ℕ) → class_at x a e ≡ word.taken_choice c → q.low ≤ c → c ≤ q.high
        → taken x (view d) (wanting b p n) a_name a e ≡ went e (after (wanting b p n)) (keeping (wanting b p n) 1 c 0 0)
    unfolding taken taken_name
    choice-taken z c w l h = rw (i.kind ∙ z, w, i.low, i.high, le-leb q.low c l, le-leb c q.high h)

    new-taken : q.kind ≡ 6 → find x (view d) j a e ≡ 0 → count d j < most_of sections j
        → taken x (view d) (wanting b p n) a_name a e ≡ went e (after (wanting b p n)) (new_record j 4 a e (count d q.slot) b)
    unfolding taken taken_name taken_new
    new-taken z f l = rw (i.kind ∙ z, i.sec, i.slot, f, lt-leb (most_of sections j) (count d j) l)

    -- whole numbers
    module _ (m : ℕ) (v : in_run (whole_of q.high) x a e ≡ number.given m) (l : q.low ≤ m) where
      whole-taken : q.kind ≡ 3 → taken x (view d) (wanting b p n) a_number a e ≡ went e (after (wanting b p n)) (keeping (wanting b p n) 1 m 0 0)
      unfolding taken taken_number taken_whole
      whole-taken z = rw (i.kind ∙ z, i.high, v, i.kind ∙ z, i.low, le-ltb m q.low l)

      points-taken : q.kind ≡ 7 → m ≤ 256 → taken x (view d) (wanting b p n) a_number a e ≡ went e (after (wanting b p n)) (keeping (wanting b p n) 1 m 0 0)
      unfolding taken taken_number taken_whole
      points-taken z h = rw (i.kind ∙ z, i.high, v, i.kind ∙ z, i.low, le-ltb m q.low l, le-ltb 256 m h)

      alignment-taken : q.kind ≡ 8 → (eqb m 1 || eqb m 2 || eqb m 4 || eqb m 8) ≡ true
          → taken x (view d) (wanting b p n) a_number a e ≡ went e (after (wanting b p n)) (keeping (wanting b p n) 1 m 0 0)
      unfolding taken taken_number taken_whole
      alignment-taken z h = rw (i.kind ∙ z, i.high, v, i.kind ∙ z, i.low, le-ltb m q.low l, h)

    -- decimals
    module _ (m : Scaled) (v : in_run decimal_of x a e ≡ number.given m) where
      decimal-taken : q.kind ≡ 4 → taken x (view d) (wanting b p n) a_number a e ≡ went e (after (wanting b p n)) (keeping (wanting b p n) 3 (sign_of m) m.whole m.tens)
      unfolding taken taken_number taken_decimal
      decimal-taken z = rw (i.kind ∙ z, v, i.kind ∙ z)

      nought-taken : q.kind ≡ 9 → m.whole ≡ 0 → taken x (view d) (wanting b p n) a_number a e ≡ went e (after (wanting b p n)) (keeping (wanting b p n) 3 (sign_of m) m.whole m.tens)
      unfolding taken taken_number taken_decimal
      nought-taken z w = rw (i.kind ∙ z, v, i.kind ∙ z, eq-eqb m.whole 0 w)

      upper-taken : q.kind ≡ 10 → at_most (decimal_in (view d) j (q.slot - 3)) m ≡ true
          → taken x (view d) (wanting b p n) a_number a e ≡ went e (after (wanting b p n)) (keeping (wanting b p n) 3 (sign_of m) m.whole m.tens)
      unfolding taken taken_number taken_decimal
      upper-taken z w = rw (i.kind ∙ z, v, i.kind ∙ z, i.sec, i.slot, w)

      -- the number of a pair
      entry-taken : q.kind ≡ 12 → m.tens ≡ 0 → twice (view d) (sign_of m) m.whole ≡ false → count d entry < most_of sections entry
          → taken x (view d) (wanting b p n) a_number a e ≡ went e (after (wanting b p n)) (new_record entry 2 (sign_of m) m.whole 0 0)
      unfolding taken taken_number taken_decimal taken_entry
      entry-taken z w t l = rw (i.kind ∙ z, v, i.kind ∙ z, eq-eqb m.tens 0 w, t, lt-leb (most_of sections entry) (count d entry) l)

    -- how many pairs
    pairs-taken : q.kind ≡ 11 → (m : ℕ) → in_run (whole_of q.high) x a e ≡ number.given m → taken x (view d) (wanting b p n) a_number a e ≡ taken_pairs (wanting b p n) e m
    unfolding taken taken_number
    pairs-taken z m v = rw (i.kind ∙ z, i.high, v)

    -- the text of a pair
    text-taken : q.kind ≡ 13 → taken x (view d) (wanting b p n) a_string a e ≡ went e (after_text (wanting b p n)) (writes entry 2 2 a e 0)
    unfolding taken taken_text
    text-taken z = rw (i.kind ∙ z)

among-four : (m : ℕ) → Among m (1 ∷ 2 ∷ 4 ∷ 8 ∷ []) → (eqb m 1 || eqb m 2 || eqb m 4 || eqb m 8) ≡ true
among-four m (inl e) = rw e
among-four m (inr (inl e)) = rw e
among-four m (inr (inr (inl e))) = rw e
among-four m (inr (inr (inr (inl e)))) = rw e
among-four m (inr (inr (inr (inr e)))) = absurd e

pub four-least : (m : ℕ) → Among m (1 ∷ 2 ∷ 4 ∷ 8 ∷ []) → 1 ≤ m
four-least m (inl e) = omega arith
four-least m (inr (inl e)) = omega arith
four-least m (inr (inr (inl e))) = omega arith
four-least m (inr (inr (inr (inl e)))) = omega arith
four-least m (inr (inr (inr (inr e)))) = absurd e

-- one parameter
one-leads : (x : List ℕ) (b j n p : ℕ) {q : Param} {k e : ℕ} {d d' : Records} → IsParam p j q → Parameter x b j q k d e d'
    → Leads x k (wanting b p n) d e (wanting b (param_at p).next n) d'
one-leads x b j n p i (takes_name {s} {k} {a} {e} {d} t) =
    past x k (wanting b p n) d piece.name a e t (after (wanting b p n)) (keeping (wanting b p n) 2 a e 0)
    (on-taken x b j n d p (name s) i a_name a e ∙ name-taken x b j n d p (name s) i a e refl) (kept j s (a ∷ e ∷ []) d) (keeps-at x b j n d p (name s) i 2 a e 0)
one-leads x b j n p i (takes_string {s} {k} {a} {e} {d} t) =
    past x k (wanting b p n) d piece.string a e t (after (wanting b p n)) (keeping (wanting b p n) 2 a e 0)
    (on-taken x b j n d p (string s) i a_string a e ∙ string-taken x b j n d p (string s) i a e refl) (kept j s (a ∷ e ∷ []) d) (keeps-at x b j n d p (string s) i 2 a e 0)
one-leads x b j n p i (takes_whole {s} {l} {h} {k} {n = m} {e} {d} t z) =
    past x k (wanting b p n) d piece.number t.0 e t.1 (after (wanting b p n)) (keeping (wanting b p n) 1 m 0 0)
    (on-taken x b j n d p (whole s l h) i a_number t.0 e ∙ whole-taken x b j n d p (whole s l h) i t.0 e m t.2 z refl)
    (kept j s (m ∷ []) d) (keeps-at x b j n d p (whole s l h) i 1 m 0 0)
one-leads x b j n p i (takes_decimal {s} {k} {e} {m} {d} t) =
    past x k (wanting b p n) d piece.number t.0 e t.1 (after (wanting b p n)) (keeping (wanting b p n) 3 (sign_of m) m.whole m.tens)
    (on-taken x b j n d p (decimal s) i a_number t.0 e ∙ decimal-taken x b j n d p (decimal s) i t.0 e m t.2 refl)
    (kept j s (three m) d) (keeps-at x b j n d p (decimal s) i 3 (sign_of m) m.whole m.tens)
one-leads x b j n p i (takes_choice {s} {l} {h} {k} {c} {e} {d} t y z) =
    past x k (wanting b p n) d piece.name t.0 e t.1 (after (wanting b p n)) (keeping (wanting b p n) 1 c 0 0)
    (on-taken x b j n d p (choice s l h) i a_name t.0 e ∙ choice-taken x b j n d p (choice s l h) i t.0 e refl c t.2 y z)
    (kept j s (c ∷ []) d) (keeps-at x b j n d p (choice s l h) i 1 c 0 0)
one-leads x b j n p i (takes_new {h} {k} {a} {e} {d} t y z) =
    past x k (wanting b p n) d piece.name a e t (after (wanting b p n)) (new_record j 4 a e (count d h) b)
    (on-taken x b j n d p (new h) i a_name a e ∙ new-taken x b j n d p (new h) i a e refl (fresh-find x d j a e y) z)
    (appended j (a ∷ e ∷ count d h ∷ b ∷ []) d) (applied-new j 4 a e (count d h) b d)
one-leads x b j n p i (takes_points {s} {k} {n = m} {e} {d} t y z) =
    past x k (wanting b p n) d piece.number t.0 e t.1 (after (wanting b p n)) (keeping (wanting b p n) 1 m 0 0)
    (on-taken x b j n d p (points s) i a_number t.0 e ∙ points-taken x b j n d p (points s) i t.0 e m t.2 y refl z)
    (kept j s (m ∷ []) d) (keeps-at x b j n d p (points s) i 1 m 0 0)
one-leads x b j n p i (takes_alignment {s} {k} {n = m} {e} {d} t y) =
    past x k (wanting b p n) d piece.number t.0 e t.1 (after (wanting b p n)) (keeping (wanting b p n) 1 m 0 0)
    (on-taken x b j n d p (alignment s) i a_number t.0 e ∙ alignment-taken x b j n d p (alignment s) i t.0 e m t.2 (four-least m y) refl (among-four m y))
    (kept j s (m ∷ []) d) (keeps-at x b j n d p (alignment s) i 1 m 0 0)
one-leads x b j n p i (takes_nought {k} {e} {m} {d} t y) =
    past x k (wanting b p n) d piece.number t.0 e t.1 (after (wanting b p n)) (keeping (wanting b p n) 3 (sign_of m) m.whole m.tens)
    (on-taken x b j n d p nought i a_number t.0 e ∙ nought-taken x b j n d p nought i t.0 e m t.2 refl y)
    d (unfold kept in (keeps-at x b j n d p nought i 3 (sign_of m) m.whole m.tens))
one-leads x b j n p i (takes_upper {s} {k} {e} {m} {d} t y) =
    past x k (wanting b p n) d piece.number t.0 e t.1 (after (wanting b p n)) (keeping (wanting b p n) 3 (sign_of m) m.whole m.tens)
    (on-taken x b j n d p (upper s) i a_number t.0 e ∙ upper-taken x b j n d p (upper s) i t.0 e m t.2 refl y)
    (kept j s (three m) d) (keeps-at x b j n d p (upper s) i 3 (sign_of m) m.whole m.tens)

-- ---- pairs

-- a number of at most h that stands in a run
pub run-most : (h : ℕ) (x : List ℕ) (a e m : ℕ) → in_run (whole_of h) x a e ≡ number.given m → m ≤ h
run-most h x a e m v = whole_most h (take (e - a) (drop a x)) m (run-given (whole_of h) x a e m (sym v))

-- the parameters of a pair: p the number's, p + 1 the text's
module _ (x : List ℕ) (b j p : ℕ) (t : ℕ) (i : IsParam p j number_entry) (i' : IsParam (param_at p).next j (text_entry t)) where
  -- where n pairs are to come
  abbrev pub coming : ℕ → State
  coming zero = wanting b 0 0
  coming (suc n) = wanting b p (suc n)

  pub after_text_lem : (n : ℕ) → after_text (wanting b (param_at p).next (suc n)) ≡ coming n
  after_text_lem zero = refl
  after_text_lem (suc n) =
      let e : suc (suc n) - 1 ≡ suc n = omega arith in
      rw (lt-ltb 1 (suc (suc n)) (omega arith), i.back i'.some, e)

  pairs-lead : {n k k' : ℕ} {d d' : Records} → Pairs x n k d k' d' → Leads x k (coming n) d k' (wanting b 0 0) d'
  pairs-lead (tree.Pairs.no_more {k} {d}) = stays x k (wanting b 0 0) d
  pairs-lead (pair {n} {k} {e} {a} {f} {k'} {m} {d} {d'} w z u l v rest) =
      past x k (wanting b p (suc n)) d piece.number w.0 e w.1 (wanting b (param_at p).next (suc n)) (new_record entry 2 (sign_of m) m.whole 0 0)
      (on-taken x b j (suc n) d p number_entry i a_number w.0 e ∙ entry-taken x b j (suc n) d p number_entry i w.0 e m w.2 refl z (apart-once d m u) l)
      (appended entry (sign_of m ∷ m.whole ∷ []) d) (applied-new entry 2 (sign_of m) m.whole 0 0 d)
      then past x e (wanting b (param_at p).next (suc n)) (appended entry (sign_of m ∷ m.whole ∷ []) d) piece.string a f v (coming n) (writes entry 2 2 a f 0)
      (on-taken x b j (suc n) (appended entry (sign_of m ∷ m.whole ∷ []) d) (param_at p).next (text_entry t) i' a_string a f
      ∙ text-taken x b j (suc n) (appended entry (sign_of m ∷ m.whole ∷ []) d) (param_at p).next (text_entry t) i' a f refl ∙ ap (λ (s : State). went f s (writes entry 2 2 a f 0)) (after_text_lem n))
      (written entry 2 (a ∷ f ∷ []) (appended entry (sign_of m ∷ m.whole ∷ []) d)) (applied-writes entry 2 2 a f 0 (appended entry (sign_of m ∷ m.whole ∷ []) d))
      then pairs-lead rest

  -- after how many there are
  pub pairs_next : (o n : ℕ) (q : Param) → IsParam o j q → (param_at o).next ≡ p → (e m : ℕ) → m ≤ 65535 → taken_pairs (wanting b o n) e m ≡ went e (coming m) (keeping (wanting b o n) 1 m 0 0)
  unfolding taken_pairs
  pairs_next o n q c y e zero l = refl
  pairs_next o n q c y e (suc m) l =
      let z : min (suc m) 65535 ≡ suc m = omega arith in
      rw (ne_eqb (suc m) 0 (λ u. omega arith), y, z)

-- ---- all parameters of a keyword

pub parameters-lead : (x : List ℕ) (b j : ℕ) {qs : List Param} {k k' : ℕ} {d d' : Records} → Parameters x b j qs k d k' d' → (p : ℕ) → Chain p j qs
    → Leads x k (wanting b p 0) d k' (wanting b 0 0) d'
parameters-lead x b j (tree.Parameters.no_more {k} {d}) p c = rw c (stays x k (wanting b 0 0) d)
parameters-lead x b j (next one rest) p c = one-leads x b j 0 p c.0 one then parameters-lead x b j rest (param_at p).next c.1
parameters-lead x b j (many {s} {t} {k} {n} {e} {k'} {d} w ps) p c =
    past x k (wanting b p 0) d piece.number w.0 e w.1 (coming x b j (param_at p).next t c.1.0 c.1.1.0 n) (keeping (wanting b p 0) 1 n 0 0)
    (on-taken x b j 0 d p (pairs s) c.0 a_number w.0 e ∙ pairs-taken x b j 0 d p (pairs s) c.0 w.0 e refl n w.2
    ∙ pairs_next x b j (param_at p).next t c.1.0 c.1.1.0 p 0 (pairs s) c.0 refl e n (run-most 65535 x w.0 e n w.2))
    (kept j s (n ∷ []) d) (keeps-at x b j 0 d p (pairs s) c.0 1 n 0 0)
    then pairs-lead x b j (param_at p).next t c.1.0 c.1.1.0 ps
