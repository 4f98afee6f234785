-- Keywords, by the branches that the code takes.
use Prim.Native.Nat.{ℕ, suc, ◌+◌, ◌-◌, ◌≤◌, ◌<◌, min}
use mathlib.Core.Path.{◌≡◌, refl, sym, ◌∙◌, ap}
use mathlib.Core.List.{List}
use mathlib.Core.Bool.{Bool, true, false, cond, ◌&&◌}
use native.Mathlib.Omega.{arith}
use borrow.Author.Rules.{rules}
use borrow.Author.Tests.{lt-ltb, le-ltb, eq-eqb, ne_eqb}
use lib.Dec.{ltb, eqb}
use lib.ListN.{length}
use Rattle.std.proofs.lemmas.Bool.Decides.{nat_tests}
use Rattle.words.specs.Class.{class_at}
use Rattle.rows.specs.Rows.{rows, needed}
use Rattle.rows.specs.Numbered.{row_at, first_param}
use Rattle.grammar.specs.Move.{View, state, items, begun, ended, idle, went, refused, moved}
use Rattle.grammar.specs.Parameter.{wrong}
use Rattle.grammar.specs.Keyword.{row_from, row_of, may_stand, is_often, one_more, counting, stands, plain_row, bare_word, opens, begun_word, is_met, all_met, ends, ended_word, item, after_begin, after_end}
use Rattle.grammar.specs.declared.state.State.{State}
use Rattle.grammar.specs.declared.state.Act.{Act}
use Rattle.grammar.proofs.Answered.{Answered}
use Rattle.rows.proofs.TableLaws.{row_count, need-count}

-- ---- rows

-- the search from row i on finds what the search from the first finds
abbrev pub Rowing : ℕ → ℕ → ℕ → Type 0
Rowing b w i = row_from (length rows - i) i b w ≡ row_of b w

module _ (b w : ℕ) where
  pub rowing_start : Rowing b w 0
  unfolding row_of
  rowing_start = let z : length rows - 0 ≡ length rows = omega arith in ap (λ n. row_from n 0 b w) z

  rowing-past : (i : ℕ) → Rowing b w i → 45 ≤ i → i ≡ row_of b w
  unfolding row_from
  rowing-past i q h = let z : length rows - i ≡ 0 = omega (arith, row_count) in rw z at q

  -- k is the row from which the search went on
  pub rowing-end : (k i : ℕ) → k ≤ 45 → (k ≤ 45 → i ≤ 45) → 45 ≤ i → Rowing b w i → 45 ≡ row_of b w
  rowing-end k i l f h q = let z : i ≡ 45 = omega (arith, f l) in rw z at (rowing-past i q h)

  -- r says whether the row is that of the block and the word
  module _ (i : ℕ) (q : Rowing b w i) (h : i < 45) (r : Bool) (pr : r ≡ (eqb (row_at i).parent b && eqb (row_at i).word w)) where
    looked : cond r i (row_from (length rows - (i + 1)) (suc i) b w) ≡ row_of b w
    unfolding row_from
    looked = let z : length rows - i ≡ suc (length rows - (i + 1)) = omega (arith, row_count) in rw pr (rw z at q)

    pub rowing-found : r ≡ true → i ≡ row_of b w
    rowing-found t = rw t at looked

    pub rowing-on : r ≡ false → Rowing b w (i + 1)
    rowing-on t = let z : suc i ≡ i + 1 = omega arith in rw (t, z) at looked

pub ruleset rowings = (rowing_start, rowing-end, rowing-found, rowing-on, rules)

-- ---- whether a keyword may stand, how often, and counting it

pub more-is : (n m : ℕ) → m ≡ min n 254 → m + 1 ≡ one_more n
unfolding one_more
more-is n m p = grind (arith, nat_tests)

pub ruleset mores = (more-is, rules)

-- b is whether it may stand
module _ (v : View) (i inner a e : ℕ) (b : Bool) (pb : b ≡ may_stand v i) where
  pub stand-not : b ≡ false → refused 5 a ≡ stands v i inner a e
  unfolding stands
  stand-not h = rw (← pb, h)

  -- o is whether it was there as often as it may
  module _ (h : b ≡ true) (o : Bool) (po : o ≡ is_often v i) where
    pub stand-often : o ≡ true → refused 6 a ≡ stands v i inner a e
    unfolding stands
    stand-often g = rw (← pb, h, ← po, g)

    pub stand-counted : (m : Answered) (st : State) (act : Act) (p : ℕ) → o ≡ false → moved m ≡ went e st act → st ≡ state items inner p 0 → p ≡ first_param i → act ≡ counting v i → moved m ≡ stands v i inner a e
    unfolding stands
    stand-counted m st act p g pm ps pp pa = rw (pm, ps, pa, pp, ← pb, h, ← po, g)

pub ruleset standings = (stand-not, stand-often, stand-counted, rules)

-- ---- a bare word

is-row : (i : ℕ) → i < 45 → ltb i (length rows) ≡ true
is-row i h = rw row_count (lt-ltb i 45 h)

no_row : (i : ℕ) → 45 ≤ i → ltb i (length rows) ≡ false
no_row i h = rw row_count (le-ltb i 45 h)

module _ (v : View) (s : State) (i a e : ℕ) where
  pub plain-none : 45 ≤ i → refused 5 a ≡ plain_row v s i a e
  unfolding plain_row
  plain-none h = rw (no_row i h)

  module _ (h : i < 45) (o : ℕ) (po : o ≡ (row_at i).opens) where
    pub plain-outside : o ≡ 2 → refused 9 a ≡ plain_row v s i a e
    unfolding plain_row
    plain-outside g = rw (is-row i h, ← po, eq-eqb o 2 g)

    pub plain-stands : (m : Answered) → (o ≡ 2 → ⊥) → moved m ≡ stands v i s.block a e → moved m ≡ plain_row v s i a e
    unfolding plain_row
    plain-stands m g p = rw (is-row i h, ← po, ne_eqb o 2 g, p)

pub ruleset plains = (plain-none, plain-outside, plain-stands, rules)

-- ---- the word after `/begin`

-- i is the row that was found
module _ (v : View) (s : State) (c a e i : ℕ) (pi : i ≡ row_of s.block c) where
  pub open_none : 45 ≤ i → refused 5 a ≡ opens v s c a e
  unfolding opens
  open_none h = rw (← pi, no_row i h)

  pub open-stands : (m : Answered) → i < 45 → moved m ≡ stands v i c a e → moved m ≡ opens v s c a e
  unfolding opens
  open-stands m h p = rw (← pi, is-row i h, p)

pub ruleset openings = (open_none, open-stands, rules)

-- ---- `/end`, and the word after it

-- whether the needs from i on are met is whether all are
abbrev pub Meeting : View → ℕ → ℕ → Type 0
Meeting v b i = all_met (length needed - i) v b i ≡ all_met (length needed) v b 0

module _ (v : View) (b : ℕ) where
  met-on : (f i : ℕ) → (is_met v b i && all_met f v b (suc i)) ≡ all_met (suc f) v b i
  unfolding all_met
  met-on f i = refl

  pub meeting-start : Meeting v b 0
  meeting-start = let z : length needed - 0 ≡ length needed = omega arith in ap (λ n. all_met n v b 0) z

  pub meeting-end : (i : ℕ) → Meeting v b i → 9 ≤ i → true ≡ all_met (length needed) v b 0
  unfolding all_met
  meeting-end i q h = let z : length needed - i ≡ 0 = omega (arith, need-count) in rw z at q

  -- r is whether need i is met
  module _ (i : ℕ) (q : Meeting v b i) (h : i < 9) (r : Bool) (pr : r ≡ is_met v b i) where
    asked : (r && all_met (length needed - (i + 1)) v b (suc i)) ≡ all_met (length needed) v b 0
    asked = let z : length needed - i ≡ suc (length needed - (i + 1)) = omega (arith, need-count) in rw pr (met-on (length needed - (i + 1)) i ∙ (ap (λ n. all_met n v b i) (sym z) ∙ q))

    pub meeting-not : r ≡ false → false ≡ all_met (length needed) v b 0
    meeting-not t = rw t at asked

    pub meeting-on : r ≡ true → Meeting v b (i + 1)
    meeting-on t = let z : suc i ≡ i + 1 = omega arith in rw (t, z) at asked

pub ruleset meetings = (meeting-start, meeting-end, meeting-not, meeting-on, rules)

module _ (v : View) (s : State) (a e : ℕ) where
  pub end-file : s.block ≡ 0 → refused 3 a ≡ ends v s a e
  unfolding ends
  end-file h = rw (eq-eqb s.block 0 h)

  -- r is whether all needs are met
  module _ (h : s.block ≡ 0 → ⊥) (r : Bool) (p : r ≡ all_met (length needed) v s.block 0) where
    pub end-met : (m : Answered) (st : State) (act : Act) → r ≡ true → moved m ≡ went e st act → st ≡ state ended s.block 0 0 → act ≡ idle → moved m ≡ ends v s a e
    unfolding ends
    end-met m st act g pm ps pa = rw (pm, ps, pa, ne_eqb s.block 0 h, ← p, g)

    pub end-missing : r ≡ false → refused 5 a ≡ ends v s a e
    unfolding ends
    end-missing g = rw (ne_eqb s.block 0 h, ← p, g)

pub ruleset endings = (end-file, end-met, end-missing, rules)

-- ---- any piece, by the mode

module _ (x : List ℕ) (v : View) (s : State) (k a e : ℕ) (m : Answered) where
  pub item-word : k ≡ 0 → moved m ≡ bare_word v s a e (class_at x a e) → moved m ≡ item x v s k a e
  unfolding item
  item-word h p = p ∙ rw (eq-eqb k 0 h)

  module _ (h : k ≡ 0 → ⊥) where
    pub item-begin : (st : State) (act : Act) → k ≡ 4 → moved m ≡ went e st act → st ≡ state begun s.block 0 0 → act ≡ idle → moved m ≡ item x v s k a e
    unfolding item
    item-begin st act g p q y = rw (p, q, y, ne_eqb k 0 h, eq-eqb k 4 g)

    pub item-end : (k ≡ 4 → ⊥) → k ≡ 5 → moved m ≡ ends v s a e → moved m ≡ item x v s k a e
    unfolding item
    item-end g f p = p ∙ rw (ne_eqb k 0 h, ne_eqb k 4 g, eq-eqb k 5 f)

    pub item-other : (k ≡ 4 → ⊥) → (k ≡ 5 → ⊥) → moved m ≡ wrong 5 x k a e → moved m ≡ item x v s k a e
    unfolding item
    item-other g f p = p ∙ rw (ne_eqb k 0 h, ne_eqb k 4 g, ne_eqb k 5 f)

  pub begin-word : k ≡ 0 → moved m ≡ begun_word x v s a e (class_at x a e) → moved m ≡ after_begin x v s k a e
  unfolding after_begin
  begin-word h p = p ∙ rw (eq-eqb k 0 h)

  pub begin-other : (k ≡ 0 → ⊥) → moved m ≡ wrong 5 x k a e → moved m ≡ after_begin x v s k a e
  unfolding after_begin
  begin-other h p = p ∙ rw (ne_eqb k 0 h)

module _ (x : List ℕ) (s : State) (k a e : ℕ) (m : Answered) where
  pub end-word : k ≡ 0 → moved m ≡ ended_word s a e (class_at x a e) → moved m ≡ after_end x s k a e
  unfolding after_end
  end-word h p = p ∙ rw (eq-eqb k 0 h)

  pub end-other : (k ≡ 0 → ⊥) → moved m ≡ wrong 3 x k a e → moved m ≡ after_end x s k a e
  unfolding after_end
  end-other h p = p ∙ rw (ne_eqb k 0 h)

pub ruleset pieces = (item-word, item-begin, item-end, item-other, begin-word, begin-other, end-word, end-other, rules)
