-- Blanks and comments, by the branches that the code takes.
use Prim.Native.Nat.{ℕ, ◌+◌, ◌-◌, ◌≤◌, ◌<◌, max}
use mathlib.Core.Path.{◌≡◌, refl, sym, ◌∙◌, ap, subst}
use mathlib.Core.List.{List}
use mathlib.Core.Bool.{Bool, true, false, not, ◌&&◌}
use native.Mathlib.Omega.{arith}
use borrow.Author.Rules.{rules}
use borrow.Author.Tests.{eq-eqb, ne_eqb, eqb-false, leb-true, leb-false, le-leb, lt-leb, le-ltb}
use lib.ListN.{length}
use lib.Dec.{leb, eqb}
use Rattle.std.specs.Prelude.{Option, Some, None, Result, Ok, Err}
use Rattle.text.specs.Walk.{done}
use Rattle.text.specs.Answer.{Answer, given, refused, gap_step}
use Rattle.text.specs.Bytes.{byte, is_blank, is_allowed, pair_at}
use Rattle.text.specs.Blank.{line_step, line_end, close_step, comment_end, blank_step, blank_at, token_ends}
use Rattle.text.specs.declared.cursor.Cursor.{Cursor}
use Rattle.text.specs.declared.cursor.Refusal.{Refusal}
use Rattle.text.proofs.Walks.{Same, start, onto, stops, ends, ends_for}
use Rattle.text.proofs.ByteLaws.{via, byte_past, pair-other}
use Rattle.text.proofs.Within.{and_left, and_right, Goes, Blanks, blank-goes}

abbrev pub InLine : List ℕ → ℕ → ℕ → Type 0
InLine s at i = Same ℕ (length s) (line_step s) (λ k. k) at i

module _ (s : List ℕ) (at i : ℕ) (q : InLine s at i) where
  pub line_on : i < length s → (byte s i ≡ 10 → ⊥) → InLine s at (i + 1)
  line_on h p = onto q h (rw (ne_eqb (byte s i) 10 p)) (omega arith)

  pub line-found : i < length s → byte s i ≡ 10 → i ≡ line_end s at
  unfolding line_end
  line-found h p = stops q h (rw (eq-eqb (byte s i) 10 p))

  pub line-last : (m : ℕ) → length s ≤ i → (at ≤ length s → i ≤ length s) → m ≡ max at (length s) → m ≡ line_end s at
  unfolding line_end
  line-last m h near p = p ∙ ends_for q h near

pub ruleset lines = (start, line_on, line-found, line-last, via, rules)

not-true : (x : Bool) → not x ≡ true → x ≡ false
not-true true e = sym e
not-true false e = refl

-- a byte that goes on a run whatever stands after it is no blank, no quote, and starts no comment
module _ (b : ℕ) (t : (is_allowed b && not (eqb b 34) && not (eqb b 47)) ≡ true) where
  inner-least : 33 ≤ b
  unfolding is_allowed
  inner-least = leb-true 33 b (and_left (leb 33 b) (leb b 126) (and_left (is_allowed b) (not (eqb b 34)) (and_left (is_allowed b && not (eqb b 34)) (not (eqb b 47)) t)))

  other : (m : ℕ) → m ≤ 32 → eqb b m ≡ false
  other m l = let n : b ≡ m → ⊥ = λ e. omega (arith, inner-least, e) in ne_eqb b m n

  inner-blank : is_blank b ≡ false
  unfolding is_blank
  inner-blank = rw (other 32 (omega arith), other 9 (omega arith), other 13 (omega arith), other 10 (omega arith))

  inner-quote : eqb b 34 ≡ false
  inner-quote = not-true (eqb b 34) (and_right (is_allowed b) (not (eqb b 34)) (and_left (is_allowed b && not (eqb b 34)) (not (eqb b 47)) t))

  inner-slash : b ≡ 47 → ⊥
  inner-slash = eqb-false b 47 (not-true (eqb b 47) (and_right (is_allowed b && not (eqb b 34)) (not (eqb b 47)) t))

module _ (s : List ℕ) (k : ℕ) where
  pub ends-inner : k < length s → (is_allowed (byte s k) && not (eqb (byte s k) 34) && not (eqb (byte s k) 47)) ≡ true → false ≡ token_ends s k
  unfolding token_ends
  ends-inner h t =
      let l : pair_at s k 47 47 ≡ false = sym (pair-other s k 47 47 (inner-slash (byte s k) t)) in
      let c : pair_at s k 47 42 ≡ false = sym (pair-other s k 47 42 (inner-slash (byte s k) t)) in
      rw (lt-leb (length s) k h, inner-blank (byte s k) t, inner-quote (byte s k) t, l, c)

  pub ends_last : length s ≤ k → true ≡ token_ends s k
  unfolding token_ends
  ends_last h = rw (le-leb (length s) k h)

pub ruleset token-ends = (ends-inner, rules)

abbrev pub InComment : List ℕ → ℕ → ℕ → Type 0
InComment s at i = Same (Answer ℕ) (length s) (close_step s) (λ k. refused 1 at) (at + 2) i

module _ (s : List ℕ) (at : ℕ) where
  pub comment-past : length s ≤ at → refused 1 at ≡ comment_end s at
  unfolding comment_end
  comment-past h = ends start (omega arith)

  module _ (i : ℕ) (q : InComment s at i) where
    pub comment-on : i < length s → pair_at s i 42 47 ≡ false → InComment s at (i + 1)
    comment-on h p = onto q h (rw p) (omega arith)

    pub comment-found : (e : ℕ) → i < length s → pair_at s i 42 47 ≡ true → e ≡ i + 2 → given e ≡ comment_end s at
    unfolding comment_end
    comment-found e h p x = rw x (stops q h (rw p))

    pub comment-last : length s ≤ i → refused 1 at ≡ comment_end s at
    unfolding comment_end
    comment-last h = ends q h

pub ruleset comments = (start, comment-past, comment-on, comment-found, comment-last, via, rules)

module _ (s : List ℕ) (k : ℕ) where
  pub gap-end : length s ≤ k → done (given k) ≡ blank_step s k
  unfolding is_blank pair_at
  gap-end h = rw (sym (byte_past s k h), le-ltb (k + 1) (length s) (omega arith))

  pub gap-inner : (is_allowed (byte s k) && not (eqb (byte s k) 34) && not (eqb (byte s k) 47)) ≡ true → done (given k) ≡ blank_step s k
  gap-inner t =
      let l : pair_at s k 47 47 ≡ false = sym (pair-other s k 47 47 (inner-slash (byte s k) t)) in
      let c : pair_at s k 47 42 ≡ false = sym (pair-other s k 47 42 (inner-slash (byte s k) t)) in
      rw (inner-blank (byte s k) t, l, c)

pub ruleset gaps = (gap-end, gap-inner, rules)

abbrev pub InBlanks : List ℕ → ℕ → ℕ → Type 0
InBlanks s at i = Same (Answer ℕ) (length s) (blank_step s) given at i

-- g is what `gap` gave at i
module _ (s : List ℕ) (i : ℕ) (g : Result (Option Cursor) Refusal) (x : gap_step i g ≡ blank_step s i) where
  -- past the text's end there is no gap
  stands : (v : Result (Option Cursor) Refusal) → g ≡ v → (gap_step i v ≡ done (given i) → ⊥) → i < length s
  stands v y n = split (leb (length s) i) refl
    where
      split : (b : Bool) → leb (length s) i ≡ b → i < length s
      split true t = absurd (n (sym (ap (gap_step i) y) ∙ x ∙ sym (gap-end s i (leb-true (length s) i t))))
      split false t = leb-false (length s) i t

  module _ (o : Option Cursor) (d : Cursor) (y : g ≡ Ok o) (z : o ≡ Some d) where
    inside : i < length s
    inside = stands (Ok (Some d)) (y ∙ ap Ok z) (λ e. cc)

    further : i < d.at
    further = (subst (Goes (length s) (Blanks s) i) (sym x ∙ ap (gap_step i) (y ∙ ap Ok z)) (blank-goes s i inside)).0

    pub blank-less : length s - d.at < length s - i
    blank-less = omega (arith, further, inside)

    pub blank-on : (at : ℕ) → InBlanks s at i → InBlanks s at d.at
    blank-on at q = onto q inside (sym x ∙ ap (gap_step i) (y ∙ ap Ok z)) further

  module _ (at : ℕ) (q : InBlanks s at i) where
    pub blank_none : (o : Option Cursor) → g ≡ Ok o → o ≡ None → given i ≡ blank_at s at
    unfolding blank_at
    blank_none o y z = split (leb (length s) i) refl
      where
        split : (b : Bool) → leb (length s) i ≡ b → given i ≡ blank_at s at
        split true t = ends q (leb-true (length s) i t)
        split false t = stops q (leb-false (length s) i t) (sym x ∙ ap (gap_step i) (y ∙ ap Ok z))

    pub blank-refused : (e : Refusal) → g ≡ Err e → refused e.no e.place ≡ blank_at s at
    unfolding blank_at
    blank-refused e y = stops q (stands (Err e) y (λ n. cc)) (sym x ∙ ap (gap_step i) y)

pub ruleset blanks = (start, blank-less, blank-on, blank_none, rules)
