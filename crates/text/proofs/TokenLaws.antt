-- Names, strings, runs and tokens, by the branches that the code takes.
use Prim.Native.Nat.{ℕ, ◌+◌, ◌-◌, ◌≤◌, ◌<◌, max}
use mathlib.Core.Path.{◌≡◌, ◌∙◌, sym}
use mathlib.Core.List.{List}
use mathlib.Core.Bool.{true, false, not, ◌&&◌}
use native.Mathlib.Omega.{arith}
use borrow.Author.Rules.{rules}
use borrow.Author.Tests.{eq-eqb, ne_eqb, le-leb, lt-leb}
use lib.ListN.{length}
use Rattle.text.specs.Answer.{Answer, given, refused, piece, name}
use Rattle.text.specs.Bytes.{byte, is_allowed, in_name, pair_at}
use Rattle.text.specs.Blank.{token_ends}
use Rattle.text.specs.Token.{name_step, name_end, name_at, quote_step, string_end, run_step, run_end}
use Rattle.text.proofs.Walks.{Same, start, onto, stops, ends, ends_for}
use Rattle.text.proofs.ByteLaws.{via}
use lib.Dec.{eqb}
use Rattle.text.proofs.BlankLaws.{ends-inner}
use Rattle.text.proofs.Within.{and_left, name-ahead}

abbrev pub InName : List ℕ → ℕ → ℕ → Type 0
InName s at i = Same ℕ (length s) (name_step s) (λ k. k) at i

module _ (s : List ℕ) (at i : ℕ) (q : InName s at i) where
  pub name-on : i < length s → in_name (byte s i) ≡ true → InName s at (i + 1)
  name-on h p = onto q h (rw p) (omega arith)

  pub name-found : i < length s → in_name (byte s i) ≡ false → i ≡ name_end s at
  unfolding name_end
  name-found h p = stops q h (rw p)

  pub name-last : (m : ℕ) → length s ≤ i → (at ≤ length s → i ≤ length s) → m ≡ max at (length s) → m ≡ name_end s at
  unfolding name_end
  name-last m h near p = p ∙ ends_for q h near

pub ruleset names = (start, name-on, name-found, name-last, via, rules)

module _ (s : List ℕ) (k e : ℕ) (p : e ≡ name_end s k) where
  -- a name's end does not lie before its start
  pub name-least : k ≤ e
  name-least = rw p (name-ahead s k)

  pub name-long : 128 < e - k → refused 1 k ≡ name_at s k
  unfolding name_at
  name-long l = rw (← p, lt-leb e (k + 128) (omega arith))

  pub name-good : k ≤ e → e - k ≤ 128 → token_ends s e ≡ true → given (piece name k e) ≡ name_at s k
  unfolding name_at
  name-good h l t = rw (← p, le-leb e (k + 128) (omega arith), t)

  pub name-bad : k ≤ e → e - k ≤ 128 → token_ends s e ≡ false → refused 1 k ≡ name_at s k
  unfolding name_at
  name-bad h l t = rw (← p, le-leb e (k + 128) (omega arith), t)

pub ruleset name-tokens = (name-least, name-long, name-good, name-bad, via, rules)

abbrev pub InString : List ℕ → ℕ → ℕ → Type 0
InString s at i = Same (Answer ℕ) (length s) (quote_step s) (λ k. refused 1 at) (at + 1) i

module _ (s : List ℕ) (at : ℕ) where
  pub string-past : length s ≤ at → refused 1 at ≡ string_end s at
  unfolding string_end
  string-past h = ends start (omega arith)

  module _ (i : ℕ) (q : InString s at i) where
    pub string-last : length s ≤ i → refused 1 at ≡ string_end s at
    unfolding string_end
    string-last h = ends q h

    module _ (h : i < length s) (e : ℕ) where
      pub string-slash : pair_at s i 92 34 ≡ true → e ≡ i + 2 → InString s at e
      string-slash p x = rw x (onto q h (rw p) (omega arith))

      pub string-double : pair_at s i 92 34 ≡ false → pair_at s i 34 34 ≡ true → e ≡ i + 2 → InString s at e
      string-double p r x = rw x (onto q h (rw (p, r)) (omega arith))

      pub string-found : pair_at s i 92 34 ≡ false → pair_at s i 34 34 ≡ false → byte s i ≡ 34 → e ≡ i + 1 → given e ≡ string_end s at
      unfolding string_end
      string-found p r b x = rw x (stops q h (rw (p, r, eq-eqb (byte s i) 34 b)))

      pub string-on : pair_at s i 92 34 ≡ false → pair_at s i 34 34 ≡ false → (byte s i ≡ 34 → ⊥) → e ≡ i + 1 → InString s at e
      string-on p r b x = rw x (onto q h (rw (p, r, ne_eqb (byte s i) 34 b)) (omega arith))

pub ruleset strings = (start, string-past, string-last, string-slash, string-double, string-found, string-on, via, rules)

abbrev pub InRun : List ℕ → ℕ → ℕ → Type 0
InRun s at i = Same (Answer ℕ) (length s) (run_step s at) given at i

module _ (s : List ℕ) (at i : ℕ) (q : InRun s at i) where
  pub run-last : (m : ℕ) → length s ≤ i → (at ≤ length s → i ≤ length s) → m ≡ max at (length s) → given m ≡ run_end s at
  unfolding run_end
  run-last m h near p = rw p (ends_for q h near)

  module _ (h : i < length s) where
    pub run-found : token_ends s i ≡ true → given i ≡ run_end s at
    unfolding run_end
    run-found t = stops q h (rw t)

    pub run_on : token_ends s i ≡ false → is_allowed (byte s i) ≡ true → InRun s at (i + 1)
    run_on t a = onto q h (rw (t, a)) (omega arith)

    pub run-inner : (is_allowed (byte s i) && not (eqb (byte s i) 34) && not (eqb (byte s i) 47)) ≡ true → InRun s at (i + 1)
    run-inner t =
        let a : is_allowed (byte s i) ≡ true = and_left (is_allowed (byte s i)) (not (eqb (byte s i) 34)) (and_left (is_allowed (byte s i) && not (eqb (byte s i) 34)) (not (eqb (byte s i) 47)) t) in
        run_on (sym (ends-inner s i h t)) a

    pub run-bad : token_ends s i ≡ false → is_allowed (byte s i) ≡ false → refused 1 at ≡ run_end s at
    unfolding run_end
    run-bad t a = stops q h (rw (t, a))

pub ruleset runs = (start, run-last, run-found, run_on, run-inner, run-bad, via, rules)
