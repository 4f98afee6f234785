-- The search among a table's rows, row by row; and the class between two places.
use Prim.Native.Nat.{ℕ, ◌+◌, ◌<◌, ◌≤◌}
use mathlib.Core.Path.{◌≡◌, refl, sym, ◌∙◌, ap}
use mathlib.Core.List.{List, [], ◌∷◌}
use mathlib.Core.Bool.{true, false, cond, ◌&&◌, and-false}
use borrow.Author.Tests.{lt-leb}
use lib.Dec.{eqb}
use lib.ListN.{length, drop, get_or}
use mathlib.Core.Logic.{◌⊎◌, inl, inr}
use Rattle.std.specs.Prelude.{map, nat_eq, MatchOption}
use Rattle.std.specs.List.{PartBy}
use Rattle.std.proofs.Common.{Bor, Option, Some, None}
use Rattle.std.specs.Cmp.Lexicographic.{pointwise}
use Rattle.std.proofs.lemmas.List.{drop_more, drop_all}
use Rattle.words.specs.Kind.{Kind, unlisted}
use Rattle.words.specs.Row.{same, kind_in}
use Rattle.words.specs.Told.{told_class}
use Rattle.words.specs.Inner.{told_row}
use Rattle.words.specs.Class.{class_of, class_at}
use Rattle.words.specs.declared.class.Class.{Class}
use Rattle.words.specs.declared.class.Class.TheVariants.{Unlisted}
use Rattle.words.proofs.Laws.{class-between}

-- equal bytes are the same word
pub same-eq : (v w : List ℕ) → pointwise nat_eq v w ≡ same v w
unfolding same
same-eq [] [] = refl
same-eq [] (b ∷ w) = refl
same-eq (a ∷ v) [] = refl
same-eq (a ∷ v) (b ∷ w) = ap (λ t. eqb a b && t) (same-eq v w)

-- the kind of a word among the rows from the i-th on
abbrev pub kind_from : List (List ℕ × Class) → List ℕ → ℕ → Kind
kind_from rows w i = kind_in (map told_row (drop i rows)) w

-- k is the kind among all of the rows, the i-th of which is r
module _ (rows : List (List ℕ × Class)) (w : List ℕ) (i : ℕ) (k : Kind) (q : kind_from rows w i ≡ k) where
  pub from_end : length rows ≤ i → unlisted ≡ k
  unfolding kind_in
  from_end h = rw (drop_all i rows h) at q

  module _ (r : List ℕ × Class) (l : i < length rows) (e : r ≡ get_or rows i r) where
    turn : cond (same r.0 w) (told_class r.1) (kind_from rows w (i + 1)) ≡ k
    unfolding kind_in
    turn = rw (drop_more rows i r l, sym e) at q

    pub from_found : pointwise nat_eq r.0 w ≡ true → told_class r.1 ≡ k
    from_found t = rw (sym (same-eq r.0 w) ∙ t) at turn

    pub from_on : pointwise nat_eq r.0 w ≡ false → kind_from rows w (i + 1) ≡ k
    from_on t = rw (sym (same-eq r.0 w) ∙ t) at turn

pub ruleset passing = (from_end, from_found, from_on)

-- r is the class of the word between two places, or unlisted where they leave the bytes
module _ (s : List ℕ) (from to : ℕ) (r : Class) where
  outside : (to < from) ⊎ (length s < to) → unlisted ≡ class_at s from to
  unfolding class_at
  outside (inl h) = rw (lt-leb from to h)
  outside (inr h) = rw (lt-leb to (length s) h, and-false)

  pub between : (word : Option (Bor (List ℕ))) → MatchOption word (r ≡ Unlisted) (λ w. told_class r ≡ class_of w.now) →
      PartBy (λ w. w.now) s from to word → told_class r ≡ class_at s from to
  between None e h = ap told_class e ∙ outside h.0
  between (Some w) e h = e ∙ ap class_of h.0.2 ∙ sym (class-between s from to h.0.0 h.0.1)
