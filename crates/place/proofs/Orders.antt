-- Order of Position and the rules of place, by the tests that the code makes.
use Prim.Native.Nat.{ℕ, zero, suc, ◌+◌, ◌-◌, ◌<◌, ◌≤◌}
use native.Mathlib.Omega.{arith}
use mathlib.Core.Path.{◌≡◌, refl, ◌∙◌, ap, subst}
use mathlib.Core.List.{List, [], ◌∷◌, ◌++◌, append-nil}
use mathlib.Core.Bool.{Bool, not, ◌&&◌, ◌||◌, and_assoc, and-true}
use borrow.Author.Tests.{lt-ltb, le-ltb}
use borrow.Author.Rules.{rules}
use lib.ListN.{length}
use Rattle.std.specs.Prelude.{get_or, set, take, drop}
use Rattle.std.specs.List.{swap}
use Rattle.place.specs.Order.{insert, put_first, in_order, parts}
use Rattle.place.specs.Rules.{apart, apart_from, all_apart, distinct, comes_before, counted, same, matching, sound_layout}
use Rattle.place.specs.declared.order.Layout.{Layout}
use Rattle.place.specs.declared.order.Role.TheVariants.{Values, PointsX, PointsY, CountX, CountY}
use Rattle.place.specs.declared.order.Part.{Part}
use Rattle.place.specs.declared.rules.Need.{Need}

pub alone : (p : Part) → p ∷ [] ≡ insert p []
unfolding insert
alone p = refl

pub in-front : (p q : Part) (qs : List Part) → p.entry.position < q.entry.position → p ∷ q ∷ qs ≡ insert p (q ∷ qs)
unfolding insert
in-front p q qs h = rw (lt-ltb p.entry.position q.entry.position h)

pub behind : (p q : Part) (qs rs : List Part) → q.entry.position ≤ p.entry.position → rs ≡ insert p qs → q ∷ rs ≡ insert p (q ∷ qs)
unfolding insert
behind p q qs rs h e = rw (le-ltb p.entry.position q.entry.position h, e)

-- the first k parts stand, and the next is put among those after it
abbrev pub from : ℕ → List Part → List Part
from zero s = put_first s
from (suc k) [] = []
from (suc k) (a ∷ s) = a ∷ from k s

module _ (d e : Part) where
  moved_at : (k : ℕ) (s : List Part) → suc k < length s → (get_or s (suc k) d).entry.position ≤ (get_or s k d).entry.position
      → from (suc k) (set (set s k (get_or s (suc k) e)) (suc k) (get_or s k e)) ≡ from k s
  unfolding put_first
  moved_at zero [] h g = absurd (omega (arith, h))
  moved_at zero (p ∷ []) h g = absurd (omega (arith, h))
  moved_at zero (p ∷ q ∷ qs) h g = behind p q qs (insert p qs) g refl
  moved_at (suc k) [] h g = absurd (omega (arith, h))
  moved_at (suc k) (a ∷ s) h g = let l : suc k < length s = omega (arith, h) in ap (λ r. a ∷ r) (moved_at k s l g)

  stands_at : (k : ℕ) (s : List Part) → suc k < length s → (get_or s k d).entry.position < (get_or s (suc k) d).entry.position → s ≡ from k s
  unfolding put_first
  stands_at zero [] h g = absurd (omega (arith, h))
  stands_at zero (p ∷ []) h g = absurd (omega (arith, h))
  stands_at zero (p ∷ q ∷ qs) h g = in-front p q qs g
  stands_at (suc k) [] h g = absurd (omega (arith, h))
  stands_at (suc k) (a ∷ s) h g = let l : suc k < length s = omega (arith, h) in ap (λ r. a ∷ r) (stands_at k s l g)

last_at : (k : ℕ) (s : List Part) → length s ≤ suc k → s ≡ from k s
unfolding put_first
last_at zero [] h = refl
last_at zero (p ∷ []) h = alone p
last_at zero (p ∷ q ∷ qs) h = absurd (omega (arith, h))
last_at (suc k) [] h = refl
last_at (suc k) (a ∷ s) h = let l : length s ≤ suc k = omega (arith, h) in ap (λ r. a ∷ r) (last_at k s l)

moved-in : (d : Part) (i : ℕ) (s : List Part) → 1 ≤ i → i < length s → (get_or s i d).entry.position ≤ (get_or s (i - 1) d).entry.position
    → from ((i + 1) - 1) (swap s (i - 1) i) ≡ from (i - 1) s
moved-in d zero s l h g = absurd (omega (arith, l))
moved-in d (suc k) [] l h g = absurd (omega (arith, h))
moved-in d (suc k) (b ∷ s) l h g =
    let e : suc k - 1 ≡ k = omega arith in let e' : suc k + 1 - 1 ≡ suc k = omega arith in rw (e', e) (moved_at d b k (b ∷ s) h (rw e at g))

module _ (s : List Part) (i : ℕ) (r : List Part) (f : from (i - 1) s ≡ r) (l : 1 ≤ i) where
  up : suc (i - 1) ≡ i
  up = omega arith

  pub moved : (d : Part) (s' : List Part) → i < length s → (get_or s i d).entry.position ≤ (get_or s (i - 1) d).entry.position → s' ≡ swap s (i - 1) i → from ((i + 1) - 1) s' ≡ r
  moved d s' h g y = ap (from ((i + 1) - 1)) y ∙ moved-in d i s l h g ∙ f

  pub stands : (d : Part) → i < length s → (get_or s (i - 1) d).entry.position < (get_or s i d).entry.position → s ≡ r
  stands d h g = stands_at d d (i - 1) s (rw up h) (rw up g) ∙ f

  pub last : length s ≤ i → s ≡ r
  last h = last_at (i - 1) s (omega (arith, h, l)) ∙ f

pub ruleset orders = (moved, stands, last, rules)

-- what a slice of so many parts gives back, whatever stands after it
whole : (s v : List Part) → take (length s) (s ++ v) ≡ s
whole [] v = take-zero v
  where
    take-zero : (v : List Part) → take 0 v ≡ []
    take-zero [] = refl
    take-zero (p ∷ v) = refl
whole (p ∷ s) v = ap (λ r. p ∷ r) (whole s v)

given-back : (k : ℕ) (s v : List Part) → length s ≡ k → take k (s ++ v) ≡ s
given-back k s v e = subst (λ n. take n (s ++ v) ≡ s) e (whole s v)

longer : (k : ℕ) (s t v : List Part) → length s ≡ k → length t ≡ suc (length (take k (s ++ v))) → length t ≡ suc k
longer k s t v e f = f ∙ ap (λ q. suc (length q)) (given-back k s v e) ∙ ap (λ n. suc n) e

past : (s v : List Part) → drop (length s) (s ++ v) ≡ v
past [] [] = refl
past [] (p ∷ v) = refl
past (p ∷ s) v = past s v

left-over : (k : ℕ) (s v : List Part) → length s ≡ k → drop k (s ++ v) ≡ v
left-over k s v e = subst (λ n. drop n (s ++ v) ≡ v) e (past s v)

pub ordered : (l : Layout) (s t u r : List Part)
    → length s ≡ 2 → s ≡ put_first (record { role = CountX; entry = l.nx } ∷ record { role = CountY; entry = l.ny } ∷ [])
    → length t ≡ suc (length (take 2 (s ++ []))) → t ≡ put_first (record { role = PointsY; entry = l.y } ∷ take 2 (s ++ []))
    → u ≡ put_first (record { role = PointsX; entry = l.x } ∷ take 3 (t ++ drop 2 (s ++ [])))
    → r ≡ put_first (record { role = Values; entry = l.values } ∷ u ++ drop 3 (t ++ drop 2 (s ++ [])))
    → r ≡ in_order (parts l)
unfolding in_order parts insert put_first
ordered l s t u r i e j f g h =
    let n : drop 3 (t ++ drop 2 (s ++ [])) ≡ [] = left-over 3 t (drop 2 (s ++ [])) (longer 2 s t [] i j) ∙ left-over 2 s [] i in
    rw (h, n, append-nil u, g, given-back 3 t (drop 2 (s ++ [])) (longer 2 s t [] i j), f, given-back 2 s [] i, e)

-- ten flags, as the code joins them
pub ten : (l : Layout) (a b c d e f g h i j : Bool)
    → a ≡ apart l.values l.x → b ≡ apart l.values l.y → c ≡ apart l.values l.nx → d ≡ apart l.values l.ny
    → e ≡ apart l.x l.y → f ≡ apart l.x l.nx → g ≡ apart l.x l.ny
    → h ≡ apart l.y l.nx → i ≡ apart l.y l.ny → j ≡ apart l.nx l.ny
    → ((a && b && c && d) && (e && f && g) && (h && i) && j) ≡ distinct l
unfolding distinct all_apart apart_from
ten l a b c d e f g h i j p q r s t u v w x y = rw (p, q, r, s, t, u, v, w, x, y) (simp (and_assoc, and-true))

pub are-counted : (l : Layout) (a b c d : Bool)
    → a ≡ comes_before l.nx l.x → b ≡ comes_before l.nx l.values → c ≡ comes_before l.ny l.y → d ≡ comes_before l.ny l.values
    → (a && b && c && d) ≡ counted l
unfolding counted
are-counted l a b c d p q r s = rw (p, q, r, s)

pub are-matching : (n : Need) (l : Layout) (a b c : Bool)
    → a ≡ same n.values l.values.present → b ≡ same n.x.stored l.x.present → c ≡ same n.y.stored l.y.present
    → (a && b && c && (n.x.stored || not l.nx.present) && (n.y.stored || not l.ny.present)) ≡ matching n l
unfolding matching
are-matching n l a b c p q r = rw (p, q, r)

pub is-sound : (n : Need) (l : Layout) (a b c : Bool) → a ≡ matching n l → b ≡ distinct l → c ≡ counted l → (a && b && c) ≡ sound_layout n l
unfolding sound_layout
is-sound n l a b c p q r = rw (p, q, r)

pub ruleset joined = (are-counted, are-matching, is-sound, rules)
