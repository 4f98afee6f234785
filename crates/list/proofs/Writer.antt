-- ONE LAW FOR EVERY WRITER (writer-remade): whatever changed the bytes lo .. hi of an image, and no other, owes the list the lines that touch them.
--     writer-remade, writer-anew     a list made anew from the image before becomes the one made anew from the image after
--     line_kept, rest-kept     a line that is not picked stays, and so does what stands past the lines
--     room-refreshed     and the room
--     refreshed-swap     two changes whose images come out alike in either order leave the same list
-- Assumes nothing.
use mathlib.Core.Path.{◌≡◌, refl, sym, ap, ◌∙◌, subst}
use mathlib.Core.List.{List}
use mathlib.Core.Bool.{Bool, true, false, ◌&&◌}
use mathlib.Core.Logic.{◌⊎◌, inl, inr, ⊎_elim}
use Prim.Native.Nat.{ℕ, ◌+◌, ◌≤◌, ◌<◌}
use native.Mathlib.Omega.{arith}
use borrow.Author.Tests.{ltb-false}
use lib.Dec.{ltb}
use lib.IntN.{ℤ, pos}
use lib.ListN.{length, get_or}
use Rattle.cell.specs.Kind.{shape_of}
use Rattle.cell.proofs.Laws.{reads-alone}
use Rattle.convert.specs.Told.{held}
use Rattle.tables.specs.Form.{tables_in, kind, first, mask}
use Rattle.number.specs.Below.{sum_below}
use Rattle.tables.specs.Group.{elements, bytes, place_of}
use Rattle.look.specs.declared.element.Line.{Line}
use Rattle.look.specs.Element.{means, raw_in, line_with, line_of, shares, touched}
use Rattle.look.specs.Calls.{Kept, room, groups, remade, refreshed, line_at, with_image}
use Rattle.afresh.proofs.LineLaws.{fresh-made, fresh-else, fresh-past, length-fresh, fresh-swap}
use Rattle.afresh.proofs.RefreshLaws.{refreshed-all}

-- two images of one length that agree at every place outside lo .. hi
pub record SameOutside (I J : List ℕ) (lo hi : ℕ) : Type 0 where
  pub long : length I ≡ length J
  pub else : (j : ℕ) → (j < lo) ⊎ (hi ≤ j) → get_or I j 0 ≡ get_or J j 0

-- bytes that share none of lo .. hi stand before or after them
pub apart : (lo hi p w : ℕ) → shares lo hi p w ≡ false → (p + w ≤ lo) ⊎ (hi ≤ p)
unfolding shares
apart lo hi p w = go (ltb p hi) refl
  where
    go : (b : Bool) → ltb p hi ≡ b → b && ltb lo (p + w) ≡ false → (p + w ≤ lo) ⊎ (hi ≤ p)
    go true e h = inl (ltb-false lo (p + w) h)
    go false e h = inr (ltb-false p hi e)

-- the lines that s does not pick are the same from I and from J
picked-remade : (s : ℕ → ℕ → Bool) (t I J : List ℕ) → ((g i : ℕ) → s g i ≡ false → line_of (tables_in t) I g i ≡ line_of (tables_in t) J g i)
    → (k : Kept) → refreshed s t J (remade t (with_image I k)) ≡ remade t (with_image J k)
unfolding refreshed remade
picked-remade s t I J h k = λ v. record {
  image = J;
  raw = fresh-made s (λ g i. (line_of (tables_in t) I g i).raw) (λ g i. (line_of (tables_in t) J g i).raw) (pos 0) (elements (tables_in t)) (groups t) k.raw (λ g i a b e. ap (λ (y : Line). y.raw) (h g i e)) v;
  state = fresh-made s (λ g i. (line_of (tables_in t) I g i).state) (λ g i. (line_of (tables_in t) J g i).state) 0 (elements (tables_in t)) (groups t) k.state (λ g i a b e. ap (λ (y : Line). y.state) (h g i e)) v;
  first = fresh-made s (λ g i. (line_of (tables_in t) I g i).first) (λ g i. (line_of (tables_in t) J g i).first) (pos 0) (elements (tables_in t)) (groups t) k.first (λ g i a b e. ap (λ (y : Line). y.first) (h g i e)) v;
  second = fresh-made s (λ g i. (line_of (tables_in t) I g i).second) (λ g i. (line_of (tables_in t) J g i).second) (pos 0) (elements (tables_in t)) (groups t) k.second (λ g i a b e. ap (λ (y : Line). y.second) (h g i e)) v;
}

module _ (t I J : List ℕ) (lo hi : ℕ) (s : SameOutside I J lo hi) where
  -- an element that has none of the bytes has the line that it had
  pub line-alone : (g i : ℕ) → touched (tables_in t) lo hi g i ≡ false → line_of (tables_in t) I g i ≡ line_of (tables_in t) J g i
  unfolding touched line_of raw_in
  line-alone g i e =
      let T = tables_in t in
      let a = apart lo hi (place_of T g i) (bytes T g) e in
      ap (λ (v : ℤ). line_with v (held (means (tables_in t) g v)))
      (reads-alone (first T g) (place_of T g i) (shape_of (kind T g)) (mask T g) I J s.long
      (λ j x y. s.else j (⊎_elim {C = (j < lo) ⊎ (hi ≤ j)} (λ h. inl (omega arith)) (λ h. inr (omega arith)) a)))

  -- "works out afresh every line that shares a byte .., whatever those lines held, and no other": so a list made anew from I becomes the one made anew from J
  pub writer-remade : (k : Kept) → refreshed (touched (tables_in t) lo hi) t J (remade t (with_image I k)) ≡ remade t (with_image J k)
  writer-remade = picked-remade (touched (tables_in t) lo hi) t I J line-alone

-- ---- the frame, for any choice of lines, any image and any list
module _ (s : ℕ → ℕ → Bool) (t J : List ℕ) (k : Kept) where
  -- a line that is not picked stays
  pub line_kept : (g i : ℕ) → g < groups t → i < elements (tables_in t) g → s g i ≡ false
      → line_at (refreshed s t J k) (sum_below g (elements (tables_in t)) + i) ≡ line_at k (sum_below g (elements (tables_in t)) + i)
  unfolding refreshed
  line_kept g i a b e = λ v. record {
    raw = fresh-else s (λ g i. (line_of (tables_in t) J g i).raw) (pos 0) (elements (tables_in t)) (groups t) k.raw g i a b e v;
    state = fresh-else s (λ g i. (line_of (tables_in t) J g i).state) 0 (elements (tables_in t)) (groups t) k.state g i a b e v;
    first = fresh-else s (λ g i. (line_of (tables_in t) J g i).first) (pos 0) (elements (tables_in t)) (groups t) k.first g i a b e v;
    second = fresh-else s (λ g i. (line_of (tables_in t) J g i).second) (pos 0) (elements (tables_in t)) (groups t) k.second g i a b e v;
  }

  -- "Room past the used entries is untouched"
  pub rest-kept : (j : ℕ) → sum_below (groups t) (elements (tables_in t)) ≤ j → line_at (refreshed s t J k) j ≡ line_at k j
  unfolding refreshed
  rest-kept j a = λ v. record {
    raw = fresh-past s (λ g i. (line_of (tables_in t) J g i).raw) (pos 0) (elements (tables_in t)) (groups t) k.raw j a v;
    state = fresh-past s (λ g i. (line_of (tables_in t) J g i).state) 0 (elements (tables_in t)) (groups t) k.state j a v;
    first = fresh-past s (λ g i. (line_of (tables_in t) J g i).first) (pos 0) (elements (tables_in t)) (groups t) k.first j a v;
    second = fresh-past s (λ g i. (line_of (tables_in t) J g i).second) (pos 0) (elements (tables_in t)) (groups t) k.second j a v;
  }

  -- as many lines as before, so that a writer may go on
  pub room-refreshed : sum_below (groups t) (elements (tables_in t)) ≤ room k → room (refreshed s t J k) ≡ room k
  unfolding refreshed
  room-refreshed h =
      let a = length-fresh s (λ g i. (line_of (tables_in t) J g i).raw) (pos 0) (elements (tables_in t)) (groups t) k.raw (omega arith) in
      let b = length-fresh s (λ g i. (line_of (tables_in t) J g i).state) 0 (elements (tables_in t)) (groups t) k.state (omega arith) in
      let c = length-fresh s (λ g i. (line_of (tables_in t) J g i).first) (pos 0) (elements (tables_in t)) (groups t) k.first (omega arith) in
      let d = length-fresh s (λ g i. (line_of (tables_in t) J g i).second) (pos 0) (elements (tables_in t)) (groups t) k.second (omega arith) in
      rw (a, b, c, d)

  pub image-refreshed : (refreshed s t J k).image ≡ J
  unfolding refreshed
  image-refreshed = refl

-- ---- two changes, of the bytes that s picks the lines of and of those of s': I is the image after the first, I' after the second alone, J after both
pub refreshed-swap : (t I I' J : List ℕ) (s s' : ℕ → ℕ → Bool) (k : Kept)
    → ((g i : ℕ) → s' g i ≡ false → line_of (tables_in t) I g i ≡ line_of (tables_in t) J g i) → ((g i : ℕ) → s g i ≡ false → line_of (tables_in t) I' g i ≡ line_of (tables_in t) J g i)
    → refreshed s' t J (refreshed s t I k) ≡ refreshed s t J (refreshed s' t I' k)
unfolding refreshed
refreshed-swap t I I' J s s' k h h' = λ v. record {
  image = J;
  raw = fresh-swap s s' (λ g i. (line_of (tables_in t) I g i).raw) (λ g i. (line_of (tables_in t) I' g i).raw) (λ g i. (line_of (tables_in t) J g i).raw) (pos 0) (elements (tables_in t)) (groups t) k.raw (λ g i e. ap (λ (y : Line). y.raw) (h g i e)) (λ g i e. ap (λ (y : Line). y.raw) (h' g i e)) v;
  state = fresh-swap s s' (λ g i. (line_of (tables_in t) I g i).state) (λ g i. (line_of (tables_in t) I' g i).state) (λ g i. (line_of (tables_in t) J g i).state) 0 (elements (tables_in t)) (groups t) k.state (λ g i e. ap (λ (y : Line). y.state) (h g i e)) (λ g i e. ap (λ (y : Line). y.state) (h' g i e)) v;
  first = fresh-swap s s' (λ g i. (line_of (tables_in t) I g i).first) (λ g i. (line_of (tables_in t) I' g i).first) (λ g i. (line_of (tables_in t) J g i).first) (pos 0) (elements (tables_in t)) (groups t) k.first (λ g i e. ap (λ (y : Line). y.first) (h g i e)) (λ g i e. ap (λ (y : Line). y.first) (h' g i e)) v;
  second = fresh-swap s s' (λ g i. (line_of (tables_in t) I g i).second) (λ g i. (line_of (tables_in t) I' g i).second) (λ g i. (line_of (tables_in t) J g i).second) (pos 0) (elements (tables_in t)) (groups t) k.second (λ g i e. ap (λ (y : Line). y.second) (h g i e)) (λ g i e. ap (λ (y : Line). y.second) (h' g i e)) v;
}

-- ---- making a list is the refresh that picks every line
abbrev all : ℕ → ℕ → Bool
all g i = true

module _ (t : List ℕ) (k : Kept) where
  all_made : refreshed all t k.image k ≡ remade t k
  all_made = refreshed-all t k all (λ g i. refl)

  pub past-made : (j : ℕ) → sum_below (groups t) (elements (tables_in t)) ≤ j → line_at (remade t k) j ≡ line_at k j
  past-made j a = subst (λ (c : Kept). line_at c j ≡ line_at k j) all_made (rest-kept all t k.image k j a)

  pub room-remade : sum_below (groups t) (elements (tables_in t)) ≤ room k → room (remade t k) ≡ room k
  room-remade h = subst (λ (c : Kept). room c ≡ room k) all_made (room-refreshed all t k.image k h)

  pub image-made : (remade t k).image ≡ k.image
  image-made = subst (λ (c : Kept). c.image ≡ k.image) all_made (image-refreshed all t k.image k)

-- a list made anew from an image is the list made anew over what is kept of it
pub remade-again : (t image : List ℕ) (k : Kept) → remade t (remade t (with_image image k)) ≡ remade t (with_image image k)
unfolding remade
remade-again t image k = sym (all_made t (remade t (with_image image k))) ∙ picked-remade all t image image (λ g i e. refl) k

-- ---- THE LAW AS A RUN USES IT: what is kept stays the list made anew over k's columns, whatever changed the bytes lo .. hi and no other
module _ (t : List ℕ) (k : Kept) where
  pub record Anew (c : Kept) : Type 0 where
    pub image : List ℕ
    pub long : length image ≡ length k.image
    pub anew : c ≡ remade t (with_image image k)

  pub start-anew : Anew (remade t k)
  start-anew = record { image = k.image; long = refl; anew = refl }

  pub writer-anew : (c : Kept) → Anew c → (J : List ℕ) (lo hi : ℕ) → SameOutside c.image J lo hi → Anew (refreshed (touched (tables_in t) lo hi) t J c)
  writer-anew c a J lo hi =
      subst (λ (y : Kept). SameOutside y.image J lo hi → Anew (refreshed (touched (tables_in t) lo hi) t J y)) (sym a.anew)
      (λ s. let o : SameOutside a.image J lo hi = subst (λ (y : List ℕ). SameOutside y J lo hi) (image-made t (with_image a.image k)) s in
      record { image = J; long = sym o.long ∙ a.long; anew = writer-remade t a.image J lo hi o k })
