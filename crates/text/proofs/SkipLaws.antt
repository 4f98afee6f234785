-- Skipping, by the branches that the code takes.
use Prim.Native.Nat.{ℕ, zero, suc, ◌-◌, ◌≤◌, ◌<◌}
use mathlib.Core.Path.{◌≡◌, refl, sym, ◌∙◌, ap, subst}
use mathlib.Core.List.{List}
use mathlib.Core.Bool.{true, false}
use native.Mathlib.Omega.{arith}
use borrow.Author.Rules.{rules}
use lib.ListN.{length}
use Rattle.std.specs.Prelude.{Result, Ok, Err}
use Rattle.text.specs.Walk.{over}
use Rattle.text.specs.Answer.{Answer, given, refused, with, reached, told_item, tagged, skipped, Pass, past}
use Rattle.text.specs.Item.{next_item}
use Rattle.text.specs.Skip.{tag_at, closing, after_item, is_a2ml, a2ml_item, a2ml_end, block_piece, block_item, block_end, block_in, skip_block, skip_item}
use Rattle.text.specs.declared.cursor.Cursor.{Cursor}
use Rattle.text.specs.declared.cursor.Refusal.{Refusal}
use Rattle.text.specs.declared.cursor.Item.{Item}
use Rattle.text.specs.declared.cursor.Item.TheVariants as item
use Rattle.text.specs.declared.cursor.Tag.{Tag}
use Rattle.text.specs.declared.cursor.Passed.{Passed}
use Rattle.text.specs.declared.cursor.Passed.TheVariants as passed
use Rattle.text.proofs.Walks.{Same, start, onto, stops, ends}
use Rattle.text.proofs.ByteLaws.{via}
use Rattle.text.proofs.SkipWithin.{Passes, a2ml-item-within, skip-item-within}

-- A walk over items, each of which `items` passes; r is what passing one gave at i, by its cases v.
abbrev pub InItems : List ℕ → (ℕ → Answer ℕ) → (ℕ → Answer Pass) → ℕ → ℕ → Type 0
InItems s close items at i = Same (Answer ℕ) (length s) (λ j. after_item close (items j)) (λ j. refused 3 (length s)) at i

module _ (s : List ℕ) (close : ℕ → Answer ℕ) (items : ℕ → Answer Pass) (i : ℕ) (within : Passes (length s) i (items i)) (r : Result Passed Refusal) (p : skipped r ≡ items i) where
  item-is : (v : Result Passed Refusal) → r ≡ v → after_item close (items i) ≡ after_item close (skipped v)
  item-is v y = ap (after_item close) (sym p ∙ ap skipped y)

  further : (v : Passed) (c : Cursor) → r ≡ Ok v → v ≡ passed.Past c → i < c.at
  further v c y z = (subst (Passes (length s) i) (sym p ∙ ap skipped (y ∙ ap Ok z)) within).0

  module _ (at : ℕ) (q : InItems s close items at i) (h : i < length s) where
    items-on : (v : Passed) (c : Cursor) → r ≡ Ok v → v ≡ passed.Past c → InItems s close items at c.at
    items-on v c y z = onto q h (item-is (Ok (passed.Past c)) (y ∙ ap Ok z)) (further v c y z)

    items-closed : (v : Passed) (c : Cursor) → r ≡ Ok v → v ≡ passed.Closes c → close c.at ≡ over (length s) (λ j. after_item close (items j)) (λ j. refused 3 (length s)) at
    items-closed v c y z = stops q h (item-is (Ok (passed.Closes c)) (y ∙ ap Ok z))

    items_refused : (e : Refusal) → r ≡ Err e → refused e.no e.place ≡ over (length s) (λ j. after_item close (items j)) (λ j. refused 3 (length s)) at
    items_refused e y = stops q h (item-is (Err e) y)

-- r is what `a2ml_item` gave at i
module _ (s : List ℕ) (i : ℕ) (r : Result Passed Refusal) (p : skipped r ≡ a2ml_item s i) (h : i < length s) where
  pub in-a2ml-less : (v : Passed) (c : Cursor) → r ≡ Ok v → v ≡ passed.Past c → length s - c.at < length s - i
  in-a2ml-less v c y z = omega (arith, further s given (a2ml_item s) i (a2ml-item-within s i (omega arith)) r p v c y z)

  module _ (at : ℕ) (q : InItems s given (a2ml_item s) at i) where
    pub in-a2ml-on : (v : Passed) (c : Cursor) → r ≡ Ok v → v ≡ passed.Past c → InItems s given (a2ml_item s) at c.at
    in-a2ml-on v c y z = items-on s given (a2ml_item s) i (a2ml-item-within s i (omega arith)) r p at q h v c y z

    pub in-a2ml-closed : (v : Passed) (c : Cursor) → r ≡ Ok v → v ≡ passed.Closes c → given c.at ≡ a2ml_end s at
    unfolding a2ml_end
    in-a2ml-closed v c y z = items-closed s given (a2ml_item s) i (a2ml-item-within s i (omega arith)) r p at q h v c y z

    pub in-a2ml-refused : (e : Refusal) → r ≡ Err e → refused e.no e.place ≡ a2ml_end s at
    unfolding a2ml_end
    in-a2ml-refused e y = items_refused s given (a2ml_item s) i (a2ml-item-within s i (omega arith)) r p at q h e y

pub in-a2ml-last : (s : List ℕ) (at i : ℕ) → InItems s given (a2ml_item s) at i → length s ≤ i → refused 3 (length s) ≡ a2ml_end s at
unfolding a2ml_end
in-a2ml-last s at i q h = ends q h

pub ruleset in-a2ml = (start, in-a2ml-less, in-a2ml-on, in-a2ml-closed, in-a2ml-refused, in-a2ml-last, rules)

in-none : (d : ℕ) (s : List ℕ) (a e : ℕ) → d ≡ 0 → block_in d s a e ≡ refused 3 a
unfolding block_in
in-none zero s a e h = refl
in-none (suc d) s a e h = absurd (omega arith)

in-less : (d : ℕ) (s : List ℕ) (a e : ℕ) → (d ≡ 0 → ⊥) → block_in d s a e ≡ with (tag_at 5 s e) (λ tag. skip_block (d - 1) s tag.0 tag.1)
unfolding block_in skip_block
in-less zero s a e h = absurd (h refl)
in-less (suc d) s a e h = let p : d ≡ suc d - 1 = omega arith in ap (λ (n : ℕ). with (tag_at 5 s e) (λ tag. block_end (block_in n s) s tag.0 tag.1)) p

-- r is what `item` gave in a block with d levels left: an item i, a `/begin`
module _ (d : ℕ) (s : List ℕ) (k : ℕ) (r : Result Item Refusal) (p : told_item r ≡ next_item s k) (i : Item) (y : r ≡ Ok i) (a : ℕ) (c : Cursor) (z : i ≡ item.Begin a c) where
  begins : with (block_in d s a c.at) (λ j. given (past j)) ≡ skip_item d s k
  unfolding skip_item block_item
  begins = ap (λ x. with x (block_piece (block_in d s))) (sym (ap told_item (y ∙ ap Ok z)) ∙ p)

  pub skip-deep : d ≡ 0 → refused 3 a ≡ skip_item d s k
  skip-deep h = rw (in-none d s a c.at h) at begins

  -- g is what `tag` gave
  module _ (h : d ≡ 0 → ⊥) (g : Result Tag Refusal) (t : tagged g ≡ tag_at 5 s c.at) where
    held : (v : Result Tag Refusal) → g ≡ v → with (with (tagged v) (λ tag. skip_block (d - 1) s tag.0 tag.1)) (λ j. given (past j)) ≡ skip_item d s k
    held v x = ap (λ w. with (with w (λ tag. skip_block (d - 1) s tag.0 tag.1)) (λ j. given (past j))) (sym (ap tagged x) ∙ t) ∙ rw (in-less d s a c.at h) at begins

    pub skip-untagged : (e : Refusal) → g ≡ Err e → refused e.no e.place ≡ skip_item d s k
    skip-untagged e = held (Err e)

    -- b is what `skip_block` gave
    module _ (f : Tag) (x : g ≡ Ok f) (b : Result Cursor Refusal) (q : reached b ≡ skip_block (d - 1) s f.start f.next.at) where
      pub skip-inner : (u : Cursor) → b ≡ Ok u → given (past u.at) ≡ skip_item d s k
      skip-inner u w = ap (λ u. with u (λ j. given (past j))) (sym (ap reached w) ∙ q) ∙ held (Ok f) x

      pub skip-inner-refused : (e : Refusal) → b ≡ Err e → refused e.no e.place ≡ skip_item d s k
      skip-inner-refused e w = ap (λ u. with u (λ j. given (past j))) (sym (ap reached w) ∙ q) ∙ held (Ok f) x

abbrev pub InBlock : ℕ → List ℕ → ℕ → ℕ → ℕ → Type 0
InBlock d s f t i = InItems s (closing s f t) (skip_item d s) t i

module _ (d : ℕ) (s : List ℕ) (f t : ℕ) where
  pub block-a2ml : (r : Result Cursor Refusal) → is_a2ml s f t ≡ true → reached r ≡ a2ml_end s t → reached r ≡ skip_block d s f t
  unfolding skip_block block_end
  block-a2ml r a p = rw (a, p)

  module _ (a : is_a2ml s f t ≡ false) where
    block-over : over (length s) (λ j. after_item (closing s f t) (skip_item d s j)) (λ j. refused 3 (length s)) t ≡ skip_block d s f t
    unfolding skip_block block_end skip_item
    block-over = rw a

    pub block_last : (i : ℕ) → InBlock d s f t i → length s ≤ i → refused 3 (length s) ≡ skip_block d s f t
    block_last i q h = ends q h ∙ block-over

    -- r is what `skip_item` gave at i
    module _ (i : ℕ) (q : InBlock d s f t i) (h : i < length s) (r : Result Passed Refusal) (p : skipped r ≡ skip_item d s i) where
      pub block_on : (v : Passed) (c : Cursor) → r ≡ Ok v → v ≡ passed.Past c → InBlock d s f t c.at
      block_on v c y z = items-on s (closing s f t) (skip_item d s) i (skip-item-within d s i (omega arith)) r p t q h v c y z

      pub block_closed : (v : Passed) (c : Cursor) (x : Result Cursor Refusal) → r ≡ Ok v → v ≡ passed.Closes c → reached x ≡ closing s f t c.at → reached x ≡ skip_block d s f t
      block_closed v c x y z w = w ∙ items-closed s (closing s f t) (skip_item d s) i (skip-item-within d s i (omega arith)) r p t q h v c y z ∙ block-over

      pub block_refused : (e : Refusal) → r ≡ Err e → refused e.no e.place ≡ skip_block d s f t
      block_refused e y = items_refused s (closing s f t) (skip_item d s) i (skip-item-within d s i (omega arith)) r p t q h e y ∙ block-over

pub block-less : (d : ℕ) (s : List ℕ) (i : ℕ) (r : Result Passed Refusal) (v : Passed) (c : Cursor) → i < length s → skipped r ≡ skip_item d s i → r ≡ Ok v → v ≡ passed.Past c → length s - c.at < length s - i
block-less d s i r v c h p y z = omega (arith, further s given (skip_item d s) i (skip-item-within d s i (omega arith)) r p v c y z)

pub ruleset blocks = (start, block-a2ml, block_last, block_on, block_closed, block_refused, block-less, via, rules)
