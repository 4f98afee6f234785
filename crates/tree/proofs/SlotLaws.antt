-- What holds of the slots of one section in every description that was read, by tests of the rows that antt computes.
--     read-filled    slot n of every record is 1 or more
--     read-paired    where slot m is 1 or more, so is slot n
--     ButLast        what every record has by the end of its block: the last one may lack it while its block is open
--     read-needed    the keyword that a block needs under a choice was there
use Prim.Native.Nat.{ℕ, suc, ◌-◌, ◌≤◌, ◌<◌}
use mathlib.Core.Path.{◌≡◌, refl, sym, ◌∙◌}
use mathlib.Core.List.{List, [], ◌∷◌}
use mathlib.Core.Bool.{Bool, true, false, cond, not, ◌&&◌, ◌||◌, false≢true}
use mathlib.Core.Logic.{◌⊎◌, inl, inr}
use native.Mathlib.Omega.{arith}
use borrow.Author.Tests.{eqb-true, not-true}
use lib.Dec.{eqb}
use Rattle.text.specs.Answer.{given}
use Rattle.text.proofs.Within.{and_left, and_right, or_case}
use Rattle.records.specs.Records.{width_of, count, slot}
use Rattle.rows.specs.Codes.{FILE}
use Rattle.rows.specs.Sections.{sections, method, entry, object, axis}
use Rattle.rows.specs.Row.{opening, Row, need}
use Rattle.rows.specs.Rows.{rows, needed}
use Rattle.grammar.specs.Keyword.{holder_of}
use Rattle.grammar.specs.Read.{start, read}
use Rattle.facts.proofs.Slots.{start-slot}
use Rattle.facts.proofs.Tests.{every}
use Rattle.tree.specs.Tree.{Records, Among, current, Met}
use Rattle.tree.proofs.Shapes.{every-among}
use Rattle.tree.proofs.InSection.{grows, leaves, fills, fits, Turned, turned, by_last}
use Rattle.tree.proofs.Along.{is_loose, Step, read-along}

-- a section that is empty at the start; its parameters are of the forms whose effect is known
pub record Usual (j : ℕ) : Type 0 where
  pub apart : eqb entry j ≡ false
  pub forms : every (fits j) rows ≡ true
  pub none : count start j ≡ 0

pub methods : Usual method
unfolding rows sections start
methods = record { apart = refl; forms = refl; none = refl }

pub objects : Usual object
unfolding rows sections start
objects = record { apart = refl; forms = refl; none = refl }

pub axes : Usual axis
unfolding rows sections start
axes = record { apart = refl; forms = refl; none = refl }

pub step-turned : (x : List ℕ) (j : ℕ) → Usual j → (b c : ℕ) (r : Row) (k : ℕ) (d : Records) (k' : ℕ) (d' : Records) → Step x b c r k d k' d' → Turned j r d d'
step-turned x j o b c r k d k' d' s = turned x s.home c r k d k' d' s.stands s.lies s.good j o.apart (every-among (fits j) rows o.forms r s.stands.listed)

-- ---- a slot of every record

abbrev pub filled_test : ℕ → ℕ → Row → Bool
filled_test j n r = not (grows j r) && leaves j r n || fills j r n

abbrev pub Filled : ℕ → ℕ → Records → Type 0
Filled j n d = (i : ℕ) → i < count d j → 1 ≤ slot d j i n

module _ (j n : ℕ) (w : n < width_of sections j) where
  filled-step : (r : Row) (d d' : Records) → Turned j r d d' → filled_test j n r ≡ true → Filled j n d → Filled j n d'
  filled-step r d d' u t h i = by_last d' j (λ (m : ℕ). m < count d' j → 1 ≤ slot d' j m n) i
      (λ e l. last e (or_case (not (grows j r) && leaves j r n) (fills j r n) t)) (λ e l. rw (u.same i n (λ p. absurd (e p))) (h i (omega (arith, u.few, e)))) where
        last : suc i ≡ count d' j → ((not (grows j r) && leaves j r n) ≡ true) ⊎ (fills j r n ≡ true) → 1 ≤ slot d' j i n
        last e (inl v) =
            rw (u.same i n (λ p. and_right (not (grows j r)) (leaves j r n) v)) (h i (omega (arith, u.still (not-true (grows j r) (and_left (not (grows j r)) (leaves j r n) v)))))
        last e (inr v) = u.filled i n e w v

  pub read-filled : (x : List ℕ) → Usual j → every (filled_test j n) rows ≡ true → (d : Records) → read x ≡ given d → Filled j n d
  read-filled x o t =
      read-along x (λ b. Filled j n) (λ b c r k d k' d' s. filled-step r d d' (step-turned x j o b c r k d k' d' s) (every-among (filled_test j n) rows t r s.stands.listed)) (λ b d m h. h)
      (λ i l. absurd (omega (arith, o.none)))

-- ---- a slot where another is written

abbrev pub paired_test : ℕ → ℕ → ℕ → Row → Bool
paired_test j m n r = leaves j r m && leaves j r n || fills j r n

abbrev pub Paired : ℕ → ℕ → ℕ → Records → Type 0
Paired j m n d = (i : ℕ) → 1 ≤ slot d j i m → 1 ≤ slot d j i n

module _ (j m n : ℕ) (w : n < width_of sections j) where
  paired-step : (r : Row) (d d' : Records) → Turned j r d d' → paired_test j m n r ≡ true → Paired j m n d → Paired j m n d'
  paired-step r d d' u t h i = by_last d' j (λ (a : ℕ). 1 ≤ slot d' j a m → 1 ≤ slot d' j a n) i
      (λ e. last e (or_case (leaves j r m && leaves j r n) (fills j r n) t)) (λ e. rw (u.same i m (λ p. absurd (e p)), u.same i n (λ p. absurd (e p))) (h i)) where
        last : suc i ≡ count d' j → ((leaves j r m && leaves j r n) ≡ true) ⊎ (fills j r n ≡ true) → 1 ≤ slot d' j i m → 1 ≤ slot d' j i n
        last e (inl v) = rw (u.same i m (λ p. and_left (leaves j r m) (leaves j r n) v), u.same i n (λ p. and_right (leaves j r m) (leaves j r n) v)) (h i)
        last e (inr v) = λ q. u.filled i n e w v

  pub read-paired : (x : List ℕ) → Usual j → every (paired_test j m n) rows ≡ true → (d : Records) → read x ≡ given d → Paired j m n d
  read-paired x o t =
      read-along x (λ b. Paired j m n) (λ b c r k d k' d' s. paired-step r d d' (step-turned x j o b c r k d k' d' s) (every-among (paired_test j m n) rows t r s.stands.listed)) (λ b d m h. h)
      (λ i l. absurd (omega (arith, start-slot j i m)))

-- ---- what a record has by the end of its block

-- inside the blocks In the last record of section j may lack it
abbrev pub ButLast : (ℕ → Bool) → ℕ → (Records → ℕ → Type 0) → ℕ → Records → Type 0
ButLast In j W b d = (i : ℕ) → (In b ≡ true → suc i ≡ count d j → ⊥) → W d i

-- the last record stays the last, and stays in such a block
abbrev pub inside_test : (ℕ → Bool) → ℕ → Row → Bool
inside_test In j r = cond (eqb r.opens opening) (not (In r.parent) || In r.word && not (grows j r)) (not (grows j r))

-- the slots ns stay, or the row stands in such a block
abbrev pub alike_test : (ℕ → Bool) → ℕ → List ℕ → Row → Bool
alike_test In j ns r = every (leaves j r) ns || cond (eqb r.opens opening) (In r.word) (In r.parent && not (is_loose r.parent))

module _ (x : List ℕ) (In : ℕ → Bool) (j : ℕ) (o : Usual j) (W : Records → ℕ → Type 0) where
  module _ (b c : ℕ) (r : Row) (k : ℕ) (d : Records) (k' : ℕ) (d' : Records) (s : Step x b c r k d k' d') where
    u : Turned j r d d'
    u = step-turned x j o b c r k d k' d' s

    inside : inside_test In j r ≡ true → In b ≡ true → (In c ≡ true) × (grows j r ≡ false)
    inside t h = by-opens (eqb r.opens opening) refl where
      by-opens : (v : Bool) → eqb r.opens opening ≡ v → (In c ≡ true) × (grows j r ≡ false)
      by-opens true v =
          let e = s.enters v in
          let a : (In r.word && not (grows j r)) ≡ true = rw (v, e.0, h) at t in
          (rw e.1 (and_left (In r.word) (not (grows j r)) a), not-true (grows j r) (and_right (In r.word) (not (grows j r)) a))
      by-opens false v = (rw (s.stays v) h, not-true (grows j r) (rw v at t))

    -- where it does not take it from a record that has it
    pub last_step : inside_test In j r ≡ true → ((i : ℕ) → (In c ≡ true → suc i ≡ count d' j → ⊥) → W d i → W d' i) → ButLast In j W b d → ButLast In j W c d'
    last_step t a h i q = a i q (h i (λ v e. q (inside t v).0 (e ∙ sym (u.still (inside t v).1))))

    -- where it is a matter of the slots ns
    pub last-alike : (ns : List ℕ) → ((i : ℕ) → ((n : ℕ) → Among n ns → slot d' j i n ≡ slot d j i n) → W d i → W d' i) → inside_test In j r ≡ true → alike_test In j ns r ≡ true
        → ButLast In j W b d → ButLast In j W c d'
    last-alike ns a t v = last_step t (λ i q. a i (λ n m. u.same i n (λ e. by-case n m i q e (or_case (every (leaves j r) ns) _ v)))) where
      -- it stands in such a block
      stands : (z : Bool) → eqb r.opens opening ≡ z → cond z (In r.word) (In r.parent && not (is_loose r.parent)) ≡ true → In c ≡ true
      stands true e f = rw (s.enters e).1 f
      stands false e f =
          let p : r.parent ≡ b = s.own (not-true (is_loose r.parent) (and_right (In r.parent) (not (is_loose r.parent)) f)) in
          rw (s.stays e, ← p) (and_left (In r.parent) (not (is_loose r.parent)) f)

      by-case : (n : ℕ) → Among n ns → (i : ℕ) → (In c ≡ true → suc i ≡ count d' j → ⊥) → suc i ≡ count d' j
          → (every (leaves j r) ns ≡ true) ⊎ (cond (eqb r.opens opening) (In r.word) (In r.parent && not (is_loose r.parent)) ≡ true) → leaves j r n ≡ true
      by-case n m i q e (inl f) = every-among (leaves j r) ns f n m
      by-case n m i q e (inr f) = absurd (q (stands (eqb r.opens opening) refl f) e)

-- the end of the block b, which stands in the block c
pub last_end : (In : ℕ → Bool) (j : ℕ) (W : Records → ℕ → Type 0) (b c : ℕ) (d : Records) → (In b ≡ true → In c ≡ false → (i : ℕ) → suc i ≡ count d j → W d i)
    → ButLast In j W b d → ButLast In j W c d
last_end In j W b c d a h i q = turn (In b) (In c) refl refl where
  turn : (t u : Bool) → In b ≡ t → In c ≡ u → W d i
  turn false u e f = h i (λ v. absurd (false≢true (sym e ∙ v)))
  turn true true e f = h i (λ v. q f)
  turn true false e f = by_last d j (W d) i (a e f i) (λ z. h i (λ v. z))

-- ---- a keyword that the block B needs where slot w holds the choice c; slot n counts it

abbrev pub needed_test : ℕ → ℕ → ℕ → ℕ → Row → Bool
needed_test B j w n r = inside_test (λ b. eqb b B) j r && alike_test (λ b. eqb b B) j (w ∷ n ∷ []) r

module _ (B j w c n : ℕ) where
  abbrev Seen : Records → ℕ → Type 0
  Seen d i = slot d j i w ≡ c → 1 ≤ slot d j i n

  seen-met : Among (need B j w c n 1) needed → (d : Records) → Met d B → (i : ℕ) → suc i ≡ count d j → Seen d i
  seen-met a d m i e h =
      let z : i ≡ count d j - 1 = omega arith in
      let u : current d j w ≡ c = rw z at h in
      rw z (m (need B j w c n 1) a refl (inr (omega arith, omega arith)))

  pub read-needed : (x : List ℕ) → Usual j → Among (need B j w c n 1) needed → every (needed_test B j w n) rows ≡ true → eqb FILE B ≡ false → 1 ≤ c
      → (d : Records) → read x ≡ given d → (i : ℕ) → slot d j i w ≡ c → 1 ≤ slot d j i n
  read-needed x o a t f l d r i =
      read-along x (ButLast (λ b. eqb b B) j Seen) step
      (λ b e m. last_end (λ b. eqb b B) j Seen b (holder_of b) e (λ p q. seen-met a e (rw (eqb-true b B p) at m)))
      (λ i p q. absurd (omega (arith, start-slot j i w))) d r i (λ p. absurd (false≢true (sym f ∙ p))) where
        step : (b c : ℕ) (r : Row) (k : ℕ) (d : Records) (k' : ℕ) (d' : Records) → Step x b c r k d k' d' → ButLast (λ b. eqb b B) j Seen b d → ButLast (λ b. eqb b B) j Seen c d'
        step b c r k d k' d' s =
            let v : needed_test B j w n r ≡ true = every-among (needed_test B j w n) rows t r s.stands.listed in
            last-alike x (λ b. eqb b B) j o Seen b c r k d k' d' s (w ∷ n ∷ []) (λ i e h. rw (e w (inl refl), e n (inr (inl refl))) h)
            (and_left (inside_test (λ b. eqb b B) j r) (alike_test (λ b. eqb b B) j (w ∷ n ∷ []) r) v) (and_right (inside_test (λ b. eqb b B) j r) (alike_test (λ b. eqb b B) j (w ∷ n ∷ []) r) v)
