-- A reading in the lent slices.
use Rattle.std.specs.Prelude.{Result, Ok, Err}
use mathlib.Core.Path.{◌≡◌, sym, ap, ◌∙◌}
use mathlib.Core.Bool.{Bool, true, false, ◌&&◌}
use mathlib.Core.List.{List, [], ◌∷◌}
use Prim.Native.Nat.{ℕ, ◌≤◌}
use native.Mathlib.Nat.{zero-add}
use native.Mathlib.Omega.{arith}
use borrow.Author.Rules.{rules}
use borrow.Author.Tests.{leb-true}
use lib.Dec.{leb}
use lib.Ieee.{Float, fin}
use lib.IntN.{ℤ, pos}
use lib.ListN.{length, set}
use lib.Seq.{sets, sets-eq}
use Rattle.number.specs.Answer.{Answer, given, refused}
use Rattle.convert.specs.Told.{told_shown}
use Rattle.convert.specs.declared.fraction.Physical.{Physical}
use Rattle.convert.specs.declared.fraction.Shown.{Shown}
use Rattle.convert.specs.declared.fraction.Shown.TheVariants as shown
use Rattle.look.specs.Calls.{Reading}
use Rattle.look.specs.Told.{told_reading, told_read}
use Rattle.look.specs.Refused.{refusal_number}
use Rattle.look.specs.declared.refusal.CallRefusal.{CallRefusal}
use Rattle.look.specs.declared.read.Reading as code
use Rattle.convert.proofs.Wholes.{left-true, right-true}
use Rattle.afresh.proofs.RefreshLaws.{put-past}
use Rattle.look.specs.Lines.{laid_over}
use Rattle.numbers.specs.Numbers.{kind_shown, number_shown, five_of, read_call, read_told}

-- ---- what is shown
module _ (s : Shown) where
  pub kind-real : (x : Float) → s ≡ shown.Real x → pos 1 ≡ kind_shown (told_shown s)
  kind-real x e = rw e

  pub kind-words : (a b : ℕ) → s ≡ shown.Words a b → pos 2 ≡ kind_shown (told_shown s)
  kind-words a b e = rw e

  pub kind-nothing : s ≡ shown.Nothing → pos 0 ≡ kind_shown (told_shown s)
  kind-nothing e = rw e

  pub number-words : (a b : ℕ) → s ≡ shown.Words a b → fin false 0 (pos 0) ≡ number_shown (told_shown s)
  number-words a b e = rw e

  pub number-nothing : s ≡ shown.Nothing → fin false 0 (pos 0) ≡ number_shown (told_shown s)
  number-nothing e = rw e

pub ruleset showns = (kind-real, kind-words, kind-nothing, number-words, number-nothing, rules)

pub ruleset puts = (put-past, rules)

-- ---- the stores, one after the other; each value as a call was given it
pub five-put : (l a b c d e : List ℤ) (r s f g k raw : ℤ) (p : Physical) (x : Shown) → a ≡ set l 0 r → r ≡ raw → b ≡ set a 1 s → s ≡ pos p.state
    → c ≡ set b 2 f → f ≡ p.first → d ≡ set c 3 g → g ≡ p.second → e ≡ set d 4 k → k ≡ kind_shown (told_shown x) → e ≡ sets l 0 (five_of raw p (told_shown x))
five-put l a b c d e r s f g k raw p x ha hr hb hs hc hf hd hg he hk = rw (he, hd, hc, hb, ha, hr, hs, hf, hg, hk)

pub one-put : (l a : List Float) (y : Float) (x : Shown) → a ≡ set l 0 y → y ≡ number_shown (told_shown x) → a ≡ sets l 0 (number_shown (told_shown x) ∷ [])
one-put l a y x h e = h ∙ rw e

-- stored from the front of a slice that has room
front-put : {A : Type 0} (vs l : List A) → length vs ≤ length l → sets l 0 vs ≡ laid_over vs l
unfolding laid_over
front-put vs l h = sets-eq vs l 0 (omega arith) ∙ rw zero-add

-- ---- a read
both_hold : (l : List ℤ) (m : List Float) → (leb 5 (length l) && leb 1 (length m)) ≡ true → (5 ≤ length l) × (1 ≤ length m)
both_hold l m h = (leb-true 5 (length l) (left-true (leb 5 (length l)) (leb 1 (length m)) h), leb-true 1 (length m) (right-true (leb 5 (length l)) (leb 1 (length m)) h))

module _ (a : Answer Reading) (l : List ℤ) (m : List Float) (b : Bool) (w : b ≡ (leb 5 (length l) && leb 1 (length m))) where
  pub read_short : b ≡ false → read_call 20 l m ≡ read_told a l m
  unfolding read_told
  read_short h = rw (← w, h)

  module _ (h : b ≡ true) (x : Result code.Reading CallRefusal) (e : told_read x ≡ a) where
    pub read-refused : (r : CallRefusal) (n : ℕ) → x ≡ Err r → n ≡ refusal_number r → read_call n l m ≡ read_told a l m
    unfolding read_told
    read-refused r n q k =
        let u : refused (refusal_number r) ≡ a = ap told_read (sym q) ∙ e in
        rw (← w, h, ← u, k)

    pub read-given : (l' : List ℤ) (m' : List Float) (b : code.Reading) (y : ℤ) → x ≡ Ok b → y ≡ b.raw
        → (l' ≡ sets l 0 (five_of y b.physical (told_shown b.shown))) × (m' ≡ sets m 0 (number_shown (told_shown b.shown) ∷ [])) → read_call 0 l' m' ≡ read_told a l m
    unfolding read_told
    read-given l' m' b y q r z =
        let u : given (told_reading b) ≡ a = ap told_read (sym q) ∙ e in
        let k : (5 ≤ length l) × (1 ≤ length m) = both_hold l m (sym w ∙ h) in
        let v : l' ≡ laid_over (five_of b.raw b.physical (told_shown b.shown)) l = z.0 ∙ rw r (front-put (five_of b.raw b.physical (told_shown b.shown)) l k.0) in
        let o : m' ≡ laid_over (number_shown (told_shown b.shown) ∷ []) m = z.1 ∙ front-put (number_shown (told_shown b.shown) ∷ []) m k.1 in
        rw (← w, h, ← u, v, o)

pub ruleset reads = (read_short, read-refused, read-given, rules)
