-- THE FIRST DEMAND, for C callers: the number of `obarsivel_load` tells the answer, with no premise.
--     load-tellable        a load's refusal has a number from 1 to 63 and a place below 2^32
--     load-number-tells    what the header reads out of the number is the answer
use Prim.Native.Nat.{ℕ, ◌^◌, ◌≤◌}
use mathlib.Core.Path.{◌≡◌}
use mathlib.Core.List.{List}
use mathlib.Core.Bool.{◌&&◌}
use native.Mathlib.Omega.{arith}
use lib.Dec.{leb}
use lib.ListN.{length}
use Rattle.text.specs.Answer.{Answer, given, refused}
use Rattle.text.proofs.Within.{by-test}
use Rattle.records.specs.Cells.{room}
use Rattle.rows.specs.Sections as records
use Rattle.convert.specs.Edition.{is_edition}
use Rattle.tables.specs.declared.setting.Setting.{Setting}
use Rattle.tables.specs.Sizes.{sizes_fit}
use Rattle.load.specs.Load.{described, Loaded, left, loaded}
use Rattle.numbers.specs.Numbers.{load_number}
use Rattle.numbers.specs.Back.{load_back, Tellable}
use Rattle.numbers.proofs.BackLaws.{load-number-back}
use Rattle.refusals.proofs.Moves.{Answered}
use Rattle.refusals.proofs.Refusing.{described-told}
use Rattle.demands.proofs.Accepting.{enough-fits}

module _ (x image : List ℕ) (setting : Setting) (tables work : List ℕ) where
  left-tellable : length x ≤ 2 ^ 24 → (a : Answer (List (List (List ℕ)))) → Answered (length x) a → Tellable (left (length tables) (length work) a).answer
  left-tellable l (given D) h = tt
  left-tellable l (refused n p) h = omega (arith, h.0.0, h.0.1, h.1)

  pub load-tellable : Tellable (loaded x image setting tables work).answer
  unfolding loaded
  load-tellable =
      by-test (λ (o : Loaded). Tellable o.answer) (sizes_fit (length x) (length image) setting.base (length tables) && leb (room records.sections) (length work))
      (λ t. by-test (λ (o : Loaded). Tellable o.answer) (is_edition setting.edition)
      (λ v. left-tellable (enough-fits x image setting tables work t v).text_fits (described image setting x) (described-told image setting x)) (λ v. omega arith)) (λ t. omega arith)

  pub load-number-tells : load_back (load_number (loaded x image setting tables work).answer) ≡ (loaded x image setting tables work).answer
  load-number-tells = load-number-back (loaded x image setting tables work).answer load-tellable
