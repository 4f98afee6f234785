-- What a description was read into: records that are good, in cells.
use Prim.Native.Nat.{ℕ, zero, suc, ◌+◌, ◌≤◌}
use mathlib.Core.Path.{◌≡◌, sym, ◌∙◌, ap, subst}
use mathlib.Core.List.{List}
use native.Mathlib.Omega.{arith}
use lib.ListN.{length, replicate, length-replicate}
use Rattle.text.specs.Answer.{given, refused}
use Rattle.records.specs.Records.{empty, add}
use Rattle.records.specs.Cells.{room, encode}
use Rattle.records.proofs.Encode.{Good, none-good, good-add}
use Rattle.rows.specs.Codes.{FILE}
use Rattle.rows.specs.Sections.{sections, file}
use Rattle.grammar.specs.Move.{view, state, items, applied, Move, went, over}
use Rattle.grammar.specs.Move as step
use Rattle.grammar.specs.Out.{Out, read_in}
use Rattle.grammar.specs.Read.{move, following, read_from, start, read}
use Rattle.grammar.specs.declared.state.State.{State}
use Rattle.grammar.proofs.Cells.{CellsOf, good-applied, read-encode}
use Rattle.grammar.proofs.ReadLaws.{read-long}

-- a refusal is nothing that was read
pub never : {A : Type 0} (k p : ℕ) (a : A) → refused k p ≡ given a → ⊥
never k p a e = let w : ◌≡◌ {A = ℕ} 0 1 = cc in omega arith

same : (d e : List (List (List ℕ))) → given d ≡ given e → d ≡ e
same d e p = cc

module _ (x : List ℕ) (e : List (List (List ℕ))) where
  good-step : (f : ℕ) → ((k : ℕ) (s : State) (d : List (List (List ℕ))) → Good sections d → read_from f x k s d ≡ given e → Good sections e)
      → (d : List (List (List ℕ))) → Good sections d → (m : Move) → following m d (read_from f x) ≡ given e → Good sections e
  good-step f ih d g (went k s a) p = ih k s (applied a d) (good-applied 0 a d g) p
  good-step f ih d g over p = subst (λ (l : List (List (List ℕ))). Good sections l) (same d e p) g
  good-step f ih d g (step.refused k n) p = absurd (never k n e p)

  good-from : (f k : ℕ) (s : State) (d : List (List (List ℕ))) → Good sections d → read_from f x k s d ≡ given e → Good sections e
  unfolding read_from
  good-from zero k s d g p = absurd (never 3 (length x) e p)
  good-from (suc f) k s d g p = good-step f (good-from f) d g (move x (view d) s k) p

  pub read-good : read x ≡ given e → Good sections e
  unfolding read start
  read-good p = good-from (length x + 1) 0 (state items FILE 0 0) (add sections (empty sections) file) (good-add sections 0 (empty sections) (none-good sections) file) p

  -- the records take all the cells
  pub length-read : (n : ℕ) → room sections ≤ n → read x ≡ given e → length (encode sections n e) ≡ n
  length-read n h p =
      let c : CellsOf n (given e) (read_in x (replicate n 0)) = rw p at (read-encode n x h) in
      sym (ap (λ (o : Out). length o.cells) c) ∙ read-long x (replicate n 0) ∙ length-replicate n 0
