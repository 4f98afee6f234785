-- Reading on the cells of some records is reading on the records.
use Prim.Native.Nat.{ℕ, zero, suc, ◌+◌, ◌-◌, ◌≤◌}
use mathlib.Core.Path.{◌≡◌, refl}
use mathlib.Core.List.{List, [], ◌∷◌}
use lib.ListN.{length, replicate}
use Rattle.text.specs.Answer.{Answer, given}
use Rattle.text.specs.Answer as text
use Rattle.records.specs.Records.{count, put, add, empty}
use Rattle.records.specs.Cells.{room, encode, section_in}
use Rattle.records.proofs.Encode.{Good, count-encode, slot-encode, put-encode, add-encode, good-put, good-add, none-good, none-encode}
use Rattle.rows.specs.Codes.{FILE}
use Rattle.rows.specs.Sections.{sections, file}
use Rattle.grammar.specs.Move.{view, view_in, state, items, values, puts, puts_in, added, applied, applied_in, Move, went, over, refused}
use Rattle.grammar.specs.Read.{move, following, read_from, start, read}
use Rattle.grammar.specs.Out.{Out, accepted, following_in, read_from_in, read_in}
use Rattle.grammar.specs.declared.state.State.{State}
use Rattle.grammar.specs.declared.state.Act.{Act}

module _ (n : ℕ) where
  -- what can be asked of the cells is what can be asked of the records
  pub view-encode : (d : List (List (List ℕ))) → Good sections d → view_in (encode sections n d) ≡ view d
  view-encode d g i = record { counts = λ j. count-encode sections n d g j i; slots = λ j a k. slot-encode sections n d g j a k i }

  puts-encode : (d : List (List (List ℕ))) → Good sections d → (j i k : ℕ) (vs : List ℕ) → puts_in (encode sections n d) (section_in sections j) i k vs ≡ encode sections n (puts d j i k vs)
  puts-encode d g j i k [] = refl
  puts-encode d g j i k (v ∷ vs) = rw (put-encode sections n d g j i k v) (puts-encode (put d j i k v) (good-put sections n d g j i k v) j i (suc k) vs)

good-puts : (d : List (List (List ℕ))) → Good sections d → (j i k : ℕ) (vs : List ℕ) → Good sections (puts d j i k vs)
good-puts d g j i k [] = g
good-puts d g j i k (v ∷ vs) = good-puts (put d j i k v) (good-put sections 0 d g j i k v) j i (suc k) vs

module _ (n : ℕ) (a : Act) (d : List (List (List ℕ))) (g : Good sections d) where
  added-good : Good sections (added a d)
  added-good = good-add sections n d g a.adds

  pub good-applied : Good sections (applied a d)
  unfolding applied
  good-applied = good-puts (added a d) added-good a.sec (count (added a d) a.sec - 1) a.slot (values a)

  applied-encode : applied_in a (encode sections n d) ≡ encode sections n (applied a d)
  unfolding applied applied_in
  applied-encode = rw (add-encode sections n d g a.adds, count-encode sections n (added a d) added-good a.sec) (puts-encode n (added a d) added-good a.sec (count (added a d) a.sec - 1) a.slot (values a))

-- the cells that are left by what is read
abbrev pub CellsOf : ℕ → Answer (List (List (List ℕ))) → Out → Type 0
CellsOf n (given d) o = o ≡ accepted (encode sections n d)
CellsOf n (text.refused k p) o = o.answer ≡ text.refused k p

module _ (n : ℕ) (x : List ℕ) where
  step-encode : (f : ℕ) → ((k : ℕ) (s : State) (d : List (List (List ℕ))) → Good sections d → CellsOf n (read_from f x k s d) (read_from_in f x k s (encode sections n d)))
      → (d : List (List (List ℕ))) → Good sections d → (m : Move) → CellsOf n (following m d (read_from f x)) (following_in m (encode sections n d) (read_from_in f x))
  step-encode f ih d g (went e s a) = rw (applied-encode n a d g) (ih e s (applied a d) (good-applied n a d g))
  step-encode f ih d g over = refl
  step-encode f ih d g (refused k p) = refl

  -- at most f tokens
  from-encode : (f k : ℕ) (s : State) (d : List (List (List ℕ))) → Good sections d → CellsOf n (read_from f x k s d) (read_from_in f x k s (encode sections n d))
  unfolding read_from read_from_in
  from-encode zero k s d g = refl
  from-encode (suc f) k s d g = rw (view-encode n d g) (step-encode f (from-encode f) d g (move x (view d) s k))

  -- from cells of zeros
  pub read-encode : room sections ≤ n → CellsOf n (read x) (read_in x (replicate n 0))
  unfolding read read_in start
  read-encode h =
      let g : Good sections (empty sections) = none-good sections in
      rw (none-encode sections n h, add-encode sections n (empty sections) g file)
      (from-encode (length x + 1) 0 (state items FILE 0 0) (add sections (empty sections) file) (good-add sections n (empty sections) g file))
