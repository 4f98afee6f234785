-- `verbal::text::text_of` meets its contract. The loop's invariant: what is left of the entries gives the text that the whole table gives. Assumes nothing.
use mathlib.Core.Path.{◌≡◌}
use Prim.Native.Nat.{◌+◌, ◌-◌}
use Rattle.convert.specs.Verbal.{text_of, default_of, place_in, entries_from, verbal_of}
use Rattle.records.specs.Cells.{slot_in}
use Rattle.verbal.proofs.text.text_of.Given as goal

abbrev pub invariant-loop-e : goal.invariant-loop-e
invariant-loop-e l =
    text_of (entries_from (slot_in l.t l.c) l.e (l.from + l.count - l.e)) (default_of (place_in l.first) (place_in l.past)) l.raw ≡ verbal_of (slot_in l.t l.c) l.from l.count l.first l.past l.raw
