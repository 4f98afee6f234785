-- `look::element::text_at` meets its contract. Assumes nothing.
use native.Mathlib.Omega.{arith}
use Rattle.cell.proofs.Signed.{returned}
use Rattle.look.proofs.ElementLaws.{text-is}
use Rattle.look.proofs.element.text_at.Goals as goal

pub returns : goal.returns
returns c = text-is _ _ _ _ _ _ _ _ _ _ _ _ c.text_of.ensures (returned c.args.raw (omega arith)) c.section_of.ensures c.entries.ensures c.entries-2.ensures c.slot_of-from.ensures c.slot_of-many.ensures c.slot_of-first.ensures c.slot_of-past.ensures
