-- `afresh::refresh::refresh_line` meets its contract. Assumes nothing.
use Rattle.afresh.proofs.RefreshLaws.{one_line}
use Rattle.afresh.proofs.refresh.refresh_line.Goals as goal

pub returns-then-all-has_byte : goal.returns-then-all-has_byte
returns-then-all-has_byte c = search one_line

pub returns-else-all-has_byte : goal.returns-else-all-has_byte
returns-else-all-has_byte c = search one_line
