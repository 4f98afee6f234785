use Rattle.build.proofs.TableLaws.{ends}
use Rattle.build.proofs.table.entries_end.Goals as goal

pub returns-then-next-count : goal.returns-then-next-count
returns-then-next-count c = search ends

pub returns : goal.returns
returns c = search ends
