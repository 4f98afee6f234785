use Rattle.tables.proofs.GroupLaws.{fields}
use Rattle.tables.proofs.group.limit_of.Goals as goal

pub returns-then-k-ge-WIDTH : goal.returns-then-k-ge-WIDTH
returns-then-k-ge-WIDTH c = search fields
