-- `lines::field::field_of` meets its contract. Assumes nothing.
use Rattle.lines.proofs.Fields.{fields}
use Rattle.lines.proofs.field.field_of.Goals as goal

pub slice_bounds-result-count : goal.slice_bounds-result-count
slice_bounds-result-count c = search fields

pub slice_bounds-result-start : goal.slice_bounds-result-start
slice_bounds-result-start c = search fields

pub slice_bounds-result-end : goal.slice_bounds-result-end
slice_bounds-result-end c = search fields

pub returns : goal.returns
returns c = search fields
