use mathlib.Core.Path.{refl}
use Rattle.std.proofs.lemmas.Result.{err_from_is_err_and}
use Rattle.listing.proofs.ListingLaws.{kept-text, line_refused, line-none, line-is}
use Rattle.listings.proofs.element.line.Goals as goal

pub returns-in_err-check_list : goal.returns-in_err-check_list
returns-in_err-check_list c =
    let p = err_from_is_err_and c.from_residual.result c.from_residual.ensures.1 in
    rw (p.1, p.2) (line_refused _ _ _ _ _ c.in_err-check_list.ensures _ _ _ _ c.in_err-check_list.field-0.0 refl)

pub returns-then-not-is_element : goal.returns-then-not-is_element
returns-then-not-is_element c = line-none _ _ _ _ 0 c.in_ok-check_list.ensures _ _ _ _ _ c.is_element.ensures refl c.if-not-is_element.true

pub returns : goal.returns
returns c = line-is _ _ _ _ 0 c.in_ok-check_list.ensures _ _ _ _ _ c.is_element.ensures _ _ _ _ _ refl c.if-not-is_element.false c.group_of-g.ensures c.lines_before.ensures.0 refl c.write_element.ensures

pub write_element-requires : goal.write_element-requires
write_element-requires c = kept-text _ _ _ _ 0 c.in_ok-check_list.ensures refl
