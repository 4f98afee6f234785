use mathlib.Core.Path.{refl}
use Rattle.std.proofs.lemmas.Result.{err_from_is_err_and}
use Rattle.listing.proofs.ListingLaws.{kept-text, kept-lines, listing-refused, listing-short, listing-done}
use Rattle.listings.proofs.whole.listing.Goals as goal

pub returns-in_err-check_list : goal.returns-in_err-check_list
returns-in_err-check_list c =
    let p = err_from_is_err_and c.from_residual.result c.from_residual.ensures.1 in
    rw (p.1, p.2) (listing-refused _ _ _ _ _ c.in_err-check_list.ensures _ c.in_err-check_list.field-0.0 refl)

pub returns-then-out-need : goal.returns-then-out-need
returns-then-out-need c = listing-short _ _ _ _ 0 c.in_ok-check_list.ensures _ _ _ _ refl c.put_listing-need.ensures c.if-out-need.true

pub returns : goal.returns
returns c = listing-done _ _ _ _ 0 c.in_ok-check_list.ensures _ _ _ _ _ _ refl c.put_listing-need.ensures c.if-out-need.false c.put_listing.ensures

pub put_listing-need-requires : goal.put_listing-need-requires
put_listing-need-requires c = (kept-text _ _ _ _ 0 c.in_ok-check_list.ensures refl, kept-lines _ _ _ _ 0 c.in_ok-check_list.ensures refl)

pub put_listing-requires : goal.put_listing-requires
put_listing-requires c = (kept-text _ _ _ _ 0 c.in_ok-check_list.ensures refl, kept-lines _ _ _ _ 0 c.in_ok-check_list.ensures refl)
