use Rattle.listing.proofs.ListingLaws.{kept-nos}
use Rattle.listings.proofs.element.check_list.Goals as goal

pub returns : goal.returns
returns c = search kept-nos
