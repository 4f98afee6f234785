use Rattle.listing.proofs.ListingLaws.{fits}
use Rattle.listings.proofs.element.write_element.Goals as goal

pub returns : goal.returns
returns c = search fits
