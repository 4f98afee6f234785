use Rattle.listing.proofs.ListingLaws.{printeds}
use Rattle.listings.proofs.whole.put_listing.Goals as goal

pub returns : goal.returns
returns c = search printeds
