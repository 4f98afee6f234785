use Rattle.listing.proofs.ListingLaws.{counteds}
use Rattle.listings.proofs.element.lines_before.Goals as goal

pub loop-h-init : goal.loop-h-init
loop-h-init c = search counteds

pub loop-h-preserved : goal.loop-h-preserved
loop-h-preserved c = search counteds
