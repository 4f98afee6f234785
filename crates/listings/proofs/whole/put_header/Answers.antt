-- `listings::whole::put_header` meets its contract: the bytes of the text in the code are the header's. Assumes nothing.
use Rattle.listing.specs.Print.{header}
use Rattle.listings.proofs.whole.put_header.Goals as goal

pub returns : goal.returns
unfolding header
returns c = (c.put_slice.ensures.0, c.put_slice.ensures.1)
