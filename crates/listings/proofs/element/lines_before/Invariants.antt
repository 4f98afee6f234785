use Rattle.listing.proofs.ListingLaws.{Counted}
use Rattle.listings.proofs.element.lines_before.Given as goal

abbrev pub invariant-loop-h : goal.invariant-loop-h
invariant-loop-h l = Counted l.t l.g l.h l.sum
