use Prim.Native.Nat.{◌+◌, ◌-◌}
use Rattle.tables.specs.Form.{tables_in}
use Rattle.number.specs.Below.{sum_below}
use Rattle.tables.specs.Group.{elements}
use Rattle.listing.specs.Listing.{columns}
use Rattle.listing.proofs.ListingLaws.{Upto}
use Rattle.listings.proofs.whole.put_elements.Given as goal

abbrev pub invariant-loop-g : goal.invariant-loop-g
invariant-loop-g l = Upto l.x l.t (columns l.raw l.state l.first l.second) l.at l.groups l.initial.out l.g l.i l.k l.p l.out

abbrev pub decreases-loop-g : goal.decreases-loop-g
decreases-loop-g l = (sum_below l.groups (elements (tables_in l.t)) - l.k) + (l.groups - l.g)
