use mathlib.Core.Path.{◌≡◌, refl}
use borrow.Author.Rules.{rules}
use lib.IntN.{pos}
use lib.ListN.{get_or}
use Rattle.listing.proofs.ListingLaws.{element-put, given_back}
use Rattle.listings.proofs.element.put_element.Goals as goal

pub returns : goal.returns
returns c =
    let a = c.args in
    let z : c.unwrap_or-z.result ≡ get_or a.raw.now a.k (pos 0) = search rules in
    let s : c.unwrap_or-s.result ≡ get_or a.state.now a.k 0 = search rules in
    let n : c.unwrap_or-n.result ≡ get_or a.first.now a.k (pos 0) = search rules in
    let d : c.unwrap_or-d.result ≡ get_or a.second.now a.k (pos 0) = search rules in (
      element-put a.x.now a.t.now a.raw.now a.state.now a.first.now a.second.now a.g a.i a.k _ _ _ _ _ c.unwrap_or-z.result c.unwrap_or-n.result c.unwrap_or-d.result _ _ _
          refl c.slot_of-a.ensures c.slot_of-e.ensures refl z s n d
          (given_back c.unwrap_or-z.type_inv) (given_back c.unwrap_or-n.type_inv) (given_back c.unwrap_or-d.type_inv) c.put_line.ensures.0,
      c.put_line.ensures.1,
    )
