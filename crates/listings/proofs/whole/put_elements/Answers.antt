use Rattle.number.specs.Most.{most_elements}
use Prim.Native.Nat.{ℕ, ◌<◌, ◌≤◌}
use mathlib.Core.List.{List}
use mathlib.Core.Path.{◌≡◌, ap}
use native.Mathlib.Omega.{arith}
use Rattle.tables.specs.Form.{group_section, tables_in}
use Rattle.number.specs.Below.{sum_below}
use Rattle.tables.specs.Group.{elements}
use Rattle.listing.specs.Listing.{columns}
use Rattle.listing.proofs.ListingLaws.{uptos, upto_left, upto-line}
use Rattle.listings.proofs.whole.put_elements.Goals as goal

-- there are few lines
few : (t : List ℕ) (n k : ℕ) → n ≡ (tables_in t).counts group_section → sum_below ((tables_in t).counts group_section) (elements (tables_in t)) ≤ most_elements → k < sum_below n (elements (tables_in t)) → k < most_elements
few t n k e m h = omega (arith, ap (λ (j : ℕ). sum_below j (elements (tables_in t))) e)

pub loop-g-init : goal.loop-g-init
loop-g-init c = search uptos

pub put_element-p-requires : goal.put_element-p-requires
put_element-p-requires c = search uptos

pub overflow_add-k : goal.overflow_add-k
overflow_add-k c =
    let s = c.args in
    let a = upto_left s.x.now s.t.now (columns s.raw.now s.state.now s.first.now s.second.now) c.elements_of.result (omega arith) c.elements_of.ensures (omega arith) c.loop-g.invariant in
    let h = few s.t.now c.count_of-groups.result c.loop-g.k c.count_of-groups.ensures c.requires.2 a in
    omega arith

pub loop-g-smaller-then-i-elements_of : goal.loop-g-smaller-then-i-elements_of
loop-g-smaller-then-i-elements_of c =
    let s = c.args in
    let h = upto_left s.x.now s.t.now (columns s.raw.now s.state.now s.first.now s.second.now) c.elements_of.result (omega arith) c.elements_of.ensures (omega arith) c.loop-g.invariant in
    omega arith

pub loop-g-preserved-then-i-elements_of : goal.loop-g-preserved-then-i-elements_of
loop-g-preserved-then-i-elements_of c =
    let p = c in
    let b = p in
    let s = b.args in
    upto-line s.x.now s.t.now (columns s.raw.now s.state.now s.first.now s.second.now) b.elements_of.result p.put_element-p.result _ (omega arith) b.elements_of.ensures (omega arith) b.loop-g.invariant p.put_element-p.ensures.0 p.put_element-p.ensures.1

pub loop-g-preserved : goal.loop-g-preserved
loop-g-preserved c = search uptos

pub returns : goal.returns
returns c = search uptos
