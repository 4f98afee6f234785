use Rattle.text.proofs.LikeLaws.{compare-all, compare-first}
use Rattle.look.proofs.SearchLaws.{seeks, seek-end, seek-on, seek_found, match-start, match-not, match-on, match-other}
use native.Mathlib.Omega.{arith}
use Prim.Native.Nat.{◌-◌}
use Rattle.named.proofs.find.Goals as goal
use Rattle.named.proofs.find.Goals.{then-is_like+else-k-eq0+then-byte_at-first, then-is_like+else-k-eq0+else-byte_at-first+then-byte_at, else-is_like}

pub count_of-count-requires : goal.count_of-count-requires
count_of-count-requires c = search seeks

pub byte_at-first-requires : goal.byte_at-first-requires
byte_at-first-requires c = search seeks

pub one_before-requires : goal.one_before-requires
one_before-requires c = search seeks

pub byte_at-last-requires : goal.byte_at-last-requires
byte_at-last-requires c = search seeks

pub objects-init : goal.objects-init
objects-init c = search seeks

pub slot_of-from-requires : goal.slot_of-from-requires
slot_of-from-requires c = search seeks

pub slot_of-to-requires : goal.slot_of-to-requires
slot_of-to-requires c = search seeks

pub is_like-requires : goal.is_like-requires
is_like-requires c = search seeks

pub loop-k-init : goal.loop-k-init
loop-k-init c = match-start _ _ _ _ _ _ c.one_before.ensures c.byte_at-last.ensures _ c.is_like.ensures c.if-is_like.true

pub byte_at-requires : goal.byte_at-requires
byte_at-requires c = search seeks

pub overflow_sub-k : goal.overflow_sub-k
overflow_sub-k c = search seeks

pub overflow_add-from : goal.overflow_add-from
overflow_add-from c = omega (arith, c.loop-k.invariant.name_within, c.loop-k.invariant.back.within)

pub byte_at-requires-in-loop-k : goal.byte_at-requires-in-loop-k
byte_at-requires-in-loop-k c = search seeks

pub byte_at-requires-in-loop-k-2 : goal.byte_at-requires-in-loop-k-2
byte_at-requires-in-loop-k-2 c = search seeks

pub loop-k-smaller : goal.loop-k-smaller
loop-k-smaller c = search seeks

pub loop-k-preserved : goal.loop-k-preserved
loop-k-preserved c = match-on _ _ _ _ _ _ c.loop-k.invariant (λ z. omega (arith, c.if-k-eq0.false, z)) _ _ c.byte_at-in-loop-k.ensures c.byte_at-in-loop-k-2.ensures c.if-byte_at.false

pub overflow_add-i : goal.overflow_add-i
overflow_add-i c = search seeks

pub objects-smaller : goal.objects-smaller
objects-smaller c = search seeks

pub objects-preserved : goal.objects-preserved
objects-preserved c =
    seek-on _ _ _ _ _ c.count_of-count.ensures c.objects.invariant c.if-count-i.false _ _ c.slot_of-from.ensures c.slot_of-to.ensures
    (elim c.if-is_like.branch [
      | then-is_like+else-k-eq0+then-byte_at-first w ↦
          compare-first _ _ _ _ _ _ _ _ w.loop-k.invariant (λ z. omega (arith, w.if-k-eq0.false, z)) _ _ w.byte_at.ensures c.byte_at-first.ensures w.if-byte_at-first.true
      | then-is_like+else-k-eq0+else-byte_at-first+then-byte_at w ↦
          match-other _ _ _ _ _ _ w.loop-k.invariant (λ z. omega (arith, w.if-k-eq0.false, z)) _ _ w.byte_at-in-loop-k.ensures w.byte_at-in-loop-k-2.ensures w.if-byte_at.true
      | else-is_like w ↦ match-not _ _ _ _ _ _ c.one_before.ensures c.byte_at-last.ensures _ c.is_like.ensures w.if-is_like.false
    ])

pub returns-then-count-i : goal.returns-then-count-i
returns-then-count-i c = seek-end _ _ _ _ _ c.count_of-count.ensures c.objects.invariant c.if-count-i.true

pub returns-then-k-eq0 : goal.returns-then-k-eq0
returns-then-k-eq0 c = seek_found _ _ _ _ _ c.count_of-count.ensures c.objects.invariant c.if-count-i.false _ _ c.slot_of-from.ensures c.slot_of-to.ensures (compare-all _ _ _ _ _ _ _ _ c.loop-k.invariant (omega (arith, c.if-k-eq0.true)))
