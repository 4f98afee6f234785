use Rattle.text.proofs.LikeLaws.{compare-start, compare-not, compare-all, compare-first, compare-other, compare-on}
use Rattle.grammar.proofs.NameLaws.{seeks, seek-end, seek-on, seek-near, seek_found}
use native.Mathlib.Omega.{arith}
use borrow.Author.Rules.{rules}
use mathlib.Core.Path.{refl}
use Rattle.grammar.proofs.names.find.Goals as goal
use Rattle.grammar.proofs.names.find.Goals.{then-is_like+else-k-eq0+then-byte_at-first, then-is_like+else-k-eq0+else-byte_at-first+then-byte_at, else-is_like}

pub returns-then-e-a : goal.returns-then-e-a
returns-then-e-a c = search seeks

pub section_of-c-requires : goal.section_of-c-requires
section_of-c-requires c = search seeks

pub count-count-requires : goal.count-count-requires
count-count-requires c = search seeks

pub byte_at-first-requires : goal.byte_at-first-requires
byte_at-first-requires c = search seeks

pub one_before-requires : goal.one_before-requires
one_before-requires c = search seeks

pub byte_at-last-requires : goal.byte_at-last-requires
byte_at-last-requires c = search seeks

pub overflow_cast-at : goal.overflow_cast-at
overflow_cast-at c = search seeks

pub overflow_add-at : goal.overflow_add-at
overflow_add-at c = search seeks

pub records-init : goal.records-init
records-init c = search seeks

pub get-from-requires : goal.get-from-requires
get-from-requires c = search seeks

pub overflow_add-at-in-records : goal.overflow_add-at-in-records
overflow_add-at-in-records c = omega (arith, seek-near _ _ _ _ _ _ c.section_of-c.ensures _ c.count-count.ensures _ _ c.records.invariant (search rules) (search rules) (search rules))

pub get-to-requires : goal.get-to-requires
get-to-requires c = search seeks

pub is_like-requires : goal.is_like-requires
is_like-requires c = search seeks

pub loop-k-init : goal.loop-k-init
loop-k-init c = compare-start _ _ _ _ _ _ _ _ _ c.if-e-a.false refl c.one_before.ensures c.byte_at-last.ensures _ c.is_like.ensures c.if-is_like.true

pub byte_at-requires : goal.byte_at-requires
byte_at-requires c = search seeks

pub overflow_sub-k : goal.overflow_sub-k
overflow_sub-k c = search seeks

pub overflow_add-from : goal.overflow_add-from
overflow_add-from c = omega (arith, c.loop-k.invariant.name_within, c.loop-k.invariant.back.within)

pub byte_at-requires-in-loop-k : goal.byte_at-requires-in-loop-k
byte_at-requires-in-loop-k c = search seeks

pub overflow_add-a : goal.overflow_add-a
overflow_add-a c = omega (arith, c.loop-k.invariant.part_within, c.loop-k.invariant.back.within)

pub byte_at-requires-in-loop-k-2 : goal.byte_at-requires-in-loop-k-2
byte_at-requires-in-loop-k-2 c = search seeks

pub loop-k-smaller : goal.loop-k-smaller
loop-k-smaller c = search seeks

pub loop-k-preserved : goal.loop-k-preserved
loop-k-preserved c = compare-on _ _ _ _ _ _ _ _ c.loop-k.invariant (λ z. omega (arith, c.if-k-eq0.false, z)) _ _ c.byte_at-in-loop-k.ensures c.byte_at-in-loop-k-2.ensures c.if-byte_at.false

pub overflow_cast-at-in-records : goal.overflow_cast-at-in-records
overflow_cast-at-in-records c = search seeks

pub overflow_add-at-in-records-2 : goal.overflow_add-at-in-records-2
overflow_add-at-in-records-2 c = omega (arith, seek-near _ _ _ _ _ _ c.section_of-c.ensures _ c.count-count.ensures _ _ c.records.invariant (search rules) (search rules) (search rules))

pub overflow_add-i : goal.overflow_add-i
overflow_add-i c = search seeks

pub records-smaller : goal.records-smaller
records-smaller c = search seeks

pub records-preserved : goal.records-preserved
records-preserved c =
    seek-on _ _ _ _ _ _ c.section_of-c.ensures _ c.count-count.ensures _ _ c.records.invariant c.if-count-i.false _ _ c.get-from.ensures c.get-to.ensures
    (elim c.if-is_like.branch [
      | then-is_like+else-k-eq0+then-byte_at-first w ↦
          compare-first _ _ _ _ _ _ _ _ w.loop-k.invariant (λ z. omega (arith, w.if-k-eq0.false, z)) _ _ w.byte_at.ensures c.byte_at-first.ensures w.if-byte_at-first.true
      | then-is_like+else-k-eq0+else-byte_at-first+then-byte_at w ↦
          compare-other _ _ _ _ _ _ _ _ w.loop-k.invariant (λ z. omega (arith, w.if-k-eq0.false, z)) _ _ w.byte_at-in-loop-k.ensures w.byte_at-in-loop-k-2.ensures w.if-byte_at.true
      | else-is_like w ↦
          compare-not _ _ _ _ _ _ _ _ _ c.if-e-a.false refl c.one_before.ensures c.byte_at-last.ensures _ c.is_like.ensures w.if-is_like.false
    ])

pub returns-then-count-i : goal.returns-then-count-i
returns-then-count-i c = seek-end _ _ _ _ _ _ c.section_of-c.ensures _ c.count-count.ensures _ _ c.records.invariant c.if-count-i.true

pub returns-then-k-eq0 : goal.returns-then-k-eq0
returns-then-k-eq0 c = seek_found _ _ _ _ _ _ c.section_of-c.ensures _ c.count-count.ensures _ _ c.records.invariant c.if-count-i.false _ _ c.get-from.ensures c.get-to.ensures (compare-all _ _ _ _ _ _ _ _ c.loop-k.invariant (omega (arith, c.if-k-eq0.true)))
