use mathlib.Core.Path.{◌≡◌, ap, ◌∙◌}
use native.Mathlib.Omega.{arith}
use Prim.Native.Nat.{ℕ, ◌+◌, ◌-◌}
use lib.IntN.{ℤ}
use mir.Syntax.{w64}
use mir.Val.{SFits}
use Rattle.cell.proofs.Signed.{back, is-param}
use Rattle.convert.specs.Verbal.{default_of, place_in, verbal_of}
use Rattle.records.specs.Cells.{slot_in}
use Rattle.convert.specs.Told.{held}
use Rattle.convert.proofs.Verbals.{walk_start, walk_here, walk-on, walk_end}
use Rattle.verbal.proofs.text.text_of.Goals as goal

-- what the machine reads back is the raw number
last : (f : ℕ → ℕ → ℕ) (from count first past : ℕ) (z : ℤ) → SFits w64 z → held (verbal_of f from count first past (back z)) ≡ held (verbal_of f from count first past z)
last f from count first past z h = ap (λ (y : ℤ). held (verbal_of f from count first past y)) (is-param h).same

pub loop-e-init : goal.loop-e-init
loop-e-init c =
    let t = c.args in
    let z : t.from + t.count - t.from ≡ t.count = omega arith in
    rw z (walk_start (slot_in t.t.now t.c) t.from t.count t.first t.past (back t.raw))

pub returns-then-has_number : goal.returns-then-has_number
returns-then-has_number c =
    let t = c.args in
    let l = c.loop-e in
    c.entry_text.ensures
    ∙ ap held (walk_here (slot_in t.t.now t.c) l.e (default_of (place_in t.first) (place_in t.past)) (back t.raw) c.has_number.ensures (t.from + t.count - l.e) (omega (arith, c.loop-e-test.true)) c.if-has_number.true ∙ l.invariant)
    ∙ last (slot_in t.t.now t.c) t.from t.count t.first t.past t.raw c.ranges.raw

pub loop-e-preserved : goal.loop-e-preserved
loop-e-preserved c =
    let t = c.args in
    let l = c.loop-e in
    let z : t.from + t.count - (l.e + 1) ≡ t.from + t.count - l.e - 1 = omega arith in
    rw z (walk-on (slot_in t.t.now t.c) l.e (default_of (place_in t.first) (place_in t.past)) (back t.raw) c.has_number.ensures (t.from + t.count - l.e) (omega (arith, c.loop-e-test.true)) c.if-has_number.false ∙ l.invariant)

pub returns : goal.returns
returns c =
    let t = c.args in
    let l = c.loop-e in
    c.default_text.ensures
    ∙ ap held (walk_end (slot_in t.t.now t.c) l.e (default_of (place_in t.first) (place_in t.past)) (back t.raw) (t.from + t.count - l.e) (omega (arith, c.loop-e-test.false)) ∙ l.invariant)
    ∙ last (slot_in t.t.now t.c) t.from t.count t.first t.past t.raw c.ranges.raw
