-- The layout of an object, by the branches that the code takes.
use Prim.Native.Nat.{ℕ, suc, min}
use mathlib.Core.Path.{◌≡◌, sym, ◌∙◌, ap}
use mathlib.Core.List.{List}
use mathlib.Core.Bool.{Bool}
use native.Mathlib.Omega.{arith}
use Rattle.std.specs.Prelude.{Option, Some, None, unwrap_or}
use Rattle.cell.specs.Kind.{is_type}
use Rattle.rows.specs.Sections.{layout, object}
use Rattle.rows.specs.Slots.{fnc_values_position, fnc_values_type, axis_pts_x_position, axis_pts_x_type, axis_pts_y_position, axis_pts_y_type, no_axis_pts_x_position, no_axis_pts_x_type, no_axis_pts_y_position, no_axis_pts_y_type, object_layout, object_layout_past}
use Rattle.grammar.specs.Move.{View}
use Rattle.grammar.specs.Parameter.{find, found_at}
use Rattle.place.specs.declared.order.Entry.{Entry}
use Rattle.place.specs.declared.order.Layout.{Layout}
use Rattle.objects.specs.Object.{led, part, layout_at, no_entry, measured, layout_number}

-- f is what `find` gave
pub led-is : (x : List ℕ) (v : View) (j a e : ℕ) (f : Option ℕ) → found_at f ≡ find x v j a e → unwrap_or f 0 ≡ led x v j a e
led-is x v j a e (Some i) p = omega (arith, p)
led-is x v j a e None p = omega (arith, p)

pub ruleset leads = led-is

pub part-is : (v : View) (l p k at kind position : ℕ) (present : Bool) → at ≡ v.slots layout l p → kind ≡ v.slots layout l k → position ≡ min at 65535 → present ≡ is_type kind
    → ◌≡◌ {A = Entry} (record { present = present; position = position; kind = kind }) (part v l p k)
unfolding part
part-is v l p k at kind position present pa pk pp pt = rw (pt, pp, pa, pk)

pub layout_is : (v : View) (l : ℕ) (a b c d e : Entry) → a ≡ part v l fnc_values_position fnc_values_type → b ≡ part v l axis_pts_x_position axis_pts_x_type → c ≡ part v l axis_pts_y_position axis_pts_y_type → d ≡ part v l no_axis_pts_x_position no_axis_pts_x_type → e ≡ part v l no_axis_pts_y_position no_axis_pts_y_type
    → ◌≡◌ {A = Layout} (record { values = a; x = b; y = c; nx = d; ny = e }) (layout_at v l)
unfolding layout_at
layout_is v l a b c d e pa pb pc pd pe = rw (pa, pb, pc, pd, pe)

pub measured-is : (k : ℕ) (b : Bool) (n : Entry) → b ≡ is_type k → n ≡ no_entry
    → ◌≡◌ {A = Layout} (record { values = record { present = b; position = 0; kind = k }; x = n; y = n; nx = n; ny = n }) (measured k)
unfolding measured
measured-is k b n pb pn = rw (pb, pn)

pub number_is : (x : List ℕ) (v : View) (i a e r : ℕ) → a ≡ v.slots object i object_layout → e ≡ v.slots object i object_layout_past → r ≡ led x v layout a e → r ≡ layout_number x v i
number_is x v i a e r pa pe pr = pr ∙ rw (pa, pe)

pub ruleset parts = (part-is, layout_is, measured-is, number_is)
