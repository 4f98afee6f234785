use Rattle.grammar.specs.Move.{view_in}
use Rattle.build.proofs.BuiltLaws.{built-is, within_in}
use Rattle.built.proofs.build.Goals as goal

pub returns : goal.returns
returns c =
    let s = c in
    let a = s.args in
    built-is a.image.now a.s a.x.now (view_in a.t.now) a.elements (within_in a.t.now) _ _ _ _ _ _ _
    s.requires.0
    s.requires.1
    c.put_head.ensures
    c.put_objects.ensures
    c.put_groups.ensures
    c.put_methods.ensures
    c.put_tables.ensures
    c.put_entries.ensures
