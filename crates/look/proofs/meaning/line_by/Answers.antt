use borrow.Author.Rules.{rules}
use Rattle.look.proofs.MeaningLaws.{line-group}
use Rattle.look.proofs.meaning.line_by.Goals as goal

pub returns : goal.returns
returns c =
    let a = c.args in
    line-group a.t.now a.image.now a.s a.i a.m _ _ _ _ _ c.raw_by-raw.ensures (search rules) (search rules) c.means_by.ensures c.line_with.ensures
