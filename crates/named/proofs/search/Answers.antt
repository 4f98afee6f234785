use mathlib.Core.Path.{refl}
use Rattle.std.proofs.lemmas.Result.{err_from_is_err_and}
use Rattle.look.proofs.CheckLaws.{some_number}
use Rattle.look.proofs.SearchLaws.{search-refused, search_is}
use Rattle.named.proofs.search.Goals as goal

pub returns-in_err-check : goal.returns-in_err-check
returns-in_err-check c =
    let p = err_from_is_err_and c.from_residual.result c.from_residual.ensures.1 in
    rw (p.1, p.2) (search-refused _ _ _ _ _ c.in_err-check.ensures (some_number c.in_err-check.field-0.0))

pub returns : goal.returns
returns c = search_is _ _ _ _ 0 c.in_ok-check.ensures _ refl c.find.ensures
