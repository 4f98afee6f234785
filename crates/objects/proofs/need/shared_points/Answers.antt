use Rattle.objects.proofs.NeedLaws.{points}
use Rattle.objects.proofs.need.shared_points.Goals as goal

pub returns-in-Ok : goal.returns-in-Ok
returns-in-Ok c = search points

pub returns-in-Err : goal.returns-in-Err
returns-in-Err c = search points
