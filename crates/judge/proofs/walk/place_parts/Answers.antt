-- `judge::walk::place_parts` meets its contract. Assumes nothing.
use Rattle.place.proofs.Steps.{turns}
use Rattle.judge.proofs.walk.place_parts.Goals as goal

pub returns-then-is_within : goal.returns-then-is_within
returns-then-is_within c = search turns

pub returns-then-is_sound : goal.returns-then-is_sound
returns-then-is_sound c = search turns

pub returns : goal.returns
returns c = search turns
