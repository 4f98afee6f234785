use Rattle.places.proofs.Divides.{divisions}
use Rattle.places.proofs.divide.divided.Goals as goal

pub loop-init : goal.loop-init
loop-init c = search divisions

pub digit-s-requires : goal.digit-s-requires
digit-s-requires c = search divisions

pub overflow_mul-whole : goal.overflow_mul-whole
overflow_mul-whole c = search divisions

pub overflow_add-whole : goal.overflow_add-whole
overflow_add-whole c = search divisions

pub loop-preserved : goal.loop-preserved
loop-preserved c = search divisions

pub returns : goal.returns
returns c = search divisions
