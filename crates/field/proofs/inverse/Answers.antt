use Rattle.field.specs.Field.{inverse_of}
use Rattle.field.proofs.inverse.Goals as goal

pub returns : goal.returns
unfolding inverse_of
returns c = cc
