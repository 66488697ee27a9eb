use Rattle.types.specs.Limits.{defaults}
use Rattle.types.proofs.TConfiguration.default.Goals as goal

pub returns : goal.returns
unfolding defaults
returns c = cc
