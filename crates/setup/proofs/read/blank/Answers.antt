-- All fields are 0.
use Rattle.setup.specs.Setup.{blank_setup}
use Rattle.std.proofs.Common.{rules}
use Rattle.setup.proofs.read.blank.Goals as goal

pub returns : goal.returns
unfolding blank_setup
returns c = search rules
