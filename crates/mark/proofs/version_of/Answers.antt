use lib.Bits.{and_mask}
use Rattle.mark.specs.Word.{version}
use Rattle.mark.proofs.version_of.Goals as goal

pub returns : goal.returns
unfolding version
returns c = and_mask c.args.word 32
