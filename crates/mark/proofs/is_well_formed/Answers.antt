use Rattle.mark.proofs.Masks.{well_formed_by_masks}
use Rattle.mark.proofs.is_well_formed.Goals as goal

pub returns : goal.returns
returns c = well_formed_by_masks c.args.word c.ranges.word.fits
