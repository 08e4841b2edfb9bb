use Rattle.bit_grid.proofs.Lanes.{lanes_bit}
use Rattle.bit_grid.proofs.pack.lanes_with.Goals as goal

pub returns : goal.returns
returns c = λ j h. lanes_bit c.args.bytes c.args.bit j c.fits-bytes.0 h
