use Rattle.cost_waves.proofs.sweep.settle.Goals as goal

pub spread-requires-clause-free : goal.spread-requires-clause-free
spread-requires-clause-free g c = c.requires.free
