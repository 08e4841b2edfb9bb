use Rattle.jump_block.proofs.straight.Bits.straight_by.Goals as goal

pub returns-in-N-clause-stops : goal.returns-in-N-clause-stops
returns-in-N-clause-stops g c = λ grid are free.
    rw c.in-N.is (c.straight.ensures.stops grid (rw c.under-bits.ensures are) free)

pub returns-in-E-clause-stops : goal.returns-in-E-clause-stops
returns-in-E-clause-stops g c = λ grid are free.
    rw c.in-E.is (c.straight-in-E.ensures.stops grid (rw c.under-bits.ensures are) free)

pub returns-in-S-clause-stops : goal.returns-in-S-clause-stops
returns-in-S-clause-stops g c = λ grid are free.
    rw c.in-S.is (c.straight-in-S.ensures.stops grid (rw c.under-bits.ensures are) free)
