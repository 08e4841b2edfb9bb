use Rattle.jps_run.proofs.top.finish.Goals as goal

pub returns-in-Err-Write-clause-printed : goal.returns-in-Err-Write-clause-printed
returns-in-Err-Write-clause-printed g c =
    rw (c.in-Err-Write.is, c.in-Err-Write.field-0-is) c.tell-in-Err-Write.ensures.printed
