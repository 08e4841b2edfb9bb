use Rattle.jps_run.proofs.Pictured.{nothing_drawn}
use Rattle.jps_run.proofs.replies.drawing.write_drawing.Goals as goal

pub returns-in-Err-clause-sent : goal.returns-in-Err-clause-sent
returns-in-Err-clause-sent g c =
    nothing_drawn c.args.canvas.now (record { x = c.args.ends.sx; y = c.args.ends.sy })
    (record { x = c.args.ends.gx; y = c.args.ends.gy }) c.args.show (g.O.Sink.outflow c.args.out.now)
