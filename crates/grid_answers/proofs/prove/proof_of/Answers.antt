use Rattle.grid_answers.proofs.Cells.{if_is}
use Rattle.grid_answers.proofs.Printing.{is-proof, is-why, proof-good, why-bad}
use Rattle.grid_moves.specs.declared.Cell.{Cell}
use Rattle.grid_answers.proofs.prove.proof_of.Goals as goal

pub returns-in-Ok : goal.returns-in-Ok
returns-in-Ok c =
    let s : Cell = record { x = c.args.ends.sx; y = c.args.ends.sy } in
    let t : Cell = record { x = c.args.ends.gx; y = c.args.ends.gy } in
    record {
      text = if_is (λ p. p.text.items) c.proof_between.result c.proof_between.ensures.text
          (is-proof c.args.layers.now s t c.in-Ok.both c.in-Ok.ensures);
      status = if_is (λ p. p.status) c.proof_between.result c.proof_between.ensures.status
          (proof-good c.args.layers.now s t c.in-Ok.both c.in-Ok.ensures);
    }

pub returns-in-Err : goal.returns-in-Err
returns-in-Err c =
    let s : Cell = record { x = c.args.ends.sx; y = c.args.ends.sy } in
    let t : Cell = record { x = c.args.ends.gx; y = c.args.ends.gy } in
    record {
      text = if_is (λ p. p.text.items) c.said.result c.said.ensures.text
          (is-why c.args.layers.now s t c.in-Err.line.now c.in-Err.ensures);
      status = if_is (λ p. p.status) c.said.result c.said.ensures.status
          (why-bad c.args.layers.now s t c.in-Err.line.now c.in-Err.ensures);
    }
