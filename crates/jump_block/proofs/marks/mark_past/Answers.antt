use Rattle.std.proofs.Common.{arith, ap, ◌∙◌}
use Rattle.grid_moves.specs.declared.Corner.{Corner}
use Rattle.jump_block.specs.Source.{stop_of}
use Rattle.jump_block.proofs.Scans.{few_found}
use Rattle.jump_block.proofs.marks.mark_past.Goals as goal

pub stop_of-requires : goal.stop_of-requires
stop_of-requires g c = record {
  few = few_found c.requires.starts.1 _ _ 0 c.scan_rest-found.result
      (c.scan_rest-found.ensures.finds c.requires.starts.0 c.requires.starts.1);
}

pub returns-clause-stops : goal.returns-clause-stops
returns-clause-stops g c = λ free start.
    let most = c.scan_rest-found.ensures.most in (
      c.scan_rest-found.result,
      c.scan_rest-found.ensures.finds free start,
      c.stop_of.ensures ∙ ap (λ (r : Corner). stop_of r c.scan_rest-found.result 0) c.rule_of_number.ensures,
      omega (arith, most),
    )
