use Rattle.std.proofs.Common.{ℕ, refl, ap, sym, ◌∙◌}
use Rattle.grid_moves.specs.declared.Dir.{Dir}
use Rattle.jump_plain.specs.Reach.{moves_to}
use Rattle.jump_block.specs.Source.{stop_of}
use Rattle.jump_block.proofs.Directions.{stops_there}
use Rattle.jump_block.proofs.Scans.{few_found}
use Rattle.jump_block.proofs.straight.Bits.straight.Goals as goal

pub stop_of-requires : goal.stop_of-requires
stop_of-requires g c =
    let start = c.start-start.ensures.starts.1 in
    record { few = few_found start _ _ _ c.scan-found.result (c.scan-found.ensures.finds _ start) }

pub returns-clause-stops : goal.returns-clause-stops
returns-clause-stops g c = λ grid are free.
    stops_there _ grid c.args.at are free c.args.axis c.args.way _ c.start-start.ensures.is _ refl
    c.args.goal c.from.result _ _ _ (c.from.ensures ∙ c.moves_to-to_goal.ensures
    ∙ ap (λ (d : Dir). moves_to d c.args.at c.args.goal) c.dir_on.ensures.is)
    (λ free start. (
      c.scan-found.result,
      c.scan-found.ensures.finds free start,
      c.stop_of.ensures ∙ ap (λ (n : ℕ). stop_of c.args.self.now.corner c.scan-found.result n)
          (sym c.from.ensures),
      c.scan-found.ensures.most,
    ))
