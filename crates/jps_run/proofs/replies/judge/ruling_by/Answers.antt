use Rattle.std.proofs.Common.{◌∙◌, ap, sym, subst}
use Rattle.grid_moves.specs.Grid.{GridData}
use Rattle.walk_judge.specs.Judgement.{judgement_of}
use Rattle.walk_judge.specs.declared.judging.Judged.{Judged}
use Rattle.plain_search.specs.Costs.{IsCostTo}
use Rattle.jps_run.specs.declared.replies.ruling.Ruling.TheVariants as ruling
use Rattle.jps_run.proofs.Judged.{searched-so}
use Rattle.jps_run.proofs.replies.judge.ruling_by.Goals as goal

pub judge_claimed-requires : goal.judge_claimed-requires
judge_claimed-requires c =
    let how = c.in-Searched in
    let is = searched-so c.args.costs.now c.args.entry c.args.settled how.from how.to how.least
    c.requires.settled how.is in
    record {
      fit = c.requires.fit;
      least = subst (λ (q : GridData). IsCostTo q how.from how.to how.least) (sym c.query_grid.ensures)
          is.least;
    }

pub returns-in-Searched : goal.returns-in-Searched
returns-in-Searched c =
    let how = c.in-Searched in
    rw (how.is) (ap (λ (j : Judged). ruling.Judged j) (c.judge_claimed.ensures.is
    ∙ ap (λ (q : GridData). judgement_of q how.from how.to c.args.claimed.now how.least)
    c.query_grid.ensures))
