use Rattle.std.proofs.Common.{◌∙◌, ◌<◌, ◌^◌, ap, sym, subst}
use Rattle.root2_cost.specs.declared.lengths.Verdict.{Verdict}
use Rattle.root2_cost.specs.declared.lengths.Verdict.TheVariants as verdict
use Rattle.jps_run.specs.declared.replies.row.Row.TheVariants as row
use Rattle.jps_run.proofs.Counted.{small-more, tally-more}
use Rattle.jps_run.proofs.replies.row.Tally.count.Goals as goal

pub returns-in-Judged-Agree-default-default : goal.returns-in-Judged-Agree-default-default
returns-in-Judged-Agree-default-default c =
    let a = c.in-Judged-Agree-default-default in
    record {
      counted = λ rows e.
          tally-more c.args.self.now rows c.args.row (row.Judged verdict.Agree a.cost a.taken) c.from.result
          (a.is ∙ ap (λ (v : Verdict). row.Judged v a.cost a.taken) (rw a.is at a.verdict-is))
          (c.from.ensures ∙ c.states_in.ensures) e;
      small = small-more c.args.self.now.taken c.from.result c.args.self.now.rows c.requires.small
          (subst (λ n. n < 2 ^ 64) (sym c.from.ensures) c.states_in.type_inv);
    }

pub returns-in-Judged-Near-default-default : goal.returns-in-Judged-Near-default-default
returns-in-Judged-Near-default-default c =
    let a = c.in-Judged-Near-default-default in
    record {
      counted = λ rows e.
          tally-more c.args.self.now rows c.args.row (row.Judged verdict.Near a.cost a.taken) c.from.result
          (a.is ∙ ap (λ (v : Verdict). row.Judged v a.cost a.taken) (rw a.is at a.verdict-is))
          (c.from.ensures ∙ c.states_in.ensures) e;
      small = small-more c.args.self.now.taken c.from.result c.args.self.now.rows c.requires.small
          (subst (λ n. n < 2 ^ 64) (sym c.from.ensures) c.states_in.type_inv);
    }

pub returns-in-Judged-Off-default-default : goal.returns-in-Judged-Off-default-default
returns-in-Judged-Off-default-default c =
    let a = c.in-Judged-Off-default-default in
    record {
      counted = λ rows e.
          tally-more c.args.self.now rows c.args.row (row.Judged verdict.Off a.cost a.taken) c.from.result
          (a.is ∙ ap (λ (v : Verdict). row.Judged v a.cost a.taken) (rw a.is at a.verdict-is))
          (c.from.ensures ∙ c.states_in.ensures) e;
      small = small-more c.args.self.now.taken c.from.result c.args.self.now.rows c.requires.small
          (subst (λ n. n < 2 ^ 64) (sym c.from.ensures) c.states_in.type_inv);
    }

pub returns-in-Scale-clause-small : goal.returns-in-Scale-clause-small
returns-in-Scale-clause-small c =
    small-more c.args.self.now.taken c.from.result c.args.self.now.rows c.requires.small
    (subst (λ n. n < 2 ^ 64) (sym c.from.ensures) c.states_in.type_inv)
