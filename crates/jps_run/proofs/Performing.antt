-- What the work counts.
use Rattle.std.proofs.Common.{◌≡◌, sym, subst, ℕ}
use Rattle.std.specs.Prelude.{OnOk, Result, Ok, Err}
use Rattle.io_edge.specs.Known.{Outflow}
use Rattle.line_work.specs.Sending.{SendsWhole}
use Rattle.line_work.specs.declared.stop.Stop.{Stop}
use Rattle.jps_run.specs.Works.{HasRisen, IsWhole}
use Rattle.jps_run.specs.declared.work.Work.{Work}

-- what is done of the work is known by its kind: what was sent, and how the counter rose
pub sent-as : (w made : Work) (out out_now : Outflow) (result : Result ℕ Stop) → w ≡ made
    → SendsWhole (IsWhole made) out out_now result → SendsWhole (IsWhole w) out out_now result
sent-as w made out out_now result is sent =
    subst (λ (w : Work). SendsWhole (IsWhole w) out out_now result) (sym is) sent

pub rose-as : {T E : Type 0} (result : Result T E) (w made : Work) (old new : ℕ) → w ≡ made
    → OnOk result (HasRisen made old new) → OnOk result (HasRisen w old new)
rose-as result w made old new is rose = subst (λ (w : Work). OnOk result (HasRisen w old new)) (sym is) rose

-- nothing is promised of the counter
pub uncounted : {T E : Type 0} (result : Result T E) (w made : Work) (old new : ℕ) → w ≡ made
    → HasRisen made old new → OnOk result (HasRisen w old new)
uncounted (Err error) w made old new is rose = tt
uncounted (Ok done) w made old new is rose = subst (λ (w : Work). HasRisen w old new) (sym is) rose
