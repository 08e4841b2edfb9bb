-- A line before an output.
use Rattle.std.proofs.Common.{refl, List, [], ◌∷◌, ℕ, suc, ◌≤◌, ◌<◌, ◌≡◌, length, take, arith}
use Rattle.std.specs.Prelude.{Result, IsErrAnd}
use Rattle.std.specs.List.{concat}
use Rattle.io_edge.specs.Known.{Outflow}
use Rattle.line_work.specs.Sending.{HasHead, IsAll, SendsWhole, Wrote, WroteSome, work_stops, write_stops}
use Rattle.line_work.specs.Stops.{StopsSo}
use Rattle.line_work.specs.Working.{Completes}
use Rattle.line_work.specs.declared.stop.Stop.{Stop}
use Rattle.line_work.proofs.Pieces.{appends-both, appends-part, part-more, rose-since}
use Rattle.line_work.proofs.Stopping.{Follow, ends-on, only_write, passed}

module _ (head : List ℕ) (Whole : List (List ℕ) → ℕ → Type 0) (before : Outflow) where
  -- the line itself was not written whole
  pub head-unwritten : (Left : Type 0) (now : Outflow) → Completes Whole Left [] → (result : Result ℕ Stop)
      (stop : Stop) → StopsSo (write_stops (WroteSome before now head)) stop
      → IsErrAnd result (λ s. s ≡ stop) → SendsWhole (HasHead head Whole) before now result
  head-unwritten Left now c result stop k m =
      passed (IsAll (HasHead head Whole) before now)
      (write_stops (WroteSome before now head)) _ result stop m k
      (only_write (λ w. (
        w.0,
        record {
          lines = head ∷ c.more;
          status = c.status;
          whole = record { below = c.more; whole = c.whole; all = refl };
          wrote = part-more before.written now.written head (concat c.more) w.1;
        },
      )))

  module _ (mid now : Outflow) (wrote : Wrote before mid head) (later : before.faults ≤ mid.faults) where
    -- what is known below the line is known of all
    below-stops : Follow (work_stops Whole mid now) (work_stops (HasHead head Whole) before now)
    below-stops = record {
      refused = λ line k. absurd k;
      read = λ k. absurd k;
      write = λ w. (
        rose-since before.faults mid.faults now.faults later w.0,
        record {
          lines = head ∷ w.1.lines;
          status = w.1.status;
          whole = record { below = w.1.lines; whole = w.1.whole; all = refl };
          wrote = appends-part before.written mid.written now.written head (concat w.1.lines) wrote w.1.wrote;
        },
      );
      memory = λ w. record {
        lines = head ∷ w.lines;
        status = w.status;
        whole = record { below = w.lines; whole = w.whole; all = refl };
        count = suc w.count;
        short = (let short : w.count < length w.lines = w.short in omega arith);
        wrote = appends-both before.written mid.written now.written head (concat (take w.count w.lines)) wrote
            w.wrote;
      };
    }

    -- the line was written, and the output below it
    pub head-written : (result : Result ℕ Stop) → SendsWhole Whole mid now result
        → SendsWhole (HasHead head Whole) before now result
    head-written result s =
        ends-on (IsAll Whole mid now) (IsAll (HasHead head Whole) before now)
        (work_stops Whole mid now) _ result
        (λ status w. record {
          lines = head ∷ w.lines;
          whole = record { below = w.lines; whole = w.whole; all = refl };
          wrote = appends-both before.written mid.written now.written head (concat w.lines) wrote w.wrote;
        }) below-stops s
