-- What `run` comes to over files and streams in memory, with streams that took nothing before.
use Rattle.std.proofs.Common.{◌≡◌, ◌∙◌, sym, ap, subst, List, [], ◌++◌, ℕ, ◌≤◌, ◌⊎◌, inl, inr, arith}
use Rattle.std.specs.Prelude.{Option, Some, None, Result, Ok, Err, IfOk}
use Rattle.std.specs.Io.KnownBytes.{Appends}
use Rattle.io_edge.specs.Causes.{Rose, raised}
use Rattle.io_edge.specs.Known.{Disk, Inflow, Outflow}
use Rattle.io_edge.specs.Memory.{held_under}
use Rattle.jps_run.specs.Ending.{Comes, EndsRight, Gets, ending_line}
use Rattle.jps_run.specs.Replies.{By, Replies}
use Rattle.jps_run.specs.Who.{replies_by}
use Rattle.page_calls.specs.Answers.{Answers, ComeTo, whole}
use Rattle.page_calls.specs.declared.answer.Answer.{Answer}

-- what was appended to nothing is all that was written
appended : (a b : Option (List ℕ)) (out bytes : List ℕ) → a ≡ Some [] → b ≡ Some out → Appends a b bytes
    → out ≡ bytes
appended None b out bytes e f h = absurd (cc)
appended (Some xs) None out bytes e f h = absurd (cc)
appended (Some xs) (Some ys) out bytes e f h =
    let nothing : xs ≡ [] = cc in
    let all : ys ≡ out = cc in
    sym all ∙ h ∙ ap (λ (l : List ℕ). l ++ bytes) nothing

never-rose : (before : ℕ) → Rose before 0 → ⊥
never-rose before rose = omega (arith, rose)

-- a stream that never failed got the whole line
got : (before now : Outflow) (bytes line : List ℕ) → before.written ≡ Some [] → now ≡ whole bytes
    → Gets before now line → bytes ≡ line
got before now bytes line empty is (inl wrote) =
    appended before.written now.written bytes line empty (ap (λ (o : Outflow). o.written) is) wrote
got before now bytes line empty is (inr some) =
    absurd (never-rose before.faults (subst (λ (o : Outflow). Rose before.faults o.faults) is some.0))

module _ (words : List (List ℕ)) (texts : List (List ℕ × List ℕ)) (input : List ℕ)
    (out out_now err err_now : Outflow) (status : ℕ) (no_out : out.written ≡ Some [])
    (no_err : err.written ≡ Some []) where
  come-to : (replies : By → Replies) (printed told : List ℕ) → out_now ≡ whole printed → err_now ≡ whole told
      → Comes replies words (held_under texts) (Some input) out out_now err err_now status
      → ComeTo replies words texts input status printed told
  come-to replies printed told is also c = record {
    outcome = c.outcome;
    is = c.is;
    same_status = c.same_status;
    lines = c.texts;
    stand = c.stand;
    same_out = appended out.written out_now.written printed _ no_out
        (ap (λ (o : Outflow). o.written) is) c.wrote;
    same_err = got err err_now told c.outcome.line no_err also c.printed;
  }

  -- so the answer that is made of it answers the words
  pub answered : {E : Type 0} (faults : List ℕ → ℕ) (disk_now : Disk) (input_now : Inflow)
      (result : Result Answer E)
      → EndsRight words (record { holds = held_under texts; faults = faults }) disk_now
      (record { left = Some input; faults = 0 }) input_now out out_now err err_now status
      → (status ≤ 3 → Comes replies_by words (held_under texts) (Some input) out out_now err err_now status)
      → (4 ≤ status → Gets err err_now (ending_line status))
      → IfOk result (λ a. (a.status ≡ status) × (status ≤ 4)) → IfOk result (λ a. out_now ≡ whole a.out.items)
      → IfOk result (λ a. err_now ≡ whole a.err.items)
      → IfOk result (λ a. Answers words texts input a.status a.out.items a.err.items)
  answered faults disk_now input_now (Err error) right outcome line same printed told = tt
  answered faults disk_now input_now (Ok a) right outcome line same printed told =
      subst (λ (n : ℕ). Answers words texts input n a.out.items a.err.items) (sym same.0) (record {
        right = λ few. record {
          replies = right.replies;
          right = right.right;
          come = come-to right.replies a.out.items a.err.items printed told (right.outcome few);
        };
        outcome = λ few. come-to replies_by a.out.items a.err.items printed told (outcome few);
        read = λ four. got err err_now a.err.items _ no_err told
            (subst (λ (n : ℕ). Gets err err_now (ending_line n)) four (line (omega (arith, four))));
      })
