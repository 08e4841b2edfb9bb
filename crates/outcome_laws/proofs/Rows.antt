-- Rows of two ways of answering.
use Rattle.std.proofs.Common.{◌≡◌, refl, sym, ap, ◌∙◌, List, [], ◌∷◌, Bool, true, false}
use Rattle.std.specs.Prelude.{if◌then◌else◌, map}
use Rattle.root2_cost.specs.declared.lengths.Decimal.{Decimal}
use Rattle.root2_cost.specs.Verdict.{verdict_of}
use Rattle.grid_moves.specs.Layers.{Layers}
use Rattle.edit_replay.specs.declared.reply.Reply.{Reply}
use Rattle.edit_replay.specs.declared.reply.Reply.TheVariants as reply
use Rattle.scen_text.specs.declared.entry.Entry.{Entry}
use Rattle.jps_run.specs.Replies.{By}
use Rattle.jps_run.specs.Who.{replies_by}
use Rattle.jps_run.specs.Drill.{finding_of}
use Rattle.jps_run.specs.declared.replies.findings.Finding.{Finding}
use Rattle.jps_run.specs.declared.replies.findings.Finding.TheVariants as finding
use Rattle.jps_run.specs.Rows.{goal_of, has_sides, row_for, row_of, rows_of, start_of}
use Rattle.jps_run.specs.declared.replies.row.Row.{Row}
use Rattle.jps_run.specs.declared.replies.row.Row.TheVariants as row
use Rattle.outcome_laws.specs.Lines.{RowsDifferInTaken}
use Rattle.outcome_laws.specs.Forgetting.{without_taken}
use Rattle.outcome_laws.proofs.Forgetting.{differ_in_taken}
use Rattle.outcome_laws.proofs.Replies.{reply_found}

-- the row without its count, by what the reply comes to
row_found : Decimal → Finding → Row
row_found listed (finding.Walk cost) = row.Judged (verdict_of listed cost) cost 0
row_found listed finding.None = row.None 0
row_found listed finding.Outside = row.Outside
row_found listed finding.Blocked = row.Blocked
row_found listed finding.Done = row.Scale
row_found listed finding.Same = row.Scale

row-found : (listed : Decimal) (r : Reply) → without_taken (row_of listed r) ≡ row_found listed (finding_of r)
unfolding row_found
row-found listed reply.Outside = refl
row-found listed r = refl

module _ (by other : By) (ls : Layers) where
  row_alike : (entry : Entry) → without_taken (row_for (replies_by by) ls entry)
      ≡ without_taken (row_for (replies_by other) ls entry)
  row_alike entry = by_sides (has_sides ls entry)
    where
      by_sides : (b : Bool) → without_taken (if b
          then row_of entry.length (replies_by by ls (start_of entry) (goal_of entry)) else row.Scale)
          ≡ without_taken (if b
          then row_of entry.length (replies_by other ls (start_of entry) (goal_of entry)) else row.Scale)
      by_sides false = refl
      by_sides true =
          row-found entry.length (replies_by by ls (start_of entry) (goal_of entry))
          ∙ ap (λ (found : Finding). row_found entry.length found)
          (reply_found by other ls (start_of entry) (goal_of entry))
          ∙ sym (row-found entry.length (replies_by other ls (start_of entry) (goal_of entry)))

  bare_alike : (entries : List Entry) → map without_taken (rows_of (replies_by by) ls entries)
      ≡ map without_taken (rows_of (replies_by other) ls entries)
  bare_alike [] = refl
  bare_alike (entry ∷ entries) =
      ap (λ (r : Row). r ∷ map without_taken (rows_of (replies_by by) ls entries)) (row_alike entry)
      ∙ ap (λ (rows : List Row). without_taken (row_for (replies_by other) ls entry) ∷ rows)
      (bare_alike entries)

pub rows_alike : RowsDifferInTaken
rows_alike by other ls entries = differ_in_taken _ _ (bare_alike by other ls entries)
