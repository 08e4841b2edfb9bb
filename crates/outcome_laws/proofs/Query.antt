-- What a plain query comes to.
use Rattle.std.proofs.Common.{◌≡◌, ◌∙◌, refl, sym, ap, subst, ℕ, List, [], ◌∷◌, ◌++◌, append-nil, arith}
use Rattle.std.specs.Prelude.{codes, Option, Some, None, Ok, unwrap_or}
use Rattle.std.specs.List.{concat}
use Rattle.grid_moves.specs.declared.Cell.{Cell}
use Rattle.grid_moves.specs.declared.Corner.TheVariants.{Never}
use Rattle.grid_moves.specs.Layers.{layers_of}
use Rattle.io_edge.specs.Known.{Disk, Held, Inflow, Outflow, holding}
use Rattle.io_edge.specs.Whole.{IsWhole}
use Rattle.line_work.specs.Sending.{Wrote}
use Rattle.map_text.specs.Faults.{map_of}
use Rattle.map_text.specs.Map.{Map}
use Rattle.map_text.proofs.Laws.{map_read}
use Rattle.word_list.specs.Calls.{call_of}
use Rattle.word_list.specs.Request.{Call}
use Rattle.word_list.specs.Settings.{default_settings}
use Rattle.word_list.specs.declared.rows.Command.TheVariants as command
use Rattle.call_files.specs.Files.{AreAccepted}
use Rattle.call_files.specs.Kinds.{limit_of}
use Rattle.call_files.specs.declared.kind.TextKind.TheVariants as kind
use Rattle.edit_replay.specs.Replies.{answer_of}
use Rattle.edit_replay.specs.declared.reply.Reply.{Reply}
use Rattle.edit_replay.specs.declared.reply.Reply.TheVariants as reply
use Rattle.word_list.specs.declared.request.Show.TheVariants.{Points}
use Rattle.jps_run.specs.Calls.{files_of, output_of}
use Rattle.jps_run.specs.Ending.{EndsRight}
use Rattle.reply_lines.specs.Lines.{reply_line, walk_text}
use Rattle.jps_run.specs.Manner.{picked_by}
use Rattle.jps_run.specs.Standing.{StandFor}
use Rattle.jps_run.specs.Outcome.{Outcome, IsOutcome, bad_word, bad_text, done, outcome_of, outcome_with}
use Rattle.jps_run.specs.Parts.{printed}
use Rattle.jps_run.specs.Replies.{AreRight, By, Replies}
use Rattle.outcome_laws.specs.Query.{AskForWalk, PrintsQuery, PrintsRight, line_of}

-- the line of a reply that shows its points is that of its answer
line_is : (width : ℕ) (r : Reply) → reply_line width Points r ≡ line_of (answer_of r)
line_is width reply.Outside = refl
line_is width reply.Blocked = refl
line_is width (reply.None taken) = refl
line_is width (reply.Walk points cost taken) =
    ap (λ (line : List ℕ). line ++ codes "\n") (append-nil (walk_text cost points))

-- the call that the words spell
abbrev query_call : List ℕ → List ℕ → List ℕ → List ℕ → List ℕ → Call
query_call name sx sy gx gy = record {
  request = record { command = command.Query; words = name ∷ sx ∷ sy ∷ gx ∷ gy ∷ []; tables = None };
  settings = default_settings;
}

-- the line that answers the query on these grids
abbrev line_by : (By → Replies) → Map → Cell → Cell → List ℕ
line_by replies m s t = reply_line m.width Points
    (replies (picked_by default_settings) (layers_of Never m.width m.height m.cells) s t)

module _ {words : List (List ℕ)} {name : List ℕ} {s t : Cell} (asks : AskForWalk words name s t) where
  abbrev its_call : Call
  its_call = query_call name asks.sx asks.sy asks.gx asks.gy

  spelled : call_of words ≡ Some its_call
  spelled = ap (λ (ws : List (List ℕ)). call_of ws) asks.are
      ∙ rw (asks.start_column, asks.start_row, asks.goal_column, asks.goal_row) refl

  -- what is printed on the text of a map
  output_is : (replies : By → Replies) (text : List ℕ) (m : Map) → map_of text ≡ Ok m
      → output_of replies its_call (text ∷ []) ≡ Some (printed (line_by replies m s t) 0)
  unfolding output_of
  output_is replies text m read =
      rw (read, asks.start_column, asks.start_row, asks.goal_column, asks.goal_row) refl

  comes_to : (replies : By → Replies) (text script : List ℕ) (m : Map) → map_of text ≡ Ok m
      → outcome_of replies its_call (text ∷ []) script
      ≡ Some (outcome_with (printed (line_by replies m s t) 0))
  unfolding outcome_of
  comes_to replies text script m read = rw (output_is replies text m read) refl

  -- the one text that is accepted is the file's
  text_is : (holds : List ℕ → Held) (text : List ℕ) (texts : List (List ℕ)) → holds name ≡ holding text
      → AreAccepted holds [] (files_of its_call) texts → texts ≡ text ∷ []
  text_is holds text [] held p = absurd p
  text_is holds text (found ∷ []) held p = ap (λ (one : List ℕ). one ∷ [])
      (subst (λ (h : Held). IsWhole h (limit_of kind.Map) found) held p.0.0).0
  text_is holds text (found ∷ more ∷ texts) held p = absurd (p.1)

module _ (words : List (List ℕ)) (holds : List ℕ → Held) (before now : Outflow) (replies : By → Replies)
    (right : AreRight replies) where
  printed_by : (outcome : Outcome) (m : Map) (s t : Cell)
      → Some outcome ≡ Some (outcome_with (printed (line_by replies m s t) 0)) → (texts : List (List ℕ))
      → StandFor outcome.wants outcome.out texts → Wrote before now (concat texts)
      → PrintsRight (layers_of Never m.width m.height m.cells) s t before now
  printed_by outcome m s t is texts stand wrote =
      let ls = layers_of Never m.width m.height m.cells in
      let r = replies (picked_by default_settings) ls s t in
      let same : outcome ≡ outcome_with (printed (line_by replies m s t) 0)
      = ap (λ (o : Option Outcome). unwrap_or o outcome) is in
      let lines : texts ≡ line_by replies m s t ∷ []
      = subst (λ (o : Outcome). StandFor o.wants o.out texts) same stand in
      let all : concat texts ≡ line_of (answer_of r)
      = ap concat lines ∙ append-nil (line_by replies m s t) ∙ line_is m.width r in
      record {
        answer = answer_of r;
        right = right (picked_by default_settings) ls s t;
        wrote = subst (λ (bytes : List ℕ). Wrote before now bytes) all wrote;
      }

  by_outcome : (input : Option (List ℕ)) (outcome : Outcome) → IsOutcome replies words holds input outcome
      → outcome.status ≡ 0 → (lines : List (List ℕ)) → StandFor outcome.wants outcome.out lines
      → Wrote before now (concat lines) → PrintsQuery words holds before now
  by_outcome input outcome (bad_word number is) zero lines stand wrote = absurd (cc)
  by_outcome input outcome (bad_text call line is refused) zero lines stand wrote = absurd (cc)
  by_outcome input outcome (done call texts script also is accepted comes so) zero lines stand wrote =
      λ name text m s t asks held spells.
      let call_is : call ≡ its_call asks
      = ap (λ (o : Option Call). unwrap_or o call) (sym is ∙ spelled asks) in
      let texts_are = text_is asks holds text texts held
      (subst (λ (k : Call). AreAccepted holds [] (files_of k) texts) call_is accepted) in
      let here : outcome_of replies call texts script ≡ outcome_of replies (its_call asks) (text ∷ []) script
      = rw (call_is, texts_are) refl in
      printed_by outcome m s t
      (sym so ∙ here ∙ comes_to asks replies text script m ((map_read text).only m spells)) lines stand wrote

-- so it is where `run` ends rightly with the status 0
pub prints_query : (words : List (List ℕ)) (disk disk_now : Disk) (input input_now : Inflow)
    (out out_now err err_now : Outflow) (status : ℕ)
    → EndsRight words disk disk_now input input_now out out_now err err_now status → status ≡ 0
    → PrintsQuery words disk.holds out out_now
prints_query words disk disk_now input input_now out out_now err err_now status ends zero =
    let comes = ends.outcome (omega (arith, zero)) in
    by_outcome words disk.holds out out_now ends.replies ends.right input.left comes.outcome comes.is
    (comes.same_status ∙ zero) comes.texts comes.stand comes.wrote
