-- What stands for the answers to the lines that were taken begins what stands for those to all lines.
use Rattle.std.proofs.Common.{◌≡◌, ◌∙◌, refl, sym, ap, subst, ℕ, List, [], ◌∷◌, ◌++◌, append_assoc, map}
use Rattle.std.specs.Prelude.{Option, Some, None}
use Rattle.std.specs.Io.KnownBytes.{Consumes}
use Rattle.std.proofs.lemmas.List.{append-nil, map-append}
use Rattle.map_text.specs.Map.{Map}
use Rattle.script_text.specs.Feeding.{cut}
use Rattle.script_text.proofs.Cuts.{last_line, pieces-cut}
use Rattle.line_feed.specs.declared.feed.FedLine.{FedLine}
use Rattle.line_feed.specs.Lines.{line_of, lines_of}
use Rattle.line_feed.specs.Fed.{whole_lines}
use Rattle.line_server.specs.declared.asked.Asked.{Asked}
use Rattle.line_server.specs.Asked.{asked_by, may_want}
use Rattle.line_server.specs.Answers.{all_asked, answers_to}
use Rattle.line_server.proofs.Serving.{lines-grow}
use Rattle.call_files.specs.Layered.{grids_under}
use Rattle.jps_run.specs.Manner.{Manner}
use Rattle.jps_run.specs.Serving.{AreTaken, ServeLines, at_end, serving_on, so_far}
use Rattle.jps_run.specs.Standing.{StandFor}
use Rattle.jps_run.proofs.Serving.{more-stand}

-- the lines of a text that have their line feed begin all lines of more text
whole_begin : (text more : List ℕ) → (others : List FedLine)
    × (lines_of (text ++ more) ≡ whole_lines text ++ others)
whole_begin text more =
    let g = lines-grow text more in
    let last = map line_of (last_line (cut (text ++ more)).rest) in (
      map line_of g.0 ++ last,
      ap (map line_of) (pieces-cut (text ++ more))
          ∙ map-append line_of (cut (text ++ more)).lines (last_line (cut (text ++ more)).rest)
          ∙ ap (λ (l : List (List ℕ)). map line_of l ++ last) g.1
          ∙ ap (λ (l : List FedLine). l ++ last) (map-append line_of (cut text).lines g.0)
          ∙ append_assoc (whole_lines text) (map line_of g.0) last,
    )

-- so do the lines that were taken begin all
taken_begin : (taken rest : List ℕ) (lines : List FedLine) → AreTaken (Some rest) taken lines
    → (others : List FedLine) × (lines_of (taken ++ rest) ≡ lines ++ others)
taken_begin taken rest lines (so_far e) =
    let w = whole_begin taken rest in (w.0, w.1 ∙ ap (λ (l : List FedLine). l ++ w.0) (sym e))
taken_begin taken rest lines (at_end end e) = (
  [],
  ap lines_of (ap (λ (l : List ℕ). taken ++ l) end ∙ append-nil taken) ∙ sym e ∙ sym (append-nil lines),
)

-- so more texts stand for the answers to all lines of the input
pub served_begin : (manner : Manner) (m : Map) (input taken : List ℕ) (left : Option (List ℕ))
    (lines : List FedLine)
    (texts : List (List ℕ)) → Consumes (Some input) left taken → AreTaken left taken lines
    → ServeLines (serving_on manner m) lines texts
    → (more : List (List ℕ)) × ServeLines (serving_on manner m) (lines_of input) (texts ++ more)
served_begin manner m input taken None lines texts consumed are h = absurd consumed
served_begin manner m input taken (Some rest) lines texts consumed are h =
    let begun = taken_begin taken rest lines are in
    let s = more-stand manner.session manner.show (grids_under manner.rule m)
    (all_asked lines) (all_asked begun.0)
    texts h in
    let all : all_asked (lines_of input) ≡ all_asked lines ++ all_asked begun.0
    = ap (λ (t : List ℕ). all_asked (lines_of t)) consumed ∙ ap all_asked begun.1
    ∙ map-append asked_by lines begun.0 in (
      s.0,
      subst (λ (asked : List Asked). StandFor (map may_want asked)
          (answers_to manner.session manner.show (grids_under manner.rule m) [] asked)
          (texts ++ s.0)) (sym all) s.1,
    )
