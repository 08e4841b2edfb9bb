-- The sums of what commands come to.
use Rattle.std.proofs.Common.{◌≡◌, refl, sym, ap, ◌∙◌, subst, List, [], ◌∷◌, ◌++◌, ℕ, zero, suc, ◌+◌, ◌*◌}
use Rattle.std.proofs.Common.{◌≤◌, ◌<◌, ◌^◌, length, length-append, drop, true, arith}
use Rattle.std.specs.Prelude.{bit_xor}
use Rattle.std.specs.List.{All, sum_by}
use Rattle.std.proofs.lemmas.List.{append-nil}
use Rattle.std.proofs.lemmas.List.Elements.{All-push}
use Rattle.std.proofs.lemmas.List.Sums.{count_by-le-length, sum_by-le}
use Rattle.std.specs.List.{fold}
use Rattle.grid_moves.specs.Layers.{Layers}
use Rattle.edit_replay.specs.Edited.{Edit, edited}
use Rattle.edit_replay.specs.Session.{SessionData}
use Rattle.map_maker.specs.Drill.{commands_of, drill_commands, words_in}
use Rattle.map_maker.specs.Words.{words_of}
use Rattle.script_text.specs.declared.command.ScriptCommand.{ScriptCommand}
use Rattle.jps_run.specs.Answering.{GoesOn}
use Rattle.jps_run.specs.Answers.{edits_with}
use Rattle.jps_run.specs.Drill.{drill_line, finding_on, IsShortFinding, is_walk, is_none, is_blocked, is_done}
use Rattle.jps_run.specs.Drill.{is_same, straight_in, diagonal_in}
use Rattle.jps_run.specs.Drilling.{HasDrilled, HasRoom, HaveCounted, IsDrilled, LeavesRoom, findings_by}
use Rattle.jps_run.specs.Drilling.{sums_of, sums_text}
use Rattle.jps_run.specs.Rising.{RoseForCommand}
use Rattle.jps_run.specs.Session.{session_replies}
use Rattle.line_work.specs.Working.{Adds, CanComplete, HasRoomForOne}
use Rattle.jps_run.specs.declared.replies.findings.Finding.{Finding}
use Rattle.jps_run.specs.declared.replies.findings.Finding.TheVariants as finding
use Rattle.jps_run.specs.declared.replies.findings.Summary.{Summary}
use Rattle.jps_run.proofs.Rising.{rose-more}
use Rattle.jps_run.proofs.Solving.{in_turn-more, nothing_edited, session-more}

-- a walk's moves are few
few_straight : (found : Finding) → IsShortFinding found → straight_in found ≤ 2 ^ 24
few_straight (finding.Walk cost) short = omega (arith, short)
few_straight finding.None short = omega arith
few_straight finding.Blocked short = omega arith
few_straight finding.Outside short = omega arith
few_straight finding.Done short = omega arith
few_straight finding.Same short = omega arith

few_diagonal : (found : Finding) → IsShortFinding found → diagonal_in found ≤ 2 ^ 24
few_diagonal (finding.Walk cost) short = omega (arith, short)
few_diagonal finding.None short = omega arith
few_diagonal finding.Blocked short = omega arith
few_diagonal finding.Outside short = omega arith
few_diagonal finding.Done short = omega arith
few_diagonal finding.Same short = omega arith

-- so few findings leave room for one more
has_room : (found : List Finding) → length found ≤ 2 ^ 32 → All IsShortFinding found → HasRoom (sums_of found)
has_room found few short = record {
  walks = let most = count_by-le-length is_walk found in omega (arith, most);
  none = let most = count_by-le-length is_none found in omega (arith, most);
  blocked = let most = count_by-le-length is_blocked found in omega (arith, most);
  done = let most = count_by-le-length is_done found in omega (arith, most);
  same = let most = count_by-le-length is_same found in omega (arith, most);
  straight = below (sum_by straight_in found)
      (sum_by-le straight_in (2 ^ 24) found (λ k d b. few_straight _ (short k d b)));
  diagonal = below (sum_by diagonal_in found)
      (sum_by-le diagonal_in (2 ^ 24) found (λ k d b. few_diagonal _ (short k d b)));
}
  where
    below : (n : ℕ) → n ≤ length found * 2 ^ 24 → n < 2 ^ 63
    below n most = omega arith

-- there is room for the next finding
pub one-fits : (job : Summary) → HasRoomForOne (LeavesRoom job) → HasRoom job.sums
one-fits job room =
    let h = room.1 in
    let few : length h.found + (room.0 + 1) ≤ 2 ^ 32 = h.few in
    subst HasRoom (sym h.summed) (has_room h.found (omega arith) h.short)

module _ (job now : Summary) (command : ScriptCommand) (found : Finding)
    (is : found ≡ finding_on (session_replies job.session) job.session.layers command)
    (on : GoesOn job.session command now.session)
    (counts : (all : List Finding) → job.sums ≡ sums_of all → now.sums ≡ sums_of (all ++ found ∷ [])) where
  -- one finding more leaves room for one less
  pub room-left : IsShortFinding found → (n : ℕ) → LeavesRoom job (n + 1) → LeavesRoom now n
  room-left short n h =
      let both : length (h.found ++ found ∷ []) ≡ length h.found + 1 = length-append h.found (found ∷ []) in
      let few : length h.found + (n + 1) ≤ 2 ^ 32 = h.few in
      record {
        found = h.found ++ found ∷ [];
        summed = counts h.found h.summed;
        short = All-push IsShortFinding h.found found h.short short;
        few = omega arith;
      }

  -- one command more was worked
  pub drilled-more : (lines : List ℕ) (first : Summary) (commands : List ScriptCommand)
      (so_far : List (List ℕ))
      → HasDrilled first job commands so_far
      → Adds (HasDrilled first now (commands ++ command ∷ [])) so_far lines lines
  drilled-more lines first commands so_far h =
      let edits : List Edit = fold edits_with [] commands in
      let give : Layers → ScriptCommand → Finding = finding_on (session_replies first.session) in
      let here : found ≡ give (edited first.session.layers edits) command =
      is ∙ ap (λ (d : SessionData). finding_on (session_replies d) d.layers command) h.session in
      record {
        more = [];
        stand = record {
          summed = counts (findings_by first commands) h.summed
              ∙ ap sums_of (ap (λ (f : Finding). findings_by first commands ++ f ∷ []) here
              ∙ sym (in_turn-more give first.session.layers [] commands (command ∷ [])));
          session = session-more first.session job.session now.session commands command h.session on;
          none = append-nil so_far ∙ h.none;
        };
        appended = sym (append-nil lines);
      }

  -- and the counter rose for it
  pub taken-more : (old new : ℕ) → RoseForCommand job.session now.session command old new → (first : Summary)
      (commands : List ScriptCommand) (start : ℕ) → HaveCounted first job commands start old
      → HaveCounted first now (commands ++ command ∷ []) start new
  taken-more old new more first commands start h = record {
    rose = rose-more first.session job.session now.session commands command start old new h.session on
        h.rose more;
    session = session-more first.session job.session now.session commands command h.session on;
  }

-- nothing was worked yet
pub drilled-none : (job : Summary) → job.sums ≡ sums_of [] → HasDrilled job job [] []
drilled-none job e = record { summed = e; session = nothing_edited job.session; none = refl }

pub taken-none : (job : Summary) (start : ℕ) → HaveCounted job job [] start start
taken-none job start = record { rose = refl; session = nothing_edited job.session }

-- there is room for all commands of a drill
pub all-fit : (job : Summary) (count : ℕ) → job.sums ≡ sums_of [] → count ≤ 2 ^ 32 → LeavesRoom job count
all-fit job count e few =
    record { found = []; summed = e; short = λ k d b. absurd (omega arith); few = omega arith }

-- the sums close the output
pub drilled-all : (job : Summary) (before after : List ℕ) → after ≡ before ++ sums_text job.sums
    → (first : Summary) (commands : List ScriptCommand) (lines : List (List ℕ))
    → HasDrilled first job commands lines
    → Adds (λ all. IsDrilled first commands all 0) lines before after
drilled-all job before after w first commands lines h =
    let line : List ℕ = drill_line (findings_by first commands) in
    record {
      more = line ∷ [];
      stand = record { all = ap (λ (l : List (List ℕ)). l ++ line ∷ []) h.none; code = refl };
      appended = w ∙ ap (λ (l : List ℕ). before ++ l) (ap sums_text h.summed ∙ sym (append-nil line));
    }

-- so the line of the sums can follow
pub drill-complete : CanComplete HasDrilled IsDrilled true
drill-complete first now some others lines h =
    let line : List ℕ = drill_line (findings_by first (some ++ others)) in
    record {
      more = line ∷ [];
      status = 0;
      whole = record { all = ap (λ (l : List (List ℕ)). l ++ line ∷ []) h.none; code = refl };
      some = λ left e. (let never : line ∷ [] ≡ [] = e in cc);
    }

-- a drill has 150 commands
as_many : (number count : ℕ) (words : List ℕ) → length (commands_of number count words) ≡ count
unfolding commands_of
as_many number zero words = refl
as_many number (suc count) words = ap (λ n. suc n) (as_many (number + 1) count (drop (words_in number) words))

few_commands : (seed : ℕ) → length (drill_commands seed) ≤ 2 ^ 32
unfolding drill_commands
few_commands seed = let e = as_many 1 150 (words_of (bit_xor seed 1) 550) in omega (arith, e)

pub few-commands : (seed : ℕ) (commands : List ScriptCommand) → commands ≡ drill_commands seed
    → length commands ≤ 2 ^ 32
few-commands seed commands e =
    subst (λ (some : List ScriptCommand). length some ≤ 2 ^ 32) (sym e) (few_commands seed)
