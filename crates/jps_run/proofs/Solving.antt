-- The answers to commands.
use Rattle.std.proofs.Common.{◌≡◌, refl, sym, ap, ◌∙◌, List, [], ◌∷◌, ◌++◌, ℕ, inl, inr, true, false}
use Rattle.std.proofs.Common.{length, suc, arith}
use Rattle.std.specs.Prelude.{◌≢◌, Result, Ok, Err, OnOk}
use Rattle.std.specs.List.{fold}
use Rattle.std.proofs.lemmas.List.{append-nil}
use Rattle.grid_moves.specs.Layers.{Layers}
use Rattle.edit_replay.specs.Edited.{Edit, edited}
use Rattle.edit_replay.specs.Session.{SessionData}
use Rattle.edit_replay.specs.declared.engine.Engine.{Engine}
use Rattle.edit_replay.proofs.Edits.{edited-nothing}
use Rattle.script_text.specs.declared.command.ScriptCommand.{ScriptCommand}
use Rattle.script_text.specs.declared.command.ScriptCommand.TheVariants.{Query}
use Rattle.word_list.specs.declared.request.Show.{Show}
use Rattle.jps_run.specs.Answers.{answer_line, edits_with, in_turn}
use Rattle.jps_run.specs.Answering.{GoesOn, HasAnswered, IsSolved}
use Rattle.jps_run.specs.Session.{session_replies, session_after}
use Rattle.line_work.specs.Working.{Adds, CanComplete, IsLeft}
use Rattle.jps_run.specs.declared.replies.answers.Answers.{Answers}
use Rattle.std.proofs.lemmas.List.Sums.{fold_push}

-- a query leaves the session as it is
pub query-goes-on : {T E : Type 0} (result : Result T E) (old new : SessionData) (command : ScriptCommand)
    (sx sy gx gy : ℕ) → new ≡ old → command ≡ Query sx sy gx gy → OnOk result (GoesOn old command new)
query-goes-on (Err error) old new command sx sy gx gy same is = tt
query-goes-on (Ok done) old new command sx sy gx gy same is = record {
  engine = ap (λ (d : SessionData). d.engine) same;
  layers = λ m edits e.
      ap (λ (d : SessionData). d.layers) same ∙ e ∙ ap (λ (all : List Edit). edited m all)
      (sym (ap (λ (c : ScriptCommand). edits_with edits c) is ∙ append-nil edits));
}

same_session : (d : SessionData) (engine : Engine) (layers : Layers) → d.engine ≡ engine → d.layers ≡ layers
    → d ≡ record { engine = engine; layers = layers }
same_session d engine layers e l = rw (← e, ← l) refl

-- the session goes on from edits to these and the command's
pub after-more : (d old new : SessionData) (edits : List Edit) (command : ScriptCommand)
    → GoesOn old command new
    → old ≡ session_after d edits → new ≡ session_after d (edits_with edits command)
after-more d old new edits command on e =
    same_session new d.engine (edited d.layers (edits_with edits command))
    (on.engine ∙ ap (λ (k : SessionData). k.engine) e)
    (on.layers d.layers edits (ap (λ (k : SessionData). k.layers) e))

-- and so from commands to one command more
pub session-more : (d old new : SessionData) (commands : List ScriptCommand) (command : ScriptCommand)
    → old ≡ session_after d (fold edits_with [] commands) → GoesOn old command new
    → new ≡ session_after d (fold edits_with [] (commands ++ command ∷ []))
session-more d old new commands command e on =
    after-more d old new (fold edits_with [] commands) command on e
    ∙ ap (λ (all : List Edit). session_after d all)
    (sym (fold_push edits_with [] commands command))

-- what more commands give stands behind what the first ones give
module _ {Y : Type 0} (give : Layers → ScriptCommand → Y) (ls : Layers) where
  pub in_turn-more : (edits : List Edit) (some others : List ScriptCommand)
      → in_turn give ls edits (some ++ others)
      ≡ in_turn give ls edits some ++ in_turn give ls (fold edits_with edits some) others
  in_turn-more edits [] others = refl
  in_turn-more edits (c ∷ some) others = ap (λ (l : List Y). give (edited ls edits) c ∷ l)
      (in_turn-more (edits_with edits c) some others)

  in_turn-count : (edits : List Edit) (commands : List ScriptCommand)
      → length (in_turn give ls edits commands) ≡ length commands
  in_turn-count edits [] = refl
  in_turn-count edits (c ∷ commands) = ap (λ n. suc n) (in_turn-count (edits_with edits c) commands)

-- one command more is answered
pub answered-more : {T E : Type 0} (result : Result T E) (job now : Answers) (command : ScriptCommand)
    (before after : List ℕ) → now.show ≡ job.show
    → OnOk result (after ≡ before ++ answer_line
    (session_replies job.session) job.show job.session.layers command)
    → OnOk result (GoesOn job.session command now.session)
    → OnOk result ((first : Answers) (commands : List ScriptCommand) (lines : List (List ℕ))
    → HasAnswered first job commands lines
    → Adds (HasAnswered first now (commands ++ command ∷ [])) lines before after)
answered-more (Err error) job now command before after same p on = tt
answered-more (Ok done) job now command before after same p on = λ first commands lines h.
    let edits : List Edit = fold edits_with [] commands in
    let give : Layers → ScriptCommand → List ℕ = answer_line (session_replies first.session) first.show in
    let line : List ℕ = give (edited first.session.layers edits) command in
    let is : answer_line (session_replies job.session) job.show job.session.layers command ≡ line =
    ap (λ (d : SessionData). answer_line (session_replies d) job.show d.layers command) h.session
    ∙ ap (λ (show : Show). answer_line (session_replies first.session) show
    (edited first.session.layers edits) command)
    h.show in
    record {
      more = line ∷ [];
      stand = record {
        answers = ap (λ (l : List (List ℕ)). l ++ line ∷ []) h.answers
            ∙ sym (in_turn-more give first.session.layers [] commands (command ∷ []));
        session = session-more first.session job.session now.session commands command h.session on;
        show = same ∙ h.show;
      };
      appended = p ∙ ap (λ (l : List ℕ). before ++ l) (is ∙ sym (append-nil line));
    }

-- the first answers can be completed, with a line for each command that is left
pub answers-complete : CanComplete HasAnswered IsSolved false
answers-complete first now some others lines h =
    let give : Layers → ScriptCommand → List ℕ = answer_line (session_replies first.session) first.show in
    let edits : List Edit = fold edits_with [] some in
    let more : List (List ℕ) = in_turn give first.session.layers edits others in
    record {
      more = more;
      status = 0;
      whole = record {
        all = ap (λ (l : List (List ℕ)). l ++ more) h.answers
            ∙ sym (in_turn-more give first.session.layers [] some others);
        code = refl;
      };
      some = λ left. left-over others more left (in_turn-count give first.session.layers edits others);
    }
  where
    left-over : (others : List ScriptCommand) (more : List (List ℕ)) → IsLeft false others
        → length more ≡ length others → more ≢ []
    left-over [] more (inl left) e = absurd (left refl)
    left-over (c ∷ others) [] (inl left) e = absurd (omega arith)
    left-over (c ∷ others) (line ∷ more) (inl left) e = λ empty. (let never : line ∷ more ≡ [] = empty in cc)
    left-over others more (inr closed) e = absurd (let never : false ≡ true = closed in cc)

pub nothing_edited : (d : SessionData) → d ≡ session_after d []
nothing_edited d = same_session d d.engine (edited d.layers []) refl (sym (edited-nothing d.layers))

-- nothing is answered yet
pub answered-none : (job : Answers) → HasAnswered job job [] []
answered-none job = record { answers = refl; session = nothing_edited job.session; show = refl }
