-- The steps that are counted: of what is answered in turn, of commands, and of entries.
use Rattle.std.proofs.Common.{◌≡◌, ◌∙◌, refl, subst, List, [], ◌∷◌, ◌++◌, ℕ}
use Rattle.std.specs.Prelude.{Result, Ok, Err, OnOk}
use Rattle.std.specs.List.{fold}
use Rattle.edit_replay.specs.Edited.{Edit}
use Rattle.edit_replay.specs.Session.{SessionData}
use Rattle.scen_text.specs.declared.entry.Entry.{Entry}
use Rattle.script_text.specs.declared.command.ScriptCommand.{ScriptCommand}
use Rattle.jps_run.specs.Answerers.{who_of}
use Rattle.jps_run.specs.Answering.{GoesOn, HaveCounted}
use Rattle.jps_run.specs.Answers.{edits_with}
use Rattle.jps_run.specs.ScenRows as scen
use Rattle.jps_run.specs.Rising.{RoseAfter, RoseForCommand, RoseForCommands, RoseForEntry, RoseInTurn}
use Rattle.jps_run.specs.Session.{session_after}
use Rattle.jps_run.specs.declared.replies.answerer.Answerer.{Answerer}
use Rattle.jps_run.specs.declared.replies.answers.Answers.{Answers}
use Rattle.jps_run.specs.declared.replies.scenario.Scen.{Scen}
use Rattle.jps_run.proofs.Solving.{after-more, nothing_edited, session-more}

-- what holds where it is done, holds of more
pub on_ok : {T E : Type 0} {P Q : Type 0} (result : Result T E) → (P → Q) → OnOk result P → OnOk result Q
on_ok (Ok done) more p = more p
on_ok (Err error) more p = tt

module _ {S X : Type 0} (Rose : S → X → ℕ → ℕ → Type 0) (next : S → X → S) where
  -- one item more
  pub turns-rise : (s : S) (xs : List X) (x : X) (start old new : ℕ) → RoseInTurn Rose next s xs start old
      → Rose (fold next s xs) x old new → RoseInTurn Rose next s (xs ++ x ∷ []) start new
  turns-rise s [] x start old new t h = (new, subst (λ (n : ℕ). Rose s x n new) t h, refl)
  turns-rise s (u ∷ xs) x start old new t h = (t.0, t.1, turns-rise (next s u) xs x t.0 old new t.2 h)

-- one command more, on the session as the earlier ones leave it
pub rose-more : (first old_job new_job : SessionData) (commands : List ScriptCommand)
    (command : ScriptCommand)
    (start old new : ℕ) → old_job ≡ session_after first (fold edits_with [] commands)
    → GoesOn old_job command new_job → RoseForCommands first commands start old
    → RoseForCommand old_job new_job command old new
    → RoseForCommands first (commands ++ command ∷ []) start new
rose-more first old_job new_job commands command start old new at on rose more =
    let edits : List Edit = fold edits_with [] commands in
    let here : RoseForCommand (session_after first edits) new_job command old new =
    subst (λ (d : SessionData). RoseForCommand d new_job command old new) at more in
    turns-rise (RoseAfter first) edits_with [] commands command start old new rose
    (subst (λ (d : SessionData). RoseForCommand (session_after first edits) d command old new)
    (after-more first old_job new_job edits command on at) here)

-- of commands that answers are given to
pub taken-none : (job : Answers) (start : ℕ) → HaveCounted job job [] start start
taken-none job start = record { rose = refl; session = nothing_edited job.session }

pub taken-more : {T E : Type 0} (result : Result T E) (job now : Answers) (command : ScriptCommand)
    (old new : ℕ)
    → OnOk result (GoesOn job.session command now.session)
    → OnOk result (RoseForCommand job.session now.session command old new)
    → OnOk result ((first : Answers) (commands : List ScriptCommand) (start : ℕ)
    → HaveCounted first job commands start old → HaveCounted first now (commands ++ command ∷ []) start new)
taken-more (Err error) job now command old new on more = tt
taken-more (Ok done) job now command old new on more = λ first commands start h. record {
  rose = rose-more first.session job.session now.session commands command start old new h.session on
      h.rose more;
  session = session-more first.session job.session now.session commands command h.session on;
}

-- one entry more that is judged
pub counted-entry : {T E : Type 0} (result : Result T E) (job now : Scen) (entry : Entry) (old new : ℕ)
    → now.answerer ≡ job.answerer → RoseForEntry (who_of job.answerer) entry old new
    → OnOk result ((first : Scen) (entries : List Entry) (start : ℕ)
    → scen.HaveCounted first job entries start old
    → scen.HaveCounted first now (entries ++ entry ∷ []) start new)
counted-entry (Err error) job now entry old new same more = tt
counted-entry (Ok done) job now entry old new same more = λ first entries start h. record {
  rose = turns-rise {S = Unit {0}} (λ _ e. RoseForEntry (who_of first.answerer) e) (λ s _. s) tt entries
      entry start
      old new h.rose (subst (λ (a : Answerer). RoseForEntry (who_of a) entry old new) h.same more);
  same = same ∙ h.same;
}
