-- The reply that the function gives is right, and the run of the session's engine.
use Rattle.std.proofs.Common.{◌≡◌, ℕ, Bool, true, false, inr, inl, refl, ◌&&◌, List}
use Rattle.std.specs.Prelude.{Option, MatchOption}
use Rattle.std.specs.Prelude as option
use Rattle.grid_moves.specs.declared.Cell.{Cell}
use Rattle.grid_moves.specs.Grid.{GridData, is_free}
use Rattle.grid_moves.specs.Layers.{Layers, in_one_layer, is_on_map, query_grid}
use Rattle.grid_moves.specs.Reply.{IsRight, are_free_ends}
use Rattle.path_points.specs.declared.points.Walk as points
use Rattle.path_points.specs.Least.{IsLeastOrNone}
use Rattle.best_first.specs.Answer.{AnswersAre}
use Rattle.best_first.specs.declared.found.Found.{Found}
use Rattle.plain_search.proofs.Answering as plainly
use Rattle.search_core.proofs.Answering as jumping
use Rattle.edit_replay.specs.Found.{reply_with}
use Rattle.edit_replay.specs.Replies.{Exhausts, Finds, IsRunReply, answer_of}
use Rattle.edit_replay.specs.Session.{SessionData}
use Rattle.edit_replay.specs.ReplyOf.{IsReplyOf, found_with, reply_finding, reply_of, reply_of_ends}
use Rattle.edit_replay.specs.ReplyOf.{states_of}
use Rattle.edit_replay.specs.declared.engine.Engine.{Engine}
use Rattle.edit_replay.specs.declared.engine.Engine.TheVariants as engine

-- the answer and the taken states are those of the engine's run
abbrev pub IsFoundBy : Engine → GridData → Cell → Cell → Found → Type 0
IsFoundBy e g s t f = MatchOption f.walk (Exhausts e g s t f.taken)
    (λ w. Finds e g s t w.points w.cost f.taken)

pub founds_are : (e : Engine) → AnswersAre (IsFoundBy e) (found_with (states_of e))
founds_are engine.Plain = plainly.answers_are
founds_are (engine.Jps l) = jumping.answers_are l
founds_are (engine.Block l) = jumping.answers_are l
founds_are (engine.Plus l) = jumping.answers_are l

and_first : (a b : Bool) → (a && b) ≡ true → a ≡ true
and_first true b e = refl
and_first false b e = absurd (cc)

-- what is found between free cells of one grid makes a right reply on the map
module _ (ls : Layers) (s t : Cell) (found : Found)
    (least : in_one_layer ls s t ≡ true → IsLeastOrNone (query_grid ls s) s t found.walk) where
  by_walk : are_free_ends ls s t ≡ true → in_one_layer ls s t ≡ true → (walk : Option points.Walk)
      (taken : List ℕ) → IsLeastOrNone (query_grid ls s) s t walk
      → IsRight ls s t (answer_of (reply_with walk taken))
  by_walk free one (option.Some w) taken stands = (one, stands)
  by_walk free one option.None taken none = (free, inr none)

  right_as : (on free one : Bool) → (is_on_map ls s && is_on_map ls t) ≡ on → are_free_ends ls s t ≡ free
      → in_one_layer ls s t ≡ one → IsRight ls s t (answer_of (reply_of_ends on free one found))
  right_as false free one off e f = off
  right_as true false one on blocked f = (on, blocked)
  right_as true true false on free two = (free, inl two)
  right_as true true true on free one = by_walk free one found.walk found.taken (least one)

  pub right_where : IsRight ls s t (answer_of (reply_finding ls s t found))
  unfolding reply_finding
  right_where = right_as (is_on_map ls s && is_on_map ls t) (are_free_ends ls s t) (in_one_layer ls s t)
      refl refl refl

module _ (d : SessionData) (s t : Cell) where
  abbrev found : Found
  found = found_with (states_of d.engine) (query_grid d.layers s) s t

  by_run : in_one_layer d.layers s t ≡ true → (walk : Option points.Walk) (taken : List ℕ)
      → IsFoundBy d.engine (query_grid d.layers s) s t (record { walk = walk; taken = taken })
      → IsRunReply d s t (reply_with walk taken)
  by_run one (option.Some w) taken run = run
  by_run one option.None taken run = rw one run

  run_as : (on free one : Bool) → in_one_layer d.layers s t ≡ one
      → IsRunReply d s t (reply_of_ends on free one found)
  run_as false free one e = tt
  run_as true false one e = tt
  run_as true true false two = rw two refl
  run_as true true true one =
      by_run one found.walk found.taken ((founds_are d.engine).run (query_grid d.layers s) s t)

  pub is_reply : IsReplyOf d s t (reply_of d.engine d.layers s t)
  unfolding reply_finding
  is_reply = record {
    right = right_where d.layers s t found
        (λ one. (founds_are d.engine).least (query_grid d.layers s) s t
        (and_first (is_free (query_grid d.layers s) s) (is_free (query_grid d.layers s) t) one));
    run = run_as (is_on_map d.layers s && is_on_map d.layers t) (are_free_ends d.layers s t)
        (in_one_layer d.layers s t) refl;
  }
