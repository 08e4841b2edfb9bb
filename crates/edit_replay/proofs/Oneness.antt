-- A reply that is right and the run of the session's engine is the one that the function gives.
use Rattle.std.proofs.Common.{◌≡◌, ℕ, refl, ap, Bool, true, false, List, []}
use Rattle.std.specs.Prelude.{IfOk, MatchBool, Ok, Err}
use Rattle.std.specs.Prelude as option
use Rattle.std.specs.declared.result.Result.{Result}
use Rattle.grid_moves.specs.declared.Cell.{Cell}
use Rattle.grid_moves.specs.Layers.{AreLayers, in_one_layer, query_grid}
use Rattle.grid_moves.specs.Reply.{IsRight}
use Rattle.best_first.specs.declared.found.Found.{Found}
use Rattle.edit_replay.specs.Found.{reply_with}
use Rattle.edit_replay.specs.Replies.{answer_of, Exhausts, IsRunReply}
use Rattle.edit_replay.specs.Session.{SessionData}
use Rattle.edit_replay.specs.ReplyOf.{IsReplyOf, found_with, reply_finding, reply_of, reply_of_ends}
use Rattle.edit_replay.specs.ReplyOf.{states_of}
use Rattle.edit_replay.specs.declared.reply.Reply.{Reply}
use Rattle.edit_replay.specs.declared.reply.Reply.TheVariants.{Walk, None, Outside, Blocked}
use Rattle.edit_replay.proofs.Grounds.{ends_free, ends_on}
use Rattle.edit_replay.proofs.Replying.{IsFoundBy, founds_are}

module _ (d : SessionData) (are : AreLayers d.layers) (s t : Cell) where
  abbrev found : Found
  found = found_with (states_of d.engine) (query_grid d.layers s) s t

  -- the reply of a search is that of what is found
  searched : (f : Found) → IsFoundBy d.engine (query_grid d.layers s) s t f
      → reply_with f.walk f.taken ≡ reply_with found.walk found.taken
  searched f is =
      ap (λ (h : Found). reply_with h.walk h.taken)
      ((founds_are d.engine).only (query_grid d.layers s) s t f is)

  by_layer : (ms : List ℕ) (one : Bool)
      → MatchBool one (Exhausts d.engine (query_grid d.layers s) s t ms) (ms ≡ [])
      → None ms ≡ reply_of_ends true true one found
  by_layer ms true is = searched (record { walk = option.None; taken = ms }) is
  by_layer ms false is = ap (λ (ns : List ℕ). None ns) is

  pub only : (reply : Reply) → IsReplyOf d s t reply → reply ≡ reply_of d.engine d.layers s t
  unfolding reply_finding
  only (Walk ps c ms) p =
      let free = ends_free d.layers are s t p.right.0 in
      rw (ends_on d.layers are s t free, free, p.right.0)
      (searched (record { walk = option.Some (record { points = ps; cost = c }); taken = ms }) p.run)
  only (None ms) p =
      rw (ends_on d.layers are s t p.right.0, p.right.0) (by_layer ms (in_one_layer d.layers s t) p.run)
  only Outside p = rw p.right refl
  only Blocked p = rw (p.right.0, p.right.1) refl

  pub result_known : {E : Type 0} (result : Result Reply E)
      → IfOk result (λ reply. IsRight d.layers s t (answer_of reply)) → IfOk result (IsRunReply d s t)
      → IfOk result (λ reply. reply ≡ reply_of d.engine d.layers s t)
  result_known (Ok reply) right run = only reply (record { right = right; run = run })
  result_known (Err fault) right run = tt
