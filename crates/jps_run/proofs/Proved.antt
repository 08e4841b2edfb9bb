-- What `prove` prints by the replies of the plain engine is the certificate of its walk.
use Rattle.std.proofs.Common.{◌≡◌, refl, ap, Bool, true, false, ◌&&◌, List, ℕ}
use Rattle.std.specs.Prelude.{Option, Some, None, if◌then◌else◌, codes}
use Rattle.std.specs.Option.{option_map_or}
use Rattle.grid_moves.specs.declared.Cell.{Cell}
use Rattle.grid_moves.specs.Layers.{Layers, in_one_layer, is_on_map, query_grid}
use Rattle.grid_moves.specs.Reply.{are_free_ends}
use Rattle.path_points.specs.declared.points.Walk.{Walk}
use Rattle.best_first.specs.declared.found.Found.{Found}
use Rattle.plain_search.specs.Answer.{plain_found}
use Rattle.edit_replay.specs.Found.{reply_with}
use Rattle.edit_replay.specs.ReplyOf.{reply_finding, reply_of_ends}
use Rattle.edit_replay.specs.declared.engine.Engine.TheVariants as engine
use Rattle.potential_make.specs.Made.{certificate_on, made_certificate, made_claim}
use Rattle.grid_answers.specs.Certificates.{proof_answer, proof_status}
use Rattle.jps_run.specs.Parts.{printed}
use Rattle.jps_run.specs.Proving.{proving, walk_of}
use Rattle.jps_run.specs.Who.{by_session, replies_by}

-- the walk of the reply is what was found
walk_of-found : (walk : Option Walk) (taken : List ℕ) → walk_of (reply_with walk taken) ≡ walk
walk_of-found None taken = refl
walk_of-found (Some w) taken = refl

-- why nothing is proved, by the tests of the ends
abbrev why : Bool → Bool → Bool → Option (List ℕ)
why on free one = if on then (if free then (if one then None else Some (codes "apart\n"))
    else Some (codes "blocked\n")) else Some (codes "outside\n")

by_ends : (ls : Layers) (s t : Cell) (found : Found) (on free one : Bool)
    → option_map_or (λ line. line) (why on free one)
    (certificate_on (query_grid ls s) s t (walk_of (reply_of_ends on free one found)))
    ≡ option_map_or (λ line. line) (why on free one) (certificate_on (query_grid ls s) s t found.walk)
by_ends ls s t found false free one = refl
by_ends ls s t found true false one = refl
by_ends ls s t found true true false = refl
by_ends ls s t found true true true =
    ap (λ (walk : Option Walk). certificate_on (query_grid ls s) s t walk)
    (walk_of-found found.walk found.taken)

pub proving-plain : (ls : Layers) (s t : Cell)
    → proving (replies_by (by_session engine.Plain)) ls s t
    ≡ printed (proof_answer ls s t) (proof_status ls s t)
unfolding reply_finding proof_answer made_certificate made_claim
proving-plain ls s t = ap (λ (text : List ℕ). printed text (proof_status ls s t))
    (by_ends ls s t (plain_found (query_grid ls s) s t) (is_on_map ls s && is_on_map ls t)
    (are_free_ends ls s t) (in_one_layer ls s t))
