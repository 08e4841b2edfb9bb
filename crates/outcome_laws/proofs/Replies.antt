-- Two replies to one query: they are one where both are come to in one way, and they always cost the same.
use Rattle.std.proofs.Common.{◌≡◌, ℕ, refl, ap, sym, ◌∙◌, Bool, true, false, List, ◌∷◌}
use Rattle.std.proofs.lemmas.Bool.{and_parts}
use Rattle.std.specs.Prelude.{Option, Some, None}
use Rattle.root2_cost.specs.declared.Cost.{Cost}
use Rattle.root2_cost.proofs.AtMost.{IsAtMost-antisymmetric}
use Rattle.grid_moves.specs.declared.Cell.{Cell}
use Rattle.grid_moves.specs.Grid.{GridData, is_free}
use Rattle.grid_moves.specs.Layers.{Layers, in_one_layer, query_grid}
use Rattle.grid_moves.specs.Reply.{StandsForLeast}
use Rattle.grid_moves.specs.Walk.{cost_of}
use Rattle.path_points.specs.declared.points.Walk as points
use Rattle.path_points.specs.Least.{IsLeastOrNone}
use Rattle.best_first.specs.declared.found.Found.{Found}
use Rattle.edit_replay.specs.Found.{reply_with}
use Rattle.edit_replay.specs.ReplyOf.{reply_of_ends, reply_finding}
use Rattle.edit_replay.specs.declared.engine.Engine.TheVariants as engine
use Rattle.jps_run.specs.Drill.{finding_of}
use Rattle.jps_run.specs.Replies.{By, by_session, by_small}
use Rattle.jps_run.specs.Who.{found_by, replies_by}
use Rattle.jps_run.specs.declared.replies.findings.Finding.TheVariants as finding
use Rattle.jps_run.proofs.Existing.{found_least}
use Rattle.outcome_laws.specs.Alike.{way_of}

-- what is found hangs on the way alone
found-way : (by : By) (g : GridData) (s t : Cell) → found_by by g s t ≡ found_by (way_of by) g s t
found-way (by_session engine.Plain) g s t = refl
found-way (by_session (engine.Jps layout)) g s t = refl
found-way (by_session (engine.Block layout)) g s t = refl
found-way (by_session (engine.Plus layout)) g s t = refl
found-way (by_small engine) g s t = refl

pub reply_alike : (by other : By) (ls : Layers) (s t : Cell) → way_of by ≡ way_of other
    → replies_by by ls s t ≡ replies_by other ls s t
reply_alike by other ls s t way =
    let g = query_grid ls s in
    ap (λ (f : Found). reply_finding ls s t f)
    (found-way by g s t ∙ ap (λ (by : By). found_by by g s t) way ∙ sym (found-way other g s t))

-- what points stand for costs the same
pub one_cost : (g : GridData) (s t : Cell) (ps qs : List Cell) (c d : Cost) → StandsForLeast g s t ps c
    → StandsForLeast g s t qs d → c ≡ d
one_cost g s t ps qs c d p q =
    sym p.priced
    ∙ IsAtMost-antisymmetric (cost_of (s ∷ p.cells)) (cost_of (s ∷ q.cells))
    (p.least.least q.cells q.least.walk)
    (q.least.least p.cells p.least.walk)
    ∙ q.priced

-- so two walks that are found come to the same, or none is found by either
walks_same : (g : GridData) (s t : Cell) (o p : Option points.Walk) (ms ns : List ℕ) → IsLeastOrNone g s t o
    → IsLeastOrNone g s t p → finding_of (reply_with o ms) ≡ finding_of (reply_with p ns)
walks_same g s t (Some v) (Some w) ms ns l m =
    ap (λ (cost : Cost). finding.Walk cost) (one_cost g s t v.points w.points v.cost w.cost l m)
walks_same g s t (Some v) None ms ns l none = absurd (none l.cells l.least.walk)
walks_same g s t None (Some w) ms ns none m = absurd (none m.cells m.least.walk)
walks_same g s t None None ms ns none nothing = refl

module _ (ls : Layers) (s t : Cell) (one other : By) where
  abbrev g : GridData
  g = query_grid ls s

  by_ends : (on free both : Bool) → in_one_layer ls s t ≡ both
      → finding_of (reply_of_ends on free both (found_by one g s t))
      ≡ finding_of (reply_of_ends on free both (found_by other g s t))
  by_ends false free both e = refl
  by_ends true false both e = refl
  by_ends true true false e = refl
  by_ends true true true e =
      let ends = and_parts (is_free g s) (is_free g t) e in
      walks_same g s t (found_by one g s t).walk (found_by other g s t).walk (found_by one g s t).taken
      (found_by other g s t).taken (found_least one g s t ends.0 ends.1)
      (found_least other g s t ends.0 ends.1)

  found_same : finding_of (reply_finding ls s t (found_by one g s t))
      ≡ finding_of (reply_finding ls s t (found_by other g s t))
  unfolding reply_finding
  found_same = by_ends _ _ (in_one_layer ls s t) refl

pub reply_found : (by other : By) (ls : Layers) (s t : Cell)
    → finding_of (replies_by by ls s t) ≡ finding_of (replies_by other ls s t)
reply_found by other ls s t = found_same ls s t by other
