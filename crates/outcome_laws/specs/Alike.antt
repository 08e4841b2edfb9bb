-- Who answers alike.
use Rattle.std.specs.Prelude.{◌≡◌, refl, ℕ, List, ◌++◌}
use Rattle.best_first.specs.declared.state.Layout.{Layout}
use Rattle.edit_replay.specs.declared.engine.Engine.TheVariants as engine
use Rattle.jps_run.specs.Replies.{By, by_session, by_small}

-- the way in which replies are come to, where all engines that jump by the same rule of states have one
abbrev pub way_of : By → By
way_of (by_session engine.Plain) = by_session engine.Plain
way_of (by_session (engine.Jps layout)) = by_session (engine.Jps layout)
way_of (by_session (engine.Block layout)) = by_session (engine.Jps layout)
way_of (by_session (engine.Plus layout)) = by_session (engine.Jps layout)
way_of (by_small engine) = by_small engine

-- all these lines begin with the first ones
abbrev pub BeginWith : List (List ℕ) → List (List ℕ) → Type 0
BeginWith all first = (more : List (List ℕ)) × (all ≡ first ++ more)

-- the engines that jump answer alike
pub jps_like_plus : (layout : Layout) → way_of (by_session (engine.Jps layout))
    ≡ way_of (by_session (engine.Plus layout))
jps_like_plus layout = refl

pub block_like_plus : (layout : Layout) → way_of (by_session (engine.Block layout))
    ≡ way_of (by_session (engine.Plus layout))
block_like_plus layout = refl
