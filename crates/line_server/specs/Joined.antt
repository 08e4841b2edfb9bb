-- A session that knows which cells are joined. No public clause cites this module.
use Rattle.components.specs.Kept.{KeptLabels, Tells}
use Rattle.edit_replay.specs.Session.{SessionData}

-- the labels of both grids tell them
pub record KnowsJoined (session : SessionData) (of_land of_water : KeptLabels) : Type 0 where
  pub land : Tells session.layers.land of_land
  pub water : Tells session.layers.water of_water
