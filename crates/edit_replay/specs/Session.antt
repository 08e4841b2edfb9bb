-- What a session stands for.
use Rattle.grid_moves.specs.Layers.{Layers}
use Rattle.edit_replay.specs.declared.engine.Engine.{Engine}

-- a session's plain data: how it searches, and the current layers of its map, which have its corner rule
pub record SessionData : Type 0 where
  pub engine : Engine
  pub layers : Layers
