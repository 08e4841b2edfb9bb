-- How those who answer are kept.
use Rattle.std.specs.Prelude.{◌≡◌, ⊤}
use Rattle.map_text.specs.Map.{Map}
use Rattle.goal_boxes.specs.Stored.{HoldsBoxes}
use Rattle.first_moves.specs.Row.{AreMoves}
use Rattle.word_list.specs.declared.request.Settings.{Settings}
use Rattle.word_list.specs.declared.request.SmallEngine.TheVariants.{Boxes, Moves}
use Rattle.call_files.specs.Reading.{AreSmall}
use Rattle.jps_run.specs.Session.{who_on}
use Rattle.jps_run.specs.Who.{Who, by_small, who_is}
use Rattle.jps_run.specs.declared.replies.answerer.Answerer.{Answerer}
use Rattle.jps_run.specs.declared.replies.answerer.Answerer.TheVariants as answerer
use Rattle.jps_run.specs.declared.replies.answerer.Basis.{Basis}
use Rattle.jps_run.specs.declared.replies.answerer.Basis.TheVariants as basis

-- who answers by what is made of a map at once
abbrev pub who_from : Basis → Who
who_from (basis.Session session) = who_is session
who_from (basis.Small layers engine) = record { layers = layers; by = by_small engine }

-- the grids of an engine of small maps are small
abbrev pub IsFit : Basis → Type 0
IsFit (basis.Session session) = ⊤
IsFit (basis.Small layers engine) = AreSmall layers

-- this was made of a map, as the settings ask
abbrev pub IsBasisOn : Settings → Map → Basis → Type 0
IsBasisOn set m made = (who_from made ≡ who_on set m) × IsFit made

-- who answers by a session, or by what is kept of all cells of a small map
abbrev pub who_of : Answerer → Who
who_of (answerer.Session session) = who_is session
who_of (answerer.Boxes library) = record { layers = library.layers; by = by_small Boxes }
who_of (answerer.Moves library) = record { layers = library.layers; by = by_small Moves }

-- queries can be answered: what is kept are the boxes, or the first moves, of both grids
abbrev pub CanAnswer : Answerer → Type 0
CanAnswer (answerer.Session session) = ⊤
CanAnswer (answerer.Boxes library) = AreSmall library.layers × HoldsBoxes library.layers.land library.land
    × HoldsBoxes library.layers.water library.water
CanAnswer (answerer.Moves library) = AreSmall library.layers × AreMoves library.layers.land library.land
    × AreMoves library.layers.water library.water
