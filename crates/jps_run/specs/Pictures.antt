-- What `draw` prints.
use Rattle.std.specs.Prelude.{◌≡◌, ℕ, List, codes, Option, Some, None}
use Rattle.grid_moves.specs.declared.Cell.{Cell}
use Rattle.map_text.specs.Map.{Map}
use Rattle.map_text.specs.Faults.{plain}
use Rattle.edit_replay.specs.declared.reply.Reply.{Reply}
use Rattle.edit_replay.specs.declared.reply.Reply.TheVariants as reply
use Rattle.picture.specs.Picture.{picture_of}
use Rattle.word_list.specs.declared.request.Settings.{Settings}
use Rattle.word_list.specs.declared.request.Show.{Show}
use Rattle.word_list.specs.declared.request.Show.TheVariants.{Points, Cells, Trace, Taken}
use Rattle.grid_moves.specs.Layers.{Layers}
use Rattle.jps_run.specs.Parts.{Prints, Output, printed}
use Rattle.jps_run.specs.Replies.{Replies}
use Rattle.jps_run.specs.Session.{IsSessionOn, session_replies}
use Rattle.jps_run.specs.declared.replies.drawing.Canvas.{Canvas}

-- the states that a search took, where a picture shows them
abbrev pub drawn_states : Show → List ℕ → Option (List ℕ)
drawn_states Points taken = None
drawn_states Cells taken = None
drawn_states Trace taken = Some taken
drawn_states Taken taken = None

-- what is printed for the reply to a query from s to t on a map
abbrev pub drawing_of : Map → Cell → Cell → Show → Reply → List ℕ
drawing_of m s t show reply.Outside = codes "outside\n"
drawing_of m s t show reply.Blocked = codes "blocked\n"
drawing_of m s t show (reply.None taken) = picture_of m s t None (drawn_states show taken)
drawing_of m s t show (reply.Walk points cost taken) =
    picture_of m s t (Some (record { points = points; cost = cost })) (drawn_states show taken)

-- the status after it
abbrev pub drawing_status : Reply → ℕ
drawing_status reply.Outside = 1
drawing_status reply.Blocked = 1
drawing_status (reply.None taken) = 0
drawing_status (reply.Walk points cost taken) = 0

-- what is drawn of a query from s to t, and the status
abbrev pub drawing : Replies → Show → Map → Layers → Cell → Cell → Output
drawing replies show m ls s t =
    printed (drawing_of m s t show (replies ls s t)) (drawing_status (replies ls s t))

-- the lines and the status are those of a drawing
abbrev pub IsPictured : Canvas → Cell → Cell → Show → List (List ℕ) → ℕ → Type 0
IsPictured canvas s t show =
    Prints (drawing (session_replies canvas.session) show (plain canvas.map) canvas.session.layers s t)

-- a map, and the session on it, as the settings ask
abbrev pub IsCanvasOf : Settings → Map → Canvas → Type 0
IsCanvasOf set m canvas = (plain canvas.map ≡ m) × IsSessionOn set m canvas.session
