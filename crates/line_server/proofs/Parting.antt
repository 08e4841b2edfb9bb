-- What labels tell of the replies of a session.
use Rattle.std.proofs.Common.{◌≡◌, refl, sym, ap, ◌∙◌, subst, true, false, List, ℕ, inl, inr}
use Rattle.std.specs.Prelude.{◌↔◌, IsTrue, codes, ◌&&◌, if◌then◌else◌}
use Rattle.std.proofs.lemmas.Bool.{and_from, cond-true}
use denote.Enum.Bare.{sameb}
use Rattle.word_list.specs.contracts.request.Show.{the_type}
use Rattle.grid_moves.specs.declared.Cell.{Cell}
use Rattle.grid_moves.specs.Layers.{AreLayers, Layers, in_one_layer, is_free_ground, is_on_map, query_grid}
use Rattle.grid_moves.specs.Reply.{IsRight}
use Rattle.joined_cells.specs.Joined.{IsJoined}
use Rattle.joined_cells.proofs.Layering.{joined_in_one_layer}
use Rattle.nearest_cell.specs.Nearest.{IsNearest}
use Rattle.nearest_cell.proofs.Lawful.{nearest_one}
use Rattle.nearest_cell.proofs.Listed.{nearest_of-first}
use Rattle.edit_replay.specs.Replies.{answer_of}
use Rattle.edit_replay.specs.ReplyOf.{reply_of}
use Rattle.edit_replay.specs.declared.engine.Engine.{Engine}
use Rattle.edit_replay.proofs.Grounds.{ends_free, ends_on}
use Rattle.edit_replay.proofs.Replying.{is_reply}
use Rattle.edit_replay.specs.declared.reply.Reply.{Reply}
use Rattle.edit_replay.specs.declared.reply.Reply.TheVariants as reply
use Rattle.grid_answers.proofs.Cells.{free-on}
use Rattle.word_list.specs.declared.request.Show.{Show}
use Rattle.word_list.specs.declared.request.Show.TheVariants.{Points, Cells, Trace, Taken}
use Rattle.reply_lines.specs.Lines.{Unfolds, reply_line}
use Rattle.reply_lines.specs.Replies.{is_walk, query_line}
use Rattle.reply_lines.proofs.Unfolding.{replied_unfolds}
use Rattle.line_server.specs.Answers.{near_line, nearest_by}

-- the reply of an engine is a walk exactly where one leads
module _ (engine : Engine) (ls : Layers) (are : AreLayers ls) (s : Cell) where
  right : (t : Cell) → IsRight ls s t (answer_of (reply_of engine ls s t))
  right t = (is_reply (record { engine = engine; layers = ls }) s t).right

  walk-joins : (t : Cell) (r : Reply) → IsRight ls s t (answer_of r) → is_walk r ≡ true
      → IsJoined (query_grid ls s) s t
  walk-joins t reply.Outside told is = absurd (cc)
  walk-joins t reply.Blocked told is = absurd (cc)
  walk-joins t (reply.None taken) told is = absurd (cc)
  walk-joins t (reply.Walk points cost taken) told is =
      record { cells = told.1.cells; walk = told.1.least.walk }

  joined-walks : (t : Cell) (r : Reply) → IsRight ls s t (answer_of r) → IsJoined (query_grid ls s) s t
      → is_walk r ≡ true
  joined-walks t reply.Outside told j =
      let free = ends_free ls are s t (joined_in_one_layer ls s t j) in
      absurd (let e : true ≡ false = sym (ends_on ls are s t free) ∙ told in cc)
  joined-walks t reply.Blocked told j =
      let free = ends_free ls are s t (joined_in_one_layer ls s t j) in
      absurd (let e : true ≡ false = sym free ∙ told.1 in cc)
  joined-walks t (reply.None taken) told j = elim told.1 [
    | inl two ↦ absurd (let e : true ≡ false = sym (joined_in_one_layer ls s t j) ∙ two in cc)
    | inr none ↦ absurd (none j.cells j.walk)
  ]
  joined-walks t (reply.Walk points cost taken) told j = refl

  walks-where-joined : (t : Cell) → IsTrue (is_walk (reply_of engine ls s t)) ↔ IsJoined (query_grid ls s) s t
  walks-where-joined t =
      (walk-joins t (reply_of engine ls s t) (right t), joined-walks t (reply_of engine ls s t) (right t))

  -- so the nearest cell is the one to which the replies lead
  pub nearest-is : (goal c : Cell) → is_free_ground ls s ≡ true → IsNearest (query_grid ls s) s goal c
      → c ≡ nearest_by (reply_of engine) ls s goal
  nearest-is goal c free nearest =
      nearest_one (query_grid ls s) s goal c (nearest_by (reply_of engine) ls s goal) nearest
      (nearest_of-first (λ t. is_walk (reply_of engine ls s t)) (query_grid ls s) s goal walks-where-joined
      (free-on ls s (query_grid ls s) refl free))

-- a right reply between cells of one layer that no walk joins is none
none-right : (ls : Layers) (s t : Cell) (width : ℕ) (show : Show) (r : Reply) → AreLayers ls
    → IsRight ls s t (answer_of r) → in_one_layer ls s t ≡ true → ¬ IsJoined (query_grid ls s) s t
    → sameb the_type show Trace ≡ false → codes "none\n" ≡ reply_line width show r
none-right ls s t width show reply.Outside are told one apart shows =
    absurd (let e : true ≡ false = sym (ends_on ls are s t (ends_free ls are s t one)) ∙ told in cc)
none-right ls s t width show reply.Blocked are told one apart shows =
    absurd (let e : true ≡ false = sym (ends_free ls are s t one) ∙ told.1 in cc)
none-right ls s t width Points (reply.None taken) are told one apart shows = refl
none-right ls s t width Cells (reply.None taken) are told one apart shows = refl
none-right ls s t width Taken (reply.None taken) are told one apart shows = refl
none-right ls s t width Trace (reply.None taken) are told one apart shows = absurd (cc)
none-right ls s t width show (reply.Walk points cost taken) are told one apart shows =
    absurd (apart (record { cells = told.1.cells; walk = told.1.least.walk }))

pub none-line : (engine : Engine) (show : Show) (ls : Layers) (s t : Cell) → AreLayers ls
    → in_one_layer ls s t ≡ true → ¬ IsJoined (query_grid ls s) s t → sameb the_type show Trace ≡ false
    → codes "none\n" ≡ query_line (reply_of engine) show ls s t
none-line engine show ls s t are one apart shows =
    none-right ls s t ls.land.width show (reply_of engine ls s t) are
    (is_reply (record { engine = engine; layers = ls }) s t).right one apart shows

pub reply-unfolds : (engine : Engine) (ls : Layers) (s t : Cell) (r : Reply) → r ≡ reply_of engine ls s t
    → Unfolds r
reply-unfolds engine ls s t r is = subst Unfolds (sym is)
    (replied_unfolds ls s t (reply_of engine ls s t)
    (is_reply (record { engine = engine; layers = ls }) s t).right)

-- the answer to `near` is the line of the query to the nearest cell
pub near-there : (engine : Engine) (show : Show) (ls : Layers) (s goal c : Cell)
    (text : List ℕ) → AreLayers ls
    → is_on_map ls s ≡ true → is_on_map ls goal ≡ true → is_free_ground ls s ≡ true
    → IsNearest (query_grid ls s) s goal c → text ≡ query_line (reply_of engine) show ls s c
    → text ≡ near_line (reply_of engine) show ls s goal
near-there engine show ls s goal c text are on onto free nearest is =
    let line : List ℕ = query_line (reply_of engine) show ls s (nearest_by (reply_of engine) ls s goal) in
    is ∙ ap (λ (d : Cell). query_line (reply_of engine) show ls s d)
    (nearest-is engine ls are s goal c free nearest)
    ∙ sym (cond-true (is_on_map ls s && is_on_map ls goal)
    (if is_free_ground ls s then line else codes "blocked\n") (codes "outside\n")
    (and_from (is_on_map ls s) (is_on_map ls goal) on onto)
    ∙ cond-true (is_free_ground ls s) line (codes "blocked\n") free)
