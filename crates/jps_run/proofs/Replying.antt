-- Replies on one grid are replies on the map.
use Rattle.std.proofs.Common.{◌≡◌, ◌<◌, ◌≤◌, ◌+◌, ◌*◌, ◌^◌, Bool, true, false, refl, ap, sym, subst, ◌∙◌, ◌∷◌}
use Rattle.std.proofs.Common.{ℕ, arith, length, List, []}
use Rattle.std.specs.Prelude.{Result, Ok, Err, IfOk, Option, if◌then◌else◌, ◌&&◌}
use Rattle.std.specs.Prelude as option
use Rattle.std.proofs.lemmas.Bool.{and_parts}
use Rattle.root2_cost.specs.declared.Cost.{Cost}
use Rattle.grid_moves.specs.declared.Cell.{Cell}
use Rattle.grid_moves.specs.declared.ends.Unsearched.{Unsearched}
use Rattle.grid_moves.specs.declared.ends.Unsearched.TheVariants as why
use Rattle.grid_moves.specs.declared.ends.Ends.{Ends}
use Rattle.grid_moves.specs.Ends.{AreEnds, IsUnsearched}
use Rattle.grid_moves.specs.Grid.{GridData, is_free}
use Rattle.grid_moves.specs.Layers.{Layers, in_one_layer, is_on_map, query_grid}
use Rattle.grid_moves.specs.Reply.{IsRight, are_free_ends}
use Rattle.grid_moves.specs.Walk.{cost_of}
use Rattle.path_points.specs.declared.points.Walk as points
use Rattle.path_points.specs.Least.{IsLeastOrNone}
use Rattle.best_first.specs.declared.found.Found.{Found}
use Rattle.edit_replay.specs.Found.{reply_with, reply_without}
use Rattle.edit_replay.specs.ReplyOf.{reply_finding}
use Rattle.edit_replay.specs.Replies.{IsShort, answer_of}
use Rattle.edit_replay.specs.declared.reply.Reply.{Reply}
use Rattle.edit_replay.specs.declared.reply.Reply.TheVariants.{Walk, None, Outside, Blocked}
use Rattle.grid_moves.proofs.Short.{least_steps, steps-cost_of}
use Rattle.goal_boxes.specs.Answer.{IsBoxedRunOn}
use Rattle.goal_boxes.proofs.Answering as boxed
use Rattle.first_moves.specs.Follow.{IsLedOrNone}
use Rattle.first_moves.proofs.Following.{stands}
use Rattle.first_moves.proofs.Led.{walks_are}
use Rattle.call_files.specs.Reading.{AreSmall}
use Rattle.word_list.specs.declared.request.SmallEngine.TheVariants.{Boxes, Moves}
use Rattle.jps_run.specs.Who.{By, IsFoundReply, Who, by_small, found_by, replies_by, reply_to}

-- between free cells of one grid the reply is that of what is found there
searched : (ls : Layers) (by : By) (s t : Cell) → (is_on_map ls s && is_on_map ls t) ≡ true
    → are_free_ends ls s t ≡ true → in_one_layer ls s t ≡ true
    → replies_by by ls s t
    ≡ reply_with (found_by by (query_grid ls s) s t).walk (found_by by (query_grid ls s) s t).taken
unfolding reply_finding
searched ls by s t on free one = rw (on, free, one) refl

-- so what was found on the grid of the query, between its ends, is replied on the map
pub result-on-map : {E : Type 0} (result : Result Reply E) (ls : Layers) (by : By) (g : GridData)
    (s t : Cell) (ends : Ends)
    → AreEnds ls s t ends → g ≡ query_grid ls ends.from
    → IfOk result (IsFoundReply by g ends.from ends.to) → IfOk result (λ reply. reply ≡ replies_by by ls s t)
result-on-map (Err error) ls by g s t ends are same found = tt
result-on-map (Ok reply) ls by g s t ends are same found =
    let at : g ≡ query_grid ls s = same ∙ ap (λ (c : Cell). query_grid ls c) are.from in
    let there : IsFoundReply by (query_grid ls s) s t reply =
    subst (λ (k : GridData). IsFoundReply by k s t reply) at
    (subst (λ (c : Cell). IsFoundReply by g s c reply) are.to
    (subst (λ (c : Cell). IsFoundReply by g c ends.to reply) are.from found)) in
    there.is ∙ sym (searched ls by s t are.on are.free are.one)

-- both ends are free there
pub goal-free : (ls : Layers) (g : GridData) (s t from to : Cell) → from ≡ s → to ≡ t → g ≡ query_grid ls from
    → in_one_layer ls s t ≡ true → is_free g to ≡ true
goal-free ls g s t from to e f same one =
    subst (λ (k : GridData). is_free k to ≡ true) (sym same)
    (subst (λ (c : Cell). is_free (query_grid ls c) to ≡ true) (sym e)
    (subst (λ (c : Cell). is_free (query_grid ls s) c ≡ true) (sym f)
    (and_parts (is_free (query_grid ls s) s) (is_free (query_grid ls s) t) one).1))

-- where nothing is searched, the reply says why
pub unsearched_is : (who : Who) (s t : Cell) (reason : Unsearched) → IsUnsearched who.layers s t reason
    → reply_without reason ≡ reply_to who s t
unfolding reply_finding
unsearched_is who s t why.Outside is = rw is refl
unsearched_is who s t why.Blocked is = rw (is.0, is.1) refl
unsearched_is who s t (why.Apart ends) is = rw (is.on, is.free, is.two) refl

-- what was found between free cells by the boxed run, or by first moves, is the function's
module _ (g : GridData) (s t : Cell) where
  pub found_boxed : (f : Found) → IsBoxedRunOn g s t f → IsFoundReply (by_small Boxes) g s t
      (reply_with f.walk f.taken)
  found_boxed f run =
      record { is = ap (λ (h : Found). reply_with h.walk h.taken) (boxed.answers_are.only g s t f run) }

  pub found_led : (walk : Option points.Walk) (taken : List ℕ) → is_free g s ≡ true → IsLedOrNone g s t walk
      → taken ≡ [] → IsFoundReply (by_small Moves) g s t (reply_with walk taken)
  found_led walk taken from is none = record {
    is = ap (λ (ms : List ℕ). reply_with walk ms) none
        ∙ ap (λ (o : Option points.Walk). reply_with o []) ((walks_are g s t from).only walk is);
  }

  pub followed_least : (walk : Option points.Walk) → IsLedOrNone g s t walk → IsLeastOrNone g s t walk
  followed_least (option.Some w) is = stands g s t w.points w.cost is
  followed_least option.None none = none

-- the grid of a query on a small map is small
pub few-on : (ls : Layers) (s : Cell) → AreSmall ls → (query_grid ls s).height * (query_grid ls s).width
    ≤ 16384
few-on ls s small = by_test (is_free ls.water s)
  where
    by_test : (b : Bool) → let k : GridData = if b then ls.water else ls.land in k.height * k.width ≤ 16384
    by_test true = small.water
    by_test false = small.land

-- and right replies are short there
pub small-short : (ls : Layers) (s t : Cell) (reply : Reply) → AreSmall ls → IsRight ls s t (answer_of reply)
    → IsShort (answer_of reply)
small-short ls s t Outside small right = tt
small-short ls s t Blocked small right = tt
small-short ls s t (None taken) small right = tt
small-short ls s t (Walk points cost taken) small right =
    subst (λ (c : Cost). c.a + c.b < 2 ^ 24) right.1.priced (
    let steps : (cost_of (s ∷ right.1.cells)).a + (cost_of (s ∷ right.1.cells)).b ≡ length right.1.cells
    = steps-cost_of s right.1.cells in
    let fewer : length right.1.cells < (query_grid ls s).height * (query_grid ls s).width
    = least_steps (query_grid ls s) s t right.1.cells right.1.least in
    let few : (query_grid ls s).height * (query_grid ls s).width ≤ 16384 = few-on ls s small in
    omega arith)
