-- Each of those who answer replies to a query as it has to.
use Rattle.std.proofs.Common.{◌≡◌, ◌≤◌, ◌∙◌, ap, ℕ, Bool, sym, subst, true, false, arith}
use Rattle.std.specs.Prelude.{Result, Ok, Err, IfOk, OnOk, None, if◌then◌else◌}
use Rattle.std.proofs.lemmas.Bool.{and_parts}
use Rattle.grid_moves.specs.declared.Cell.{Cell}
use Rattle.grid_moves.specs.Grid.{GridData, is_free}
use Rattle.grid_moves.specs.Layers.{Layers, in_one_layer, query_grid}
use Rattle.edit_replay.specs.Counting.{RoseByStates, RoseWithin}
use Rattle.edit_replay.specs.declared.reply.Reply.{Reply}
use Rattle.jps_run.specs.Answerers.{who_of}
use Rattle.jps_run.specs.Who.{fewest_by, most_by, reply_to}
use Rattle.jps_run.specs.declared.replies.answerer.Answerer.{Answerer}

-- the ends of a query that are found are the ones that were asked for
pub one-between : (ls : Layers) (s t from to : Cell) → from ≡ s → to ≡ t → in_one_layer ls s t ≡ true
    → in_one_layer ls from to ≡ true
one-between ls s t from to e f one =
    subst (λ (c : Cell). in_one_layer ls c to ≡ true) (sym e)
    (subst (λ (c : Cell). in_one_layer ls s c ≡ true) (sym f) one)

-- the grid of a query by a test of its start
module _ (ls : Layers) (g w : GridData) (c : Cell) (water : w ≡ ls.water) where
  pub on-water : g ≡ ls.water → is_free w c ≡ true → g ≡ query_grid ls c
  on-water e free = e ∙ sym (ap (λ (b : Bool). if b then ls.water else ls.land)
      (subst (λ (k : GridData). is_free k c ≡ true) water free))

  pub on-land : g ≡ ls.land → is_free w c ≡ false → g ≡ query_grid ls c
  on-land e free = e ∙ sym (ap (λ (b : Bool). if b then ls.water else ls.land)
      (subst (λ (k : GridData). is_free k c ≡ false) water free))

-- its ends are free there
module _ (ls : Layers) (g : GridData) (s t : Cell) (is : g ≡ query_grid ls s)
    (one : in_one_layer ls s t ≡ true) where
  pub start-free : is_free g s ≡ true
  start-free = subst (λ (k : GridData). is_free k s ≡ true) (sym is)
      (and_parts (is_free (query_grid ls s) s) (is_free (query_grid ls s) t) one).0

  pub end-free : is_free g t ≡ true
  end-free = subst (λ (k : GridData). is_free k t ≡ true) (sym is)
      (and_parts (is_free (query_grid ls s) s) (is_free (query_grid ls s) t) one).1

-- what is known of a reply by one of them
module _ {E : Type 0} (result : Result Reply E) (a b : Answerer) (is : a ≡ b) where
  pub reply-as : (s t : Cell) → IfOk result (λ reply. reply ≡ reply_to (who_of b) s t)
      → IfOk result (λ reply. reply ≡ reply_to (who_of a) s t)
  reply-as s t h = subst (λ (k : Answerer). IfOk result (λ reply. reply ≡ reply_to (who_of k) s t)) (sym is) h

  pub fewest-as : (old new : ℕ) → IfOk result (RoseByStates (fewest_by (who_of b).by) old new)
      → IfOk result (RoseByStates (fewest_by (who_of a).by) old new)
  fewest-as old new h = subst (λ (k : Answerer). IfOk result (RoseByStates (fewest_by (who_of k).by) old new))
      (sym is) h

  pub most-as : (old new : ℕ) → IfOk result (RoseWithin (most_by (who_of b).by) old new)
      → IfOk result (RoseWithin (most_by (who_of a).by) old new)
  most-as old new h = subst (λ (k : Answerer). IfOk result (RoseWithin (most_by (who_of k).by) old new))
      (sym is) h

-- boxes and first moves promise no fewest and tell no most
pub counts-none : {E : Type 0} (result : Result Reply E) (old new : ℕ) → OnOk result (old ≤ new)
    → IfOk result (RoseByStates 0 old new)
counts-none (Err error) old new h = tt
counts-none (Ok reply) old new h = let later : old ≤ new = h in omega arith

pub tells-none : {E : Type 0} (result : Result Reply E) (old new : ℕ) → IfOk result (RoseWithin None old new)
tells-none (Err error) old new = tt
tells-none (Ok reply) old new = tt
