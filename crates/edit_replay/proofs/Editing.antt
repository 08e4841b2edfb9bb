-- What an edit does to a session: outside the map, where the cell is already as asked, and where it changes.
use Rattle.std.proofs.Common.{◌≡◌, ℕ, Bool, arith, true, false, refl, ap, sym, ◌∙◌}
use Rattle.std.specs.Prelude.{if◌then◌else◌}
use Rattle.grid_moves.specs.Grid.{is_ground}
use Rattle.grid_moves.specs.Layers.{AreLayers, Layers, is_on_map, ground_at, layers_with}
use Rattle.edit_replay.specs.declared.engine.Engine.{Engine}
use Rattle.edit_replay.specs.declared.engine.Engine.TheVariants.{Plain, Jps, Block, Plus}
use Rattle.edit_replay.specs.declared.reply.EditReply.TheVariants.{Outside, Same, Done}
use Rattle.edit_replay.specs.Edited.{Edit, edit_reply}
use Rattle.edit_replay.specs.Editing.{HasEdited}
use Rattle.edit_replay.specs.Mended.{IsEditCounted, nothing}
use Rattle.edit_replay.specs.Session.{SessionData}
use Rattle.edit_replay.proofs.Edits.{adds_done, adds_outside, adds_same}

-- nothing is counted where the layers stay
none_counted : (engine : Engine) (ls : Layers) (n : ℕ) → IsEditCounted engine ls ls n n
none_counted Plain ls n = refl
none_counted (Jps l) ls n = refl
none_counted (Block l) ls n = refl
none_counted (Plus l) ls n = record {
  land = 0;
  water = 0;
  mends_land = nothing refl refl;
  mends_water = nothing refl refl;
  within = omega arith;
}

module _ (d : SessionData) (e : Edit) (are : AreLayers d.layers) where
  -- the reply, where it is known whether the cell lies on the map, and whether it is as asked
  reply_by : (on same : Bool) → is_on_map d.layers e.cell ≡ on
      → is_ground (ground_at d.layers e.cell) e.to ≡ same
      → edit_reply d.layers e ≡ if on then if same then Same else Done else Outside
  reply_by on same h k =
      ap (λ (b : Bool). if b then if is_ground (ground_at d.layers e.cell) e.to then Same
      else Done else Outside) h
      ∙ ap (λ (b : Bool). if on then if b then Same else Done else Outside) k

  pub edits_outside : (n : ℕ) → is_on_map d.layers e.cell ≡ false → HasEdited d e Outside d n n
  edits_outside n off = record {
    reply = sym (reply_by false _ off refl);
    edited = adds_outside d.layers e are off;
    cell = (off, refl);
    engine = refl;
    counted = none_counted d.engine d.layers n;
    unchanged = λ differs. refl;
  }

  module _ (on : is_on_map d.layers e.cell ≡ true) where
    pub edits_same : (n : ℕ) → is_ground (ground_at d.layers e.cell) e.to ≡ true → HasEdited d e Same d n n
    edits_same n asked = record {
      reply = sym (reply_by true true on asked);
      edited = adds_same d.layers e are on asked;
      cell = (on, asked, refl);
      engine = refl;
      counted = none_counted d.engine d.layers n;
      unchanged = λ differs. refl;
    }

    pub edits_done : (new : SessionData) (n m : ℕ) → is_ground (ground_at d.layers e.cell) e.to ≡ false
        → new.layers ≡ layers_with d.layers e.cell e.to → new.engine ≡ d.engine
        → IsEditCounted d.engine d.layers new.layers n m → HasEdited d e Done new n m
    edits_done new n m asked changed engine counted = record {
      reply = sym (reply_by true false on asked);
      edited = adds_done d.layers new.layers e are on changed;
      cell = (on, asked, changed);
      engine = engine;
      counted = counted;
      unchanged = λ differs. absurd (differs refl);
    }
