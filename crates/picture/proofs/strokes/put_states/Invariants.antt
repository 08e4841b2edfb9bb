use Rattle.std.proofs.Common.{◌≡◌, ◌++◌, take}
use Rattle.picture.specs.Picture.{state_stroke, texts_of}
use Rattle.picture.proofs.strokes.put_states.Given as goal

abbrev pub invariant-loop-state : goal.invariant-loop-state
invariant-loop-state l =
    l.out.items ≡ l.fn.out.items ++ texts_of (state_stroke l.width) (take l.state-index l.states)
