-- What is done for the eight moves around a cell, one after another, is what is done for all directions.
use Rattle.std.proofs.Common.{◌≡◌, ap, sym, ◌∙◌, List, [], ◌∷◌}
use Rattle.std.specs.Prelude.{Option}
use Rattle.grid_moves.specs.declared.Cell.{Cell}
use Rattle.grid_moves.specs.declared.Dir.{Dir}
use Rattle.grid_moves.specs.declared.Dir.TheVariants.{N, NE, E, SE, S, SW, W, NW}
use Rattle.grid_moves.specs.declared.around.Around.{Around}
use Rattle.grid_moves.specs.Around.{IsAround, end_of, if_open, is_open_to}
use Rattle.grid_moves.specs.Grid.{GridData}
use Rattle.grid_moves.specs.Move.{all_dirs, legal_ahead}

-- `over` does it for one direction, given where the move leads if it is open, and `all` for a list of them
module _ {F : Type 0} (g : GridData) (c : Cell) (over : Dir → Option Cell → F → F) (all : List Dir → F → F)
    (none : (f : F) → all [] f ≡ f)
    (one : (d : Dir) (dirs : List Dir) (f : F) → all (d ∷ dirs) f ≡ all dirs (over d (legal_ahead g c d) f))
    (a : Around) (is : IsAround g c a) where
  step : (d : Dir) (dirs : List Dir) (f0 f1 f : F)
      → f1 ≡ over d (if_open (is_open_to a d) (end_of a c d)) f0 → f ≡ all dirs f1 → f ≡ all (d ∷ dirs) f0
  step d dirs f0 f1 f first others =
      others ∙ ap (λ (h : F). all dirs h) (first ∙ ap (λ (o : Option Cell). over d o f0) (is d))
      ∙ sym (one d dirs f0)

  pub all_eight : (f0 f1 f2 f3 f4 f5 f6 f7 f8 : F) → f1 ≡ over N (if_open a.n (end_of a c N)) f0
      → f2 ≡ over NE (if_open a.ne (end_of a c NE)) f1 → f3 ≡ over E (if_open a.e (end_of a c E)) f2
      → f4 ≡ over SE (if_open a.se (end_of a c SE)) f3 → f5 ≡ over S (if_open a.s (end_of a c S)) f4
      → f6 ≡ over SW (if_open a.sw (end_of a c SW)) f5 → f7 ≡ over W (if_open a.w (end_of a c W)) f6
      → f8 ≡ over NW (if_open a.nw (end_of a c NW)) f7 → f8 ≡ all all_dirs f0
  all_eight f0 f1 f2 f3 f4 f5 f6 f7 f8 n ne e se s sw west nw =
      step N _ _ f1 f8 n (step NE _ _ f2 f8 ne (step E _ _ f3 f8 e (step SE _ _ f4 f8 se
      (step S _ _ f5 f8 s (step SW _ _ f6 f8 sw (step W _ _ f7 f8 west (step NW _ _ f8 f8 nw
      (sym (none f8)))))))))
