-- Worked rows of the definitions, by computing.
use Rattle.std.specs.Prelude.{◌≡◌, ◌++◌, [], ◌∷◌, Some, None, Ok, Err, codes, refl, List, ℕ}
use Rattle.root2_cost.specs.declared.Cost.{Cost}
use Rattle.grid_moves.specs.declared.Cell.{Cell}
use Rattle.grid_moves.specs.declared.Corner.TheVariants.{Never, One}
use Rattle.grid_moves.specs.Examples.{pillar}
use Rattle.grid_moves.specs.Grid.{grid_of}
use Rattle.cell_lines.specs.Parts.{point_of}
use Rattle.potential_check.specs.declared.certificate.Claim.TheVariants.{Least, NoWalk}
use Rattle.potential_check.specs.declared.verdict.Proof.TheVariants as proof
use Rattle.potential_check.specs.declared.verdict.Reject.TheVariants.{Goal, Move, Open, Walk}
use Rattle.potential_check.specs.declared.fault.CertFault.TheVariants.{Line, Order}
use Rattle.potential_check.specs.Accepted.{leaves}
use Rattle.potential_check.specs.Moves.{first_failing}
use Rattle.potential_check.specs.Potential.{potential_of, rises}
use Rattle.potential_check.specs.Answers.{claim_answer}
use Rattle.potential_check.specs.Text.{certificate_of}

-- a certificate that a walk round the pillar of `.../.@./...` is least, from its upper left to its lower
-- right
abbrev beginning : List ℕ
beginning = codes "jps-cert 1\nsize 3 3\nends 0 0 2 2\nleast 4 0\npoints 0,0 2,0 2,2\n"

abbrev values : List (Cell × Cost)
values = (record { x = 0; y = 0 }, record { a = 0; b = 0 }) ∷ (
  record { x = 1; y = 0 },
  record {
    a = 1;
    b =
        0;
  },
)
    ∷ (record { x = 0; y = 1 }, record { a = 1; b = 0 }) ∷ []

pub round_the_pillar : certificate_of (beginning ++ codes
    "value 0 0 0 0\nvalue 1 0 1 0\nvalue 0 1 1 0\nend\n")
    ≡ Ok (record {
      head = record {
        width = 3;
        height = 3;
        start = record { x = 0; y = 0 };
        goal = record {
          x = 2;
          y = 2;
        };
      };
      claim = Least (record { a = 4; b = 0 })
          (record { x = 0; y = 0 } ∷ record { x = 2; y = 0 } ∷ record { x = 2; y = 2 } ∷ []) values;
    })
unfolding certificate_of point_of
round_the_pillar = refl

-- no legal move raises the values by more than its cost
pub none_rises : first_failing (pillar Never)
    (rises (potential_of (record { a = 4; b = 0 }) (record { x = 2; y = 2 }) values)) ≡ None
none_rises = refl

-- where one blocked cell may be passed, the first move that does leads past the pillar's corner
pub one_rises : first_failing (pillar One)
    (rises (potential_of (record { a = 4; b = 0 }) (record { x = 2; y = 2 }) values))
    ≡ Some (record { x = 1; y = 0 }, record { x = 2; y = 1 })
one_rises = refl

-- the claim comes to the cost, or to that move; with another cost, to the number of points;
-- with another start, to 0
abbrev round : List Cell
round = record { x = 0; y = 0 } ∷ record { x = 2; y = 0 } ∷ record { x = 2; y = 2 } ∷ []

pub claimed_round : claim_answer (pillar Never) (record { x = 0; y = 0 }) (record { x = 2; y = 2 })
    (Least (record { a = 4; b = 0 }) round values) ≡ Ok (proof.Least (record { a = 4; b = 0 }))
claimed_round = refl

pub refused_past : claim_answer (pillar One) (record { x = 0; y = 0 }) (record { x = 2; y = 2 })
    (Least (record { a = 4; b = 0 }) round values) ≡ Err
    (Move (record { x = 1; y = 0 }) (record { x = 2; y = 1 }))
refused_past = refl

pub refused_cost : claim_answer (pillar Never) (record { x = 0; y = 0 }) (record { x = 2; y = 2 })
    (Least (record { a = 3; b = 0 }) round values) ≡ Err (Walk 3)
refused_cost = refl

pub refused_start : claim_answer (pillar Never) (record { x = 0; y = 1 }) (record { x = 2; y = 2 })
    (Least (record { a = 4; b = 0 }) round values) ≡ Err (Walk 0)
refused_start = refl

-- with a greater value at (1,0), the first move leads there
pub greater_value : first_failing (pillar Never) (rises (potential_of (record { a = 4; b = 0 })
    (record { x = 2; y = 2 }) ((record { x = 0; y = 0 }, record { a = 0; b = 0 })
    ∷ (record { x = 1; y = 0 }, record { a = 2; b = 0 }) ∷ (
      record { x = 0; y = 1 },
      record {
        a = 1;
        b = 0;
      },
    ) ∷ [])))
    ≡ Some (record { x = 0; y = 0 }, record { x = 1; y = 0 })
greater_value = refl

-- two lines exchanged: the second is out of order
pub exchanged : certificate_of (beginning ++ codes "value 0 0 0 0\nvalue 0 1 1 0\nvalue 1 0 1 0\nend\n")
    ≡ Err (Order 8)
unfolding certificate_of point_of
exchanged = refl

-- and so is one that is given twice
pub given_twice : certificate_of (beginning ++ codes "value 0 0 0 0\nvalue 0 0 0 0\nend\n") ≡ Err (Order 7)
unfolding certificate_of point_of
given_twice = refl

-- a listed cell outside the size is misspelt, also where it is out of order
pub outside : certificate_of (beginning ++ codes "value 2 2 0 0\nvalue 3 0 0 0\nend\n") ≡ Err (Line 7)
unfolding certificate_of point_of
outside = refl

pub no_end : certificate_of (beginning ++ codes "value 0 0 0 0\nvalue 1 0 1 0\nvalue 0 1 1 0\n")
    ≡ Err (Line 9)
unfolding certificate_of point_of
no_end = refl

-- that no walk leads through between two blocked cells; a carriage return is dropped, and the last line
-- needs no line
-- feed
pub no_walk : certificate_of (codes "jps-cert 1\r\nsize 2 2\nends 0 0 1 1\nnone\nin 0 0\nend")
    ≡ Ok (record {
      head = record {
        width = 2;
        height = 2;
        start = record { x = 0; y = 0 };
        goal = record {
          x = 1;
          y = 1;
        };
      };
      claim = NoWalk (record { x = 0; y = 0 } ∷ []);
    })
unfolding certificate_of point_of
no_walk = refl

pub none_leaves : first_failing (grid_of 2 2 (codes ".@@.") Never) (leaves (record { x = 0; y = 0 } ∷ []))
    ≡ None
none_leaves = refl

pub one_leaves : first_failing (grid_of 2 2 (codes "..@.") Never) (leaves (record { x = 0; y = 0 } ∷ []))
    ≡ Some (record { x = 0; y = 0 }, record { x = 1; y = 0 })
one_leaves = refl

pub claimed_none : claim_answer (grid_of 2 2 (codes ".@@.") Never) (record { x = 0; y = 0 })
    (record { x = 1; y = 1 }) (NoWalk (record { x = 0; y = 0 } ∷ [])) ≡ Ok proof.NoWalk
claimed_none = refl

pub refused_open : claim_answer (grid_of 2 2 (codes "..@.") Never) (record { x = 0; y = 0 })
    (record { x = 1; y = 1 }) (NoWalk (record { x = 0; y = 0 } ∷ []))
    ≡ Err (Open (record { x = 0; y = 0 }) (record { x = 1; y = 0 }))
refused_open = refl

pub refused_goal : claim_answer (grid_of 2 2 (codes "..@.") Never) (record { x = 0; y = 0 })
    (record { x = 0; y = 0 }) (NoWalk (record { x = 0; y = 0 } ∷ [])) ≡ Err Goal
refused_goal = refl

-- an empty list, and empty lines after it
pub empty_list : certificate_of (codes "jps-cert 1\nsize 2 2\nends 0 0 1 1\nnone\nend\n\n\n")
    ≡ Ok (record {
      head = record {
        width = 2;
        height = 2;
        start = record { x = 0; y = 0 };
        goal = record {
          x = 1;
          y = 1;
        };
      };
      claim = NoWalk [];
    })
unfolding certificate_of point_of
empty_list = refl

pub space_after : certificate_of (codes "jps-cert 1\nsize 2 2\nends 0 0 1 1\nnone\nend\n\n ") ≡ Err (Line 7)
unfolding certificate_of point_of
space_after = refl
