use Rattle.std.proofs.Common.{◌∙◌}
use Rattle.grid_moves.specs.declared.Dir.TheVariants.{N, NE, E, SE, S, SW, W, NW}
use Rattle.plain_search.proofs.Shapes.{◌▸◌, still, still_narrow, less_room, room_left}
use Rattle.plain_search.proofs.offers.offer_around.Goals as goal

pub offer_over-requires-clause-may : goal.offer_over-requires-clause-may
offer_over-requires-clause-may g c = c.requires.may N

pub offer_over-requires-2-clause-may : goal.offer_over-requires-2-clause-may
offer_over-requires-2-clause-may g c =
    still c.offer_over.ensures.shape (c.requires.may NE)

pub offer_over-requires-3-clause-may : goal.offer_over-requires-3-clause-may
offer_over-requires-3-clause-may g c =
    still (c.offer_over.ensures.shape ▸ c.offer_over-2.ensures.shape) (c.requires.may E)

pub offer_over-requires-4-clause-may : goal.offer_over-requires-4-clause-may
offer_over-requires-4-clause-may g c =
    still (c.offer_over.ensures.shape ▸ c.offer_over-2.ensures.shape ▸ c.offer_over-3.ensures.shape)
    (c.requires.may SE)

pub offer_over-requires-5-clause-may : goal.offer_over-requires-5-clause-may
offer_over-requires-5-clause-may g c =
    still (c.offer_over.ensures.shape ▸ c.offer_over-2.ensures.shape ▸ c.offer_over-3.ensures.shape
    ▸ c.offer_over-4.ensures.shape) (c.requires.may S)

pub offer_over-requires-6-clause-may : goal.offer_over-requires-6-clause-may
offer_over-requires-6-clause-may g c =
    still (c.offer_over.ensures.shape ▸ c.offer_over-2.ensures.shape ▸ c.offer_over-3.ensures.shape
    ▸ c.offer_over-4.ensures.shape ▸ c.offer_over-5.ensures.shape) (c.requires.may SW)

pub offer_over-requires-7-clause-may : goal.offer_over-requires-7-clause-may
offer_over-requires-7-clause-may g c =
    still (c.offer_over.ensures.shape ▸ c.offer_over-2.ensures.shape ▸ c.offer_over-3.ensures.shape
    ▸ c.offer_over-4.ensures.shape ▸ c.offer_over-5.ensures.shape ▸ c.offer_over-6.ensures.shape)
    (c.requires.may W)

pub offer_over-requires-8-clause-may : goal.offer_over-requires-8-clause-may
offer_over-requires-8-clause-may g c =
    still (c.offer_over.ensures.shape ▸ c.offer_over-2.ensures.shape ▸ c.offer_over-3.ensures.shape
    ▸ c.offer_over-4.ensures.shape ▸ c.offer_over-5.ensures.shape ▸ c.offer_over-6.ensures.shape
    ▸ c.offer_over-7.ensures.shape) (c.requires.may NW)

pub offer_over-requires-2-clause-layout : goal.offer_over-requires-2-clause-layout
offer_over-requires-2-clause-layout g c =
    c.offer_over.ensures.shape.layout ∙ c.requires.layout

pub offer_over-requires-2-clause-narrow : goal.offer_over-requires-2-clause-narrow
offer_over-requires-2-clause-narrow g c =
    still_narrow c.offer_over.ensures.shape c.requires.narrow

pub offer_over-requires-2-clause-room : goal.offer_over-requires-2-clause-room
offer_over-requires-2-clause-room g c =
    room_left 6 (less_room 7 c.requires.room c.offer_over.ensures.spare)

pub offer_over-requires-3-clause-layout : goal.offer_over-requires-3-clause-layout
offer_over-requires-3-clause-layout g c =
    (c.offer_over.ensures.shape ▸ c.offer_over-2.ensures.shape).layout ∙ c.requires.layout

pub offer_over-requires-3-clause-narrow : goal.offer_over-requires-3-clause-narrow
offer_over-requires-3-clause-narrow g c =
    still_narrow (c.offer_over.ensures.shape ▸ c.offer_over-2.ensures.shape) c.requires.narrow

pub offer_over-requires-3-clause-room : goal.offer_over-requires-3-clause-room
offer_over-requires-3-clause-room g c =
    room_left 5 (less_room 6 (less_room 7 c.requires.room c.offer_over.ensures.spare)
    c.offer_over-2.ensures.spare)

pub offer_over-requires-4-clause-layout : goal.offer_over-requires-4-clause-layout
offer_over-requires-4-clause-layout g c =
    (c.offer_over.ensures.shape ▸ c.offer_over-2.ensures.shape ▸ c.offer_over-3.ensures.shape).layout ∙
    c.requires.layout

pub offer_over-requires-4-clause-narrow : goal.offer_over-requires-4-clause-narrow
offer_over-requires-4-clause-narrow g c =
    still_narrow (c.offer_over.ensures.shape ▸ c.offer_over-2.ensures.shape ▸
    c.offer_over-3.ensures.shape) c.requires.narrow

pub offer_over-requires-4-clause-room : goal.offer_over-requires-4-clause-room
offer_over-requires-4-clause-room g c =
    room_left 4 (less_room 5 (less_room 6 (less_room 7 c.requires.room c.offer_over.ensures.spare)
    c.offer_over-2.ensures.spare) c.offer_over-3.ensures.spare)

pub offer_over-requires-5-clause-layout : goal.offer_over-requires-5-clause-layout
offer_over-requires-5-clause-layout g c =
    (c.offer_over.ensures.shape ▸ c.offer_over-2.ensures.shape ▸ c.offer_over-3.ensures.shape ▸
    c.offer_over-4.ensures.shape).layout ∙ c.requires.layout

pub offer_over-requires-5-clause-narrow : goal.offer_over-requires-5-clause-narrow
offer_over-requires-5-clause-narrow g c =
    still_narrow (c.offer_over.ensures.shape ▸ c.offer_over-2.ensures.shape ▸
    c.offer_over-3.ensures.shape ▸ c.offer_over-4.ensures.shape) c.requires.narrow

pub offer_over-requires-5-clause-room : goal.offer_over-requires-5-clause-room
offer_over-requires-5-clause-room g c =
    room_left 3 (less_room 4 (less_room 5 (less_room 6 (less_room 7 c.requires.room
    c.offer_over.ensures.spare) c.offer_over-2.ensures.spare) c.offer_over-3.ensures.spare)
    c.offer_over-4.ensures.spare)

pub offer_over-requires-6-clause-layout : goal.offer_over-requires-6-clause-layout
offer_over-requires-6-clause-layout g c =
    (c.offer_over.ensures.shape ▸ c.offer_over-2.ensures.shape ▸ c.offer_over-3.ensures.shape ▸
    c.offer_over-4.ensures.shape ▸ c.offer_over-5.ensures.shape).layout ∙ c.requires.layout

pub offer_over-requires-6-clause-narrow : goal.offer_over-requires-6-clause-narrow
offer_over-requires-6-clause-narrow g c =
    still_narrow (c.offer_over.ensures.shape ▸ c.offer_over-2.ensures.shape ▸
    c.offer_over-3.ensures.shape ▸ c.offer_over-4.ensures.shape ▸ c.offer_over-5.ensures.shape)
    c.requires.narrow

pub offer_over-requires-6-clause-room : goal.offer_over-requires-6-clause-room
offer_over-requires-6-clause-room g c =
    room_left 2 (less_room 3 (less_room 4 (less_room 5 (less_room 6 (less_room 7 c.requires.room
    c.offer_over.ensures.spare) c.offer_over-2.ensures.spare) c.offer_over-3.ensures.spare)
    c.offer_over-4.ensures.spare) c.offer_over-5.ensures.spare)

pub offer_over-requires-7-clause-layout : goal.offer_over-requires-7-clause-layout
offer_over-requires-7-clause-layout g c =
    (c.offer_over.ensures.shape ▸ c.offer_over-2.ensures.shape ▸ c.offer_over-3.ensures.shape ▸
    c.offer_over-4.ensures.shape ▸ c.offer_over-5.ensures.shape ▸ c.offer_over-6.ensures.shape).layout
    ∙ c.requires.layout

pub offer_over-requires-7-clause-narrow : goal.offer_over-requires-7-clause-narrow
offer_over-requires-7-clause-narrow g c =
    still_narrow (c.offer_over.ensures.shape ▸ c.offer_over-2.ensures.shape ▸
    c.offer_over-3.ensures.shape ▸ c.offer_over-4.ensures.shape ▸ c.offer_over-5.ensures.shape ▸
    c.offer_over-6.ensures.shape) c.requires.narrow

pub offer_over-requires-7-clause-room : goal.offer_over-requires-7-clause-room
offer_over-requires-7-clause-room g c =
    room_left 1 (less_room 2 (less_room 3 (less_room 4 (less_room 5 (less_room 6 (less_room 7
    c.requires.room c.offer_over.ensures.spare) c.offer_over-2.ensures.spare)
    c.offer_over-3.ensures.spare) c.offer_over-4.ensures.spare) c.offer_over-5.ensures.spare)
    c.offer_over-6.ensures.spare)

pub offer_over-requires-8-clause-layout : goal.offer_over-requires-8-clause-layout
offer_over-requires-8-clause-layout g c =
    (c.offer_over.ensures.shape ▸ c.offer_over-2.ensures.shape ▸ c.offer_over-3.ensures.shape ▸
    c.offer_over-4.ensures.shape ▸ c.offer_over-5.ensures.shape ▸ c.offer_over-6.ensures.shape ▸
    c.offer_over-7.ensures.shape).layout ∙ c.requires.layout

pub offer_over-requires-8-clause-narrow : goal.offer_over-requires-8-clause-narrow
offer_over-requires-8-clause-narrow g c =
    still_narrow (c.offer_over.ensures.shape ▸ c.offer_over-2.ensures.shape ▸
    c.offer_over-3.ensures.shape ▸ c.offer_over-4.ensures.shape ▸ c.offer_over-5.ensures.shape ▸
    c.offer_over-6.ensures.shape ▸ c.offer_over-7.ensures.shape) c.requires.narrow

pub offer_over-requires-8-clause-room : goal.offer_over-requires-8-clause-room
offer_over-requires-8-clause-room g c =
    less_room 1 (less_room 2 (less_room 3 (less_room 4 (less_room 5 (less_room 6 (less_room 7
    c.requires.room c.offer_over.ensures.spare) c.offer_over-2.ensures.spare)
    c.offer_over-3.ensures.spare) c.offer_over-4.ensures.spare) c.offer_over-5.ensures.spare)
    c.offer_over-6.ensures.spare) c.offer_over-7.ensures.spare
