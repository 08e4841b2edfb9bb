use Rattle.std.proofs.Common.{◌≡◌, ◌≢◌, ◌<◌, arith, refl, subst, sym, Bool, true, false, get_or, length}
use Rattle.std.specs.Prelude.{not}
use Rattle.grid_moves.specs.declared.Dir.{Dir}
use Rattle.grid_moves.specs.declared.Dir.TheVariants.{N, NE, E, SE, S, SW, W, NW}
use Rattle.grid_moves.specs.Move.{beyond}
use Rattle.joined_cells.specs.Joined.{label_of}
use Rattle.components.specs.Classes.{root_of}
use Rattle.components.specs.Links.{IsLink}
use Rattle.components.specs.Meeting.{Gathers, linked_dirs, is_among}
use Rattle.components.specs.Stored.{labels_in}
use Rattle.components.proofs.Gathering.{gathers_more, gathers_none}
use Rattle.components.proofs.Offsets.{any_dir, straight}
use Rattle.components.proofs.Storing.{labelled_link}
use Rattle.components.proofs.meeting.gather.Goals as goal

pub meet-label-requires-clause-label : goal.meet-label-requires-clause-label
meet-label-requires-clause-label c =
    let b : get_or c.args.labels.now 0 0 < length c.args.classes.now = c.requires.fit.below 0 in omega arith

not_true : (b : Bool) → not b ≡ true → b ≡ false
not_true true e = absurd (let x : false ≡ true = e in cc)
not_true false e = refl

not_false : (b : Bool) → not b ≡ false → b ≡ true
not_false true e = refl
not_false false e = absurd (let x : true ≡ false = e in cc)

pub returns-then-not-shape-clause-gathered : goal.returns-then-not-shape-clause-gathered
returns-then-not-shape-clause-gathered c =
    let eight = c.args.shape.eight in
    let at = label_of (labels_in c.args.shape c.args.labels.now) in
    let link = labelled_link c.args.shape c.args.labels.now c.requires.fit.sides c.args.c in
    let g = gathers_none eight c.args.c at (root_of c.args.classes.now) in
    let n = gathers_more eight c.args.c at N _ (root_of c.args.classes.now) _ _ _ _ g
    c.meet-label.ensures.met (link N (straight eight N refl)) in
    let e = gathers_more eight c.args.c at E _ (root_of c.args.classes.now) _ _ _ _ n
    c.meet-label-2.ensures.met (link E (straight eight E refl)) in
    let s = gathers_more eight c.args.c at S _ (root_of c.args.classes.now) _ _ _ _ e
    c.meet-label-3.ensures.met (link S (straight eight S refl)) in
    let w = gathers_more eight c.args.c at W _ (root_of c.args.classes.now) _ _ _ _ s
    c.meet-label-4.ensures.met (link W (straight eight W refl)) in
    let four : eight ≡ false = not_true eight c.if-not-shape.true in
    subst (λ (b : Bool). Gathers eight c.args.c at (linked_dirs b) (root_of c.args.classes.now)
    (root_of c.meet-label-4.new.classes) c.meet-label-4.result) (sym four) w

pub returns-clause-gathered : goal.returns-clause-gathered
returns-clause-gathered c =
    let eight = c.args.shape.eight in
    let at = label_of (labels_in c.args.shape c.args.labels.now) in
    let all : eight ≡ true = not_false eight c.if-not-shape.false in
    let link : (d : Dir) → label_of (labels_in c.args.shape c.args.labels.now) (beyond d c.args.c) ≢ 0
    → IsLink c.args.shape.eight c.args.c (beyond d c.args.c)
    = λ d. labelled_link c.args.shape c.args.labels.now c.requires.fit.sides c.args.c d
    (subst (λ (b : Bool). is_among d (linked_dirs b) ≡ true) (sym all) (any_dir d)) in
    let g = gathers_none eight c.args.c at (root_of c.args.classes.now) in
    let n = gathers_more eight c.args.c at N _ (root_of c.args.classes.now) _ _ _ _ g
    c.meet-label.ensures.met (link N) in
    let e = gathers_more eight c.args.c at E _ (root_of c.args.classes.now) _ _ _ _ n
    c.meet-label-2.ensures.met (link E) in
    let s = gathers_more eight c.args.c at S _ (root_of c.args.classes.now) _ _ _ _ e
    c.meet-label-3.ensures.met (link S) in
    let w = gathers_more eight c.args.c at W _ (root_of c.args.classes.now) _ _ _ _ s
    c.meet-label-4.ensures.met (link W) in
    let ne = gathers_more eight c.args.c at NE _ (root_of c.args.classes.now) _ _ _ _ w
    c.meet-label-5.ensures.met (link NE) in
    let se = gathers_more eight c.args.c at SE _ (root_of c.args.classes.now) _ _ _ _ ne
    c.meet-label-6.ensures.met (link SE) in
    let sw = gathers_more eight c.args.c at SW _ (root_of c.args.classes.now) _ _ _ _ se
    c.meet-label-7.ensures.met (link SW) in
    let nw = gathers_more eight c.args.c at NW _ (root_of c.args.classes.now) _ _ _ _ sw
    c.meet.ensures.met (link NW) in
    subst (λ (b : Bool). Gathers eight c.args.c at (linked_dirs b) (root_of c.args.classes.now)
    (root_of c.meet.new.classes) c.meet.result) (sym all) nw
