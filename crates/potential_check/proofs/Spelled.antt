-- A text is read as a certificate exactly where it spells it.
use Rattle.std.proofs.Common.{arith}
use Rattle.std.proofs.lemmas.Bool.Decides.{nat_tests}
use Rattle.std.proofs.Common.{◌≡◌, ℕ, ◌+◌, refl, ap, sym, ◌∙◌, subst, Bool, true, false, List, []}
use Rattle.std.proofs.Common.{◌∷◌, ◌++◌, append_assoc, Option, Some, None, Result, Ok}
use Rattle.std.specs.Prelude.{codes, nat_le, if◌then◌else◌, map}
use Rattle.std.specs.List.{AllByRecursion, list_all}
use Rattle.std.specs.Str.{bytes_eq}
use Rattle.std.proofs.lemmas.Bool.{and_parts, and_from, cases_Bool}
use Rattle.std.proofs.lemmas.Slice.Eq.{bytes_eq-Decides}
use Rattle.std.proofs.lemmas.List.{append-nil}
use Rattle.root2_cost.specs.declared.Cost.{Cost}
use Rattle.grid_moves.specs.declared.Cell.{Cell}
use Rattle.grid_moves.specs.Grid.{cell_number}
use Rattle.text_line.specs.Lines.{lines_of}
use Rattle.potential_check.specs.declared.certificate.Claim.{Claim}
use Rattle.potential_check.specs.declared.certificate.Claim.TheVariants.{Least, NoWalk}
use Rattle.potential_check.specs.declared.fault.CertFault.{CertFault}
use Rattle.potential_check.specs.declared.reading.Head.{Head}
use Rattle.potential_check.specs.Certificate.{are_listed, ascend_from, cells_of, lies_inside}
use Rattle.potential_check.specs.Forms.{ends_on, least_on, member_on, points_on, size_on, value_on}
use Rattle.potential_check.specs.Text.{Plain, State, Step, after_step, at_claim, at_ends, at_points, at_size}
use Rattle.potential_check.specs.Text.{at_version, certificate_of, closed, ended, goes, in_cells, in_values}
use Rattle.potential_check.specs.Text.{is_end, listed, misspelt, next, read_from, spelled, unordered}
use Rattle.potential_check.specs.Spelling.{SpellInOrder, Spells, SpellsClaim}

-- answers
abbrev reading : Plain → Result Plain CertFault
reading p = Ok p

-- where a line's step leads to an answer, it may follow
module _ (n : ℕ) (more : State → Result Plain CertFault) (p : Plain) where
  ok_spelled : {A : Type 0} (o : Option A) (f : A → Step) → after_step (spelled o f) n more ≡ Ok p
      → (a : A) × (o ≡ Some a) × (after_step (f a) n more ≡ Ok p)
  ok_spelled None f e = absurd (cc)
  ok_spelled (Some a) f e = (a, refl, e)

  ok_test : (b : Bool) (s : State) → after_step (if b then goes s else misspelt) n more ≡ Ok p
      → (b ≡ true) × (more s ≡ Ok p)
  ok_test true s e = (refl, e)
  ok_test false s e = absurd (cc)

  ok_order : (b : Bool) (s : State) → after_step (if b then goes s else unordered) n more ≡ Ok p
      → (b ≡ true) × (more s ≡ Ok p)
  ok_order true s e = (refl, e)
  ok_order false s e = absurd (cc)

  ok_inside : (a b : Bool) (s : State)
      → after_step (if a then (if b then goes s else unordered) else misspelt) n more ≡ Ok p
      → (a ≡ true) × (b ≡ true) × (more s ≡ Ok p)
  ok_inside true b s e = let parts = ok_order b s e in (refl, parts.0, parts.1)
  ok_inside false b s e = absurd (cc)

-- behind the last line of the list
found_end : (lines : List (List ℕ)) (n : ℕ) (q p : Plain) → read_from (ended q) n lines ≡ Ok p
    → (q ≡ p) × AllByRecursion (λ line. line ≡ []) lines
found_end [] n q p e = (cc, tt)
found_end ([] ∷ lines) n q p e = let later = found_end lines (n + 1) q p e in (later.0, (refl, later.1))
found_end ((b ∷ line) ∷ lines) n q p e = absurd (cc)

only_end : (lines : List (List ℕ)) (n : ℕ) (q : Plain) → AllByRecursion (λ line. line ≡ []) lines
    → read_from (ended q) n lines ≡ Ok q
only_end [] n q all = refl
only_end ([] ∷ lines) n q all = only_end lines (n + 1) q all.1
only_end ((b ∷ line) ∷ lines) n q all = absurd (let e = all.0 in cc)

-- the bytes of the last line
abbrev end_word : List ℕ
end_word = codes "end"

-- a list whose items each stand on a line of one form
abbrev list_step : {E : Type 0} → (List ℕ → Option E) → (E → Cell) → Head → (ℕ → List E → State)
    → (List E → Plain) → ℕ → List E → List ℕ → Step
list_step form cell head make done least before line =
    if is_end line then goes (ended (done before))
    else spelled (form line)
    (λ e. listed head least (cell e) (make (cell_number head.width (cell e) + 1) (before ++ e ∷ [])))

-- the lines of a list, its last line, and empty lines
record ListSpelled {E : Type 0} (form : List ℕ → Option E) (cell : E → Cell) (head : Head)
    (done : List E → Plain)
    (lines : List (List ℕ)) (least : ℕ) (before : List E) (p : Plain) : Type 0 where
  items : List E
  body : List (List ℕ)
  others : List (List ℕ)
  are : lines ≡ body ++ end_word ∷ others
  spell : SpellInOrder form body items
  inside : list_all (lies_inside head.width head.height) (map cell items) ≡ true
  ascend : ascend_from head.width least (map cell items) ≡ true
  nothing : AllByRecursion (λ line. line ≡ []) others
  is : done (before ++ items) ≡ p

-- a line of a form that a word has not is another one
differs : {E : Type 0} (form : List ℕ → Option E) (word : List ℕ) → form word ≡ None → (line : List ℕ) (e : E)
    → form line ≡ Some e → bytes_eq line word ≡ false
differs form word h1 line e h2 = grind (arith, nat_tests, cases_Bool, bytes_eq-Decides)

module _ {E : Type 0} (form : List ℕ → Option E) (cell : E → Cell) (head : Head) (make : ℕ → List E → State)
    (done : List E → Plain)
    (steps : (least : ℕ) (before : List E) (line : List ℕ)
    → next (make least before) line ≡ list_step form cell head make done least before line)
    (unfinished : (least : ℕ) (before : List E) (n : ℕ) (p : Plain) → closed (make least before) n ≡ Ok p → ⊥)
    (none : form end_word ≡ None) where
  abbrev Spelled : List (List ℕ) → ℕ → List E → Plain → Type 0
  Spelled = ListSpelled form cell head done

  found_list : (lines : List (List ℕ)) (n least : ℕ) (before : List E) (p : Plain)
      → read_from (make least before) n lines ≡ Ok p → Spelled lines least before p
  found_list [] n least before p e = absurd (unfinished least before n p e)
  found_list (line ∷ lines) n least before p e =
      by_test (is_end line) refl
      (ap (λ (s : Step). after_step s n (λ after. read_from after (n + 1) lines)) (sym (steps least before
      line)) ∙ e)
      (λ later_least later read. found_list lines (n + 1) later_least later p read)
    where
      by_test : (b : Bool) → is_end line ≡ b
          → after_step (if b then goes (ended (done before)) else spelled (form line) (λ e. listed head
          least (cell e) (make (cell_number head.width (cell e) + 1) (before ++ e ∷ [])))) n
          (λ after. read_from after (n + 1) lines) ≡ Ok p
          → ((later_least : ℕ) (later : List E) → read_from (make later_least later) (n + 1) lines ≡ Ok p
          → Spelled lines later_least later p) → Spelled (line ∷ lines) least before p
      by_test true is read more =
          let end = found_end lines (n + 1) (done before) p read in
          record {
            items = [];
            body = [];
            others = lines;
            are = ap (λ (l : List ℕ). l ∷ lines) ((bytes_eq-Decides line end_word).0 is);
            spell = tt;
            inside = refl;
            ascend = refl;
            nothing = end.1;
            is = ap done (append-nil before) ∙ end.0;
          }
      by_test false is read more =
          let some = ok_spelled n (λ after. read_from after (n + 1) lines) p (form line) _ read in
          let in_place = ok_inside n (λ after. read_from after (n + 1) lines) p
          (lies_inside head.width head.height (cell some.0)) (nat_le least (cell_number head.width (cell
          some.0)))
          (make (cell_number head.width (cell some.0) + 1) (before ++ some.0 ∷ [])) some.2 in
          let later = more (cell_number head.width (cell some.0) + 1) (before ++ some.0 ∷ []) in_place.2 in
          record {
            items = some.0 ∷ later.items;
            body = line ∷ later.body;
            others = later.others;
            are = ap (λ (l : List (List ℕ)). line ∷ l) later.are;
            spell = (some.1, later.spell);
            inside = and_from _ _ in_place.0 later.inside;
            ascend = and_from _ _ in_place.1 later.ascend;
            nothing = later.nothing;
            is = ap done (sym (append_assoc before (some.0 ∷ []) later.items)) ∙ later.is;
          }

  only_list : (body others : List (List ℕ)) (n least : ℕ) (before items : List E)
      → SpellInOrder form body items
      → list_all (lies_inside head.width head.height) (map cell items) ≡ true
      → ascend_from head.width least (map cell items) ≡ true → AllByRecursion (λ line. line ≡ []) others
      → read_from (make least before) n (body ++ end_word ∷ others) ≡ Ok (done (before ++ items))
  only_list [] others n least before [] spell inside ascend nothing =
      ap (λ (s : Step). after_step s n (λ after. read_from after (n + 1) others)) (steps least before
      end_word)
      ∙ only_end others (n + 1) (done before) nothing
      ∙ ap (λ (l : List E). reading (done l)) (sym (append-nil before))
  only_list [] others n least before (e ∷ items) spell inside ascend nothing = absurd spell
  only_list (line ∷ body) others n least before [] spell inside ascend nothing = absurd spell
  only_list (line ∷ body) others n least before (e ∷ items) spell inside ascend nothing =
      let within = and_parts (lies_inside head.width head.height (cell e))
      (list_all (lies_inside head.width head.height) (map cell items)) inside in
      let order = and_parts (nat_le least (cell_number head.width (cell e)))
      (ascend_from head.width (cell_number head.width (cell e) + 1) (map cell items)) ascend in
      let step : next (make least before) line
      ≡ goes (make (cell_number head.width (cell e) + 1) (before ++ e ∷ [])) =
      steps least before line ∙ rw (
        differs form end_word none line e spell.0,
        spell.0,
        within.0,
        order.0,
      ) refl in
      ap (λ (s : Step). after_step s n (λ after. read_from after (n + 1) (body ++ end_word ∷ others))) step
      ∙ only_list body others (n + 1) (cell_number head.width (cell e) + 1) (before ++ e ∷ []) items spell.1
      within.1 order.1 nothing
      ∙ ap (λ (l : List E). reading (done l)) (append_assoc before (e ∷ []) items)

map-itself : (cells : List Cell) → map (λ c. c) cells ≡ cells
map-itself [] = refl
map-itself (c ∷ cells) = ap (λ (l : List Cell). c ∷ l) (map-itself cells)

-- the lists of the two claims
module _ (head : Head) (cost : Cost) (points : List Cell) where
  abbrev with_values : List (Cell × Cost) → Plain
  with_values values = record { head = head; claim = Least cost points values }

  abbrev value_cell : Cell × Cost → Cell
  value_cell entry = entry.0

  found_values : (lines : List (List ℕ)) (n : ℕ) (p : Plain)
      → read_from (in_values head cost points 0 []) n lines ≡ Ok p
      → ListSpelled value_on value_cell head with_values lines 0 [] p
  found_values lines n p e = found_list value_on value_cell head (in_values head cost points) with_values
      (λ least before line. refl) (λ least before n p e. cc) refl lines n 0 [] p e

  only_values : (body others : List (List ℕ)) (n : ℕ) (values : List (Cell × Cost))
      → SpellInOrder value_on body values → are_listed head.width head.height (cells_of values) ≡ true
      → AllByRecursion (λ line. line ≡ []) others
      → read_from (in_values head cost points 0 []) n (body ++ end_word ∷ others) ≡ Ok (with_values values)
  only_values body others n values spell may nothing =
      let parts = and_parts (list_all (lies_inside head.width head.height) (cells_of values))
      (ascend_from head.width 0 (cells_of values)) may in
      only_list value_on value_cell head (in_values head cost points) with_values (λ least before line. refl)
      (λ least before n p e. cc) refl body others n 0 [] values spell parts.0 parts.1 nothing

module _ (head : Head) where
  abbrev with_cells : List Cell → Plain
  with_cells cells = record { head = head; claim = NoWalk cells }

  abbrev itself : Cell → Cell
  itself c = c

  found_cells : (lines : List (List ℕ)) (n : ℕ) (p : Plain) → read_from (in_cells head 0 []) n lines ≡ Ok p
      → ListSpelled member_on itself head with_cells lines 0 [] p
  found_cells lines n p e = found_list member_on itself head (in_cells head) with_cells
      (λ least before line. refl) (λ least before n p e. cc) refl lines n 0 [] p e

  only_cells : (body others : List (List ℕ)) (n : ℕ) (cells : List Cell) → SpellInOrder member_on body cells
      → are_listed head.width head.height cells ≡ true → AllByRecursion (λ line. line ≡ []) others
      → read_from (in_cells head 0 []) n (body ++ end_word ∷ others) ≡ Ok (with_cells cells)
  only_cells body others n cells spell may nothing =
      let parts = and_parts (list_all (lies_inside head.width head.height) cells)
      (ascend_from head.width 0 cells) may in
      only_list member_on itself head (in_cells head) with_cells (λ least before line. refl)
      (λ least before n p e. cc) refl body others n 0 [] cells spell
      (ap (λ (l : List Cell). list_all (lies_inside head.width head.height) l) (map-itself cells) ∙ parts.0)
      (ap (λ (l : List Cell). ascend_from head.width 0 l) (map-itself cells) ∙ parts.1) nothing

-- a claim, `end`, and empty lines
record ClaimSpelled (head : Head) (lines : List (List ℕ)) (p : Plain) : Type 0 where
  first : List ℕ
  body : List (List ℕ)
  others : List (List ℕ)
  are : lines ≡ first ∷ (body ++ end_word ∷ others)
  head_is : p.head ≡ head
  spells : SpellsClaim head p.claim first body
  nothing : AllByRecursion (λ line. line ≡ []) others

found_points : (head : Head) (cost : Cost) (first : List ℕ) (lines : List (List ℕ)) (n : ℕ) (p : Plain)
    → least_on first ≡ Some cost → read_from (at_points head cost) n lines ≡ Ok p
    → ClaimSpelled head (first ∷ lines) p
found_points head cost first [] n p c e = absurd (cc)
found_points head cost first (second ∷ list) n p c e =
    let points = ok_spelled n (λ after. read_from after (n + 1) list) p (points_on second) _ e in
    let values = found_values head cost points.0 list (n + 1) p points.2 in
    subst (λ (q : Plain). ClaimSpelled head (first ∷ second ∷ list) q) values.is (record {
      first = first;
      body = second ∷ values.body;
      others = values.others;
      are = ap (λ (l : List (List ℕ)). first ∷ second ∷ l) values.are;
      head_is = refl;
      spells = record {
        second = second;
        list = values.body;
        body_is = refl;
        cost_is = c;
        points_is = points.1;
        values_are = values.spell;
        listed = and_from _ _ values.inside values.ascend;
      };
      nothing = values.nothing;
    })

found_claim : (head : Head) (lines : List (List ℕ)) (n : ℕ) (p : Plain)
    → read_from (at_claim head) n lines ≡ Ok p
    → ClaimSpelled head lines p
found_claim head [] n p e = absurd (cc)
found_claim head (first ∷ lines) n p e = by_test (bytes_eq first (codes "none")) refl e
  where
    by_test : (b : Bool) → bytes_eq first (codes "none") ≡ b
        → after_step (if b then goes (in_cells head 0 []) else spelled (least_on first) (λ cost. goes
        (at_points head cost)))
        n (λ after. read_from after (n + 1) lines) ≡ Ok p → ClaimSpelled head (first ∷ lines) p
    by_test true is read =
        let cells = found_cells head lines (n + 1) p read in
        subst (λ (q : Plain). ClaimSpelled head (first ∷ lines) q) cells.is (record {
          first = first;
          body = cells.body;
          others = cells.others;
          are = ap (λ (l : List (List ℕ)). first ∷ l) cells.are;
          head_is = refl;
          spells = record {
            none_is = (bytes_eq-Decides first (codes "none")).0 is;
            cells_are = cells.spell;
            listed = and_from _ _
                (ap (λ (l : List Cell). list_all (lies_inside head.width head.height) l) (sym (map-itself
                cells.items)) ∙ cells.inside)
                (ap (λ (l : List Cell). ascend_from head.width 0 l) (sym (map-itself cells.items))
                ∙ cells.ascend);
          };
          nothing = cells.nothing;
        })
    by_test false is read =
        let cost = ok_spelled n (λ after. read_from after (n + 1) lines) p (least_on first) _ read in
        found_points head cost.0 first lines (n + 1) p cost.1 cost.2

only_claim : (head : Head) (claim : Claim) (first : List ℕ) (body others : List (List ℕ)) (n : ℕ)
    → SpellsClaim head claim first body → AllByRecursion (λ line. line ≡ []) others
    → read_from (at_claim head) n (first ∷ (body ++ end_word ∷ others))
    ≡ Ok (record { head = head; claim = claim })
only_claim head claim first body others n h1 h2 =
    grind (arith, nat_tests, differs, only_values, bytes_eq-Decides, only_cells)

-- the lines of a text
found_lines : (text : List ℕ) (lines : List (List ℕ)) (p : Plain) → lines_of text ≡ lines
    → read_from at_version 1 lines ≡ Ok p → Spells text p
found_lines text [] p are e = absurd (cc)
found_lines text (version ∷ []) p are e =
    let first = ok_test 1 (λ after. read_from after 2 []) p (bytes_eq version (codes "jps-cert 1")) at_size
    e in
    absurd (let k = first.1 in cc)
found_lines text (version ∷ size ∷ []) p are e =
    let first = ok_test 1 (λ after. read_from after 2 (size ∷ [])) p (bytes_eq version (codes
    "jps-cert 1")) at_size e in
    let second = ok_spelled 2 (λ after. read_from after 3 []) p (size_on size) _ first.1 in
    absurd (let k = second.2 in cc)
found_lines text (version ∷ size ∷ ends ∷ lines) p are e =
    let first = ok_test 1 (λ after. read_from after 2 (size ∷ ends ∷ lines)) p
    (bytes_eq version (codes "jps-cert 1")) at_size e in
    let second = ok_spelled 2 (λ after. read_from after 3 (ends ∷ lines)) p (size_on size) _ first.1 in
    let third = ok_spelled 3 (λ after. read_from after 4 lines) p (ends_on ends) _ second.2 in
    let head : Head = record {
      width = second.0.0;
      height = second.0.1;
      start = third.0.0;
      goal = third.0.1;
    } in
    let claim = found_claim head lines 4 p third.2 in
    record {
      version = version;
      size = size;
      ends = ends;
      claim = claim.first;
      body = claim.body;
      others = claim.others;
      lines = are ∙ ap (λ (l : List (List ℕ)). version ∷ size ∷ ends ∷ l) claim.are;
      version_is = (bytes_eq-Decides version (codes "jps-cert 1")).0 first.0;
      size_is = second.1 ∙ ap (λ (h : Head). let o : Option (ℕ × ℕ) = Some (h.width, h.height) in o) (sym
          claim.head_is);
      ends_is = third.1 ∙ ap (λ (h : Head). let o : Option (Cell × Cell) = Some (h.start, h.goal) in o)
          (sym claim.head_is);
      claim_is = subst (λ (h : Head). SpellsClaim h p.claim claim.first claim.body) (sym claim.head_is)
          claim.spells;
      nothing = claim.nothing;
    }

pub certificate_of_ok : (text : List ℕ) (p : Plain) → certificate_of text ≡ Ok p → Spells text p
unfolding certificate_of
certificate_of_ok text p e = found_lines text (lines_of text) p refl e

pub certificate_of_spelled : (text : List ℕ) (p : Plain) → Spells text p → certificate_of text ≡ Ok p
unfolding certificate_of
certificate_of_spelled text p s =
    let rest : List (List ℕ) = s.body ++ end_word ∷ s.others in
    let same : bytes_eq s.version (codes "jps-cert 1") ≡ true =
    ap (λ (l : List ℕ). bytes_eq l (codes "jps-cert 1")) s.version_is
    ∙ (bytes_eq-Decides (codes "jps-cert 1") (codes "jps-cert 1")).1 refl in
    let first : next at_version s.version ≡ goes at_size = rw same refl in
    let second : next at_size s.size ≡ goes (at_ends p.head.width p.head.height) = rw s.size_is refl in
    let third : next (at_ends p.head.width p.head.height) s.ends
    ≡ goes (at_claim p.head) = rw s.ends_is refl in
    ap (λ (l : List (List ℕ)). read_from at_version 1 l) s.lines
    ∙ ap (λ (t : Step). after_step t 1 (λ after. read_from after 2 (s.size ∷ s.ends ∷ s.claim ∷ rest))) first
    ∙ ap (λ (t : Step). after_step t 2 (λ after. read_from after 3 (s.ends ∷ s.claim ∷ rest))) second
    ∙ ap (λ (t : Step). after_step t 3 (λ after. read_from after 4 (s.claim ∷ rest))) third
    ∙ only_claim p.head p.claim s.claim s.body s.others 4 s.claim_is s.nothing
