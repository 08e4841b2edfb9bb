-- What was written with least lengths agrees.
use Rattle.std.proofs.Common.{◌≡◌, refl, ap, sym, ◌∙◌, subst, arith, inl, inr, true, Bool, ◌&&◌, ℕ}
use Rattle.std.proofs.Common.{zero, suc, ◌+◌, ◌^◌, ◌<◌, ◌≤◌, List, [], ◌∷◌, ◌++◌, length, map}
use Rattle.std.specs.Prelude.{⊤, Ok, Some, None, cond, if◌then◌else◌, nat_eq, slice_get, codes, count_by}
use Rattle.std.specs.Prelude.{decimal}
use Rattle.std.specs.List.{All, concat, flat_map, list_all}
use Rattle.std.proofs.lemmas.Bool.Decides.{nat_tests}
use Rattle.std.proofs.lemmas.List.{length-map}
use Rattle.std.proofs.lemmas.List.Elements.{All-head, All-tail}
use Rattle.std.proofs.lemmas.List.Sorted.{length_permutation}
use Rattle.std.proofs.lemmas.List.Sums.{sum_by-cons}
use Rattle.root2_cost.specs.declared.Cost.{Cost}
use Rattle.root2_cost.specs.declared.lengths.Verdict.TheVariants.{Agree}
use Rattle.root2_cost.specs.Length.{eight_places}
use Rattle.root2_cost.specs.Verdict.{verdict_of}
use Rattle.root2_cost.proofs.Rounding.{nearest_agrees}
use Rattle.cost_waves.specs.Begin.{IsLeastCost}
use Rattle.grid_moves.specs.declared.Cell.{Cell}
use Rattle.grid_moves.specs.Grid.{GridData, IsGrid, is_free}
use Rattle.grid_moves.specs.Layers.{AreLayers, Layers, in_one_layer, is_on_map, query_grid}
use Rattle.grid_moves.specs.Reply.{IsRight, are_free_ends}
use Rattle.grid_moves.specs.Walk.{cost_of}
use Rattle.grid_moves.proofs.Legal.{and_both, free_inside}
use Rattle.grid_moves.proofs.Short.{least_is_short, steps-cost_of}
use Rattle.joined_cells.specs.Both.{HasWalk}
use Rattle.joined_cells.proofs.Layering.{joined_in_one_layer}
use Rattle.plain_search.proofs.LeastCosts.{one_least}
use Rattle.edit_replay.specs.Replies.{answer_of}
use Rattle.edit_replay.specs.declared.reply.Reply.{Reply}
use Rattle.edit_replay.specs.declared.reply.Reply.TheVariants as reply
use Rattle.problem_maker.specs.Tries.{kept_of}
use Rattle.problem_maker.specs.declared.sorting.Problem.{Problem}
use Rattle.problem_maker.proofs.Insertion.{order_is}
use Rattle.scen_lines.specs.declared.line.Problem as lines
use Rattle.scen_lines.specs.Laws.{AreReadable, IsReadable, Named, entries_from, entries_of, entry_at, line_of}
use Rattle.scen_lines.specs.Laws.{lines_of, scenario_of}
use Rattle.scen_lines.specs.Line.{IsOfCost, length_text, listed_of, problem_text, version_line}
use Rattle.scen_lines.specs.Naming.{name_of}
use Rattle.scen_lines.proofs.Costs.{listed_is}
use Rattle.scen_lines.proofs.Names.{word_name}
use Rattle.scen_lines.proofs.Read.{scenario_spells}
use Rattle.scen_lines.proofs.Short.{cost_readable}
use Rattle.scen_text.specs.declared.entry.Entry.{Entry}
use Rattle.scen_text.specs.Faults.{scen_of}
use Rattle.scen_text.specs.Names.{IsName, NameStands, bytes_at}
use Rattle.scen_text.proofs.Laws.{scen_read}
use Rattle.scen_text.proofs.Standing.{all_stand}
use Rattle.scen_maker.specs.Lengths.{is_line, length_lines, line_with, problem_of}
use Rattle.scen_maker.specs.Problems.{line_on, priced, problems_of, problems_text, query_of}
use Rattle.scen_maker.specs.Settling.{IsSettled, has_sides, least_in, settled_of}
use Rattle.scen_maker.specs.declared.costs.Settled.{Settled}
use Rattle.scen_maker.specs.declared.costs.Settled.TheVariants as settled
use Rattle.scen_maker.proofs.Posed.{problems_least}
use Rattle.scen_maker.proofs.Searching.{settled_is}
use Rattle.jps_run.specs.Replies.{By}
use Rattle.jps_run.specs.Rows.{is_agree, row_for, row_of, rows_of}
use Rattle.jps_run.specs.Who.{replies_by}
use Rattle.jps_run.specs.declared.replies.row.Row.{Row}
use Rattle.jps_run.specs.declared.replies.row.Row.TheVariants as row
use Rattle.jps_run.proofs.Existing.{replies_right}
use Rattle.outcome_laws.specs.Agreeing.{AllAgree, IsAgreed, LengthsAgree, ProblemsAgree}
use Rattle.outcome_laws.proofs.Ground.{ends_free, ends_on, not_both, query_whole}

-- a list with one more that passes
one_more : (m n : ℕ) → m ≡ n → 1 + m ≡ suc n
one_more m n e = omega (arith, e)

counts_one : {X : Type 0} (p : X → Bool) (x : X) (xs : List X) (n : ℕ) → p x ≡ true → count_by p xs ≡ n
    → count_by p (x ∷ xs) ≡ suc n
counts_one p x xs n h e =
    sum_by-cons (λ y. cond (p y) 1 0) x xs ∙ ap (λ (b : Bool). cond b 1 0 + count_by p xs) h
    ∙ one_more (count_by p xs) n e

-- rows that are all `agree`
all_agree : (rows : List Row) → list_all is_agree rows ≡ true → AllAgree (length rows) rows
all_agree [] h =
    record { agree = refl; all = refl; counted = refl; near = refl; off = refl; other = refl; status = refl }
all_agree (row.Judged Agree cost taken ∷ rows) h =
    let others = all_agree rows h in record {
      agree = h;
      all = refl;
      counted = counts_one is_agree (row.Judged Agree cost taken) rows (length rows) refl others.counted;
      near = others.near;
      off = others.off;
      other = others.other;
      status = others.status;
    }
all_agree (other ∷ rows) h = absurd (cc)

-- a line whose end is there is there
is_there : (before behind : List ℕ) → is_line behind ≡ true → is_line (before ++ behind) ≡ true
is_there [] behind h = h
is_there (first ∷ before) behind h = refl

line_there : (n : Named) → is_line (line_of n) ≡ true
line_there n =
    is_there (decimal n.listed.bucket ++ codes "\t" ++ n.name ++ problem_text n.listed.problem
    ++ codes "\t" ++ length_text n.listed.units) (codes "\n") refl

-- the ends of a written entry
abbrev from_of : Named → Cell
from_of n = record { x = n.listed.problem.sx; y = n.listed.problem.sy }

abbrev to_of : Named → Cell
to_of n = record { x = n.listed.problem.gx; y = n.listed.problem.gy }

-- the entry is meant for this map, and lists the cost of a least walk between its ends
record IsCosted (ls : Layers) (n : Named) : Type 0 where
  name : IsName n.name
  width : n.listed.problem.w ≡ ls.land.width
  height : n.listed.problem.h ≡ ls.land.height
  cost : Cost
  of_cost : IsOfCost cost n.listed
  least : IsLeastCost (query_grid ls (from_of n)) (from_of n) (to_of n) cost

-- so do all entries
abbrev AreCosted : Layers → List Named → Type 0
AreCosted ls [] = ⊤
AreCosted ls (n ∷ named) = IsCosted ls n × AreCosted ls named

-- the text is the lines of so many such entries
record HasEntries (ls : Layers) (text : List ℕ) (many : ℕ) : Type 0 where
  named : List Named
  lines : lines_of named ≡ text
  counted : length named ≡ many
  costs : AreCosted ls named

many_entries : (named : List Named) (number place : ℕ)
    → length (entries_from number place named) ≡ length named
many_entries [] number place = refl
many_entries (n ∷ named) number place =
    ap suc (many_entries named (number + 1) (place + length (line_of n)))

module _ (ls : Layers) (are : AreLayers ls) where
  walks : (n : Named) → IsCosted ls n → HasWalk ls (from_of n) (to_of n)
  walks n is = record { cells = is.least.cells; walk = is.least.least.walk }

  one_layer : (n : Named) → IsCosted ls n → in_one_layer ls (from_of n) (to_of n) ≡ true
  one_layer n is = joined_in_one_layer ls (from_of n) (to_of n) (walks n is)

  -- a least cost counts fewer than 2^24 moves
  few_moves : (n : Named) → (is : IsCosted ls n) → is.cost.a + is.cost.b < 2 ^ 24
  few_moves n is =
      let g : GridData = query_grid ls (from_of n) in
      let short : length is.least.cells < 2 ^ 24 =
      least_is_short g (from_of n) (to_of n) is.least.cells (query_whole ls are (from_of n)) is.least.least in
      let counted = steps-cost_of (from_of n) is.least.cells in
      let same : (cost_of (from_of n ∷ is.least.cells)).a + (cost_of (from_of n ∷ is.least.cells)).b
      ≡ is.cost.a + is.cost.b = ap (λ (c : Cost). c.a + c.b) is.least.priced in
      omega arith

  -- what is written of it can be read
  readable : (n : Named) → IsCosted ls n → IsReadable n
  readable n is =
      let g : GridData = query_grid ls (from_of n) in
      let grid : IsGrid g = query_whole ls are (from_of n) in
      let free = and_both (is_free g (from_of n)) (is_free g (to_of n)) (one_layer n is) in
      let start = free_inside g (from_of n) free.0 in
      let goal = free_inside g (to_of n) free.1 in
      let few = few_moves n is in
      let narrow : g.width ≤ 4096 = grid.sides.narrow in
      let low : g.height ≤ 4096 = grid.sides.low in
      let wide : ls.land.width ≤ 4096 = are.land.sides.narrow in
      let high : ls.land.height ≤ 4096 = are.land.sides.low in
      let sx : n.listed.problem.sx < g.width = start.0 in
      let sy : n.listed.problem.sy < g.height = start.1 in
      let gx : n.listed.problem.gx < g.width = goal.0 in
      let gy : n.listed.problem.gy < g.height = goal.1 in
      cost_readable is.cost n is.of_cost (omega (arith, few)) (omega (arith, few)) is.name (record {
        w = omega (arith, is.width, wide);
        h = omega (arith, is.height, high);
        sx = omega (arith, sx, narrow);
        sy = omega (arith, sy, low);
        gx = omega (arith, gx, narrow);
        gy = omega (arith, gy, low);
      })

  all_readable : (named : List Named) → AreCosted ls named → AreReadable named
  all_readable [] c k entry found = absurd (cc)
  all_readable (n ∷ named) c zero entry found =
      let same : n ≡ entry = cc in subst IsReadable same (readable n c.0)
  all_readable (n ∷ named) c (suc k) entry found = all_readable named c.1 k entry found

  -- a right reply to its query has the listed cost
  agreed_by : (n : Named) → IsCosted ls n → (r : Reply) → IsRight ls (from_of n) (to_of n) (answer_of r)
      → is_agree (row_of (eight_places n.listed.units) r) ≡ true
  agreed_by n is reply.Outside right =
      not_both (is_on_map ls (from_of n) && is_on_map ls (to_of n))
      (ends_on ls are (from_of n) (to_of n) (ends_free ls are (from_of n) (to_of n) (one_layer n is))) right
  agreed_by n is reply.Blocked right =
      not_both (are_free_ends ls (from_of n) (to_of n))
      (ends_free ls are (from_of n) (to_of n) (one_layer n is)) right.1
  agreed_by n is (reply.None taken) right = elim right.1 [
    | inl apart ↦ not_both (in_one_layer ls (from_of n) (to_of n)) (one_layer n is) apart
    | inr none ↦ absurd (none is.least.cells is.least.least.walk)
  ]
  agreed_by n is (reply.Walk points cost taken) right =
      let stands = right.1 in
      let same : cost ≡ is.cost =
      one_least (query_grid ls (from_of n)) (from_of n) (to_of n) cost is.cost (record {
        cells = stands.cells;
        least = stands.least;
        priced = stands.priced;
      }) is.least in
      let agree : verdict_of (eight_places n.listed.units) cost ≡ Agree =
      ap (λ (c : Cost). verdict_of (eight_places n.listed.units) c) same
      ∙ nearest_agrees is.cost (eight_places n.listed.units) is.of_cost.length in
      rw agree refl

  sized : (n : Named) → IsCosted ls n → (number place : ℕ) → has_sides ls (entry_at number place n) ≡ true
  sized n is number place =
      let w : nat_eq n.listed.problem.w ls.land.width ≡ true = grind (arith, nat_tests, is.width) in
      let h : nat_eq n.listed.problem.h ls.land.height ≡ true = grind (arith, nat_tests, is.height) in
      rw (w, h) refl

  row_agrees : (by : By) (n : Named) → IsCosted ls n → (number place : ℕ)
      → is_agree (row_for (replies_by by) ls (entry_at number place n)) ≡ true
  row_agrees by n is number place =
      let r : Reply = replies_by by ls (from_of n) (to_of n) in
      ap (λ (b : Bool). is_agree (if b then row_of (eight_places n.listed.units) r else row.Scale))
      (sized n is number place)
      ∙ agreed_by n is r (replies_right by ls (from_of n) (to_of n))

  rows_agree : (by : By) (named : List Named) → AreCosted ls named → (number place : ℕ)
      → list_all is_agree (rows_of (replies_by by) ls (entries_from number place named)) ≡ true
  rows_agree by [] c number place = refl
  rows_agree by (n ∷ named) c number place =
      ap (λ (b : Bool). b && list_all is_agree (rows_of (replies_by by) ls
      (entries_from (number + 1) (place + length (line_of n)) named))) (row_agrees by n c.0 number place)
      ∙ rows_agree by named c.1 (number + 1) (place + length (line_of n))

  -- a scenario of such entries
  agreed : (text : List ℕ) (many : ℕ) → HasEntries ls text many → IsAgreed ls (version_line ++ text) many
  agreed text many has =
      let entries : List Entry = entries_of has.named in
      let read : scen_of (scenario_of has.named) ≡ Ok entries =
      (scen_read (scenario_of has.named)).only entries
      (scenario_spells has.named (all_readable has.named has.costs)) in
      let counted : length entries ≡ many = many_entries has.named 2 10 ∙ has.counted in record {
        entries = entries;
        read = subst (λ (t : List ℕ). scen_of (version_line ++ t) ≡ Ok entries) has.lines read;
        many_read = counted;
        agree = λ by. (let rows : List Row = rows_of (replies_by by) ls entries in
            subst (λ (n : ℕ). AllAgree n rows)
            (length-map entries (row_for (replies_by by) ls) ∙ counted)
            (all_agree rows (rows_agree by has.named has.costs 2 10)));
      }

  -- an entry above others
  with_entry : (n : Named) → IsCosted ls n → (text : List ℕ) (many : ℕ) → HasEntries ls text many
      → HasEntries ls (line_of n ++ text) (suc many)
  with_entry n is text many others = record {
    named = n ∷ others.named;
    lines = ap (λ (l : List ℕ). line_of n ++ l) others.lines;
    counted = ap suc others.counted;
    costs = (is, others.costs);
  }

  -- the line of a query with its least cost is such an entry
  abbrev entry_with : List ℕ → lines.Problem → Cost → Named
  entry_with name query cost = record { name = name; listed = listed_of query cost }

  costed : (name : List ℕ) (query : lines.Problem) (cost : Cost) → IsName name → query.w ≡ ls.land.width
      → query.h ≡ ls.land.height
      → (let s : Cell = record { x = query.sx; y = query.sy } in
      IsLeastCost (query_grid ls s) s (record { x = query.gx; y = query.gy }) cost)
      → IsCosted ls (entry_with name query cost)
  costed name query cost good w h least = record {
    name = good;
    width = w;
    height = h;
    cost = cost;
    of_cost = listed_is query cost;
    least = least;
  }

  -- those of `lengths`
  module _ (text : List ℕ) where
    abbrev Has : List (List ℕ) → Type 0
    Has lines = HasEntries ls (concat lines) (count_by is_line lines)

    one_line : (entry : Entry) (how : Settled) → NameStands text entry.name → IsSettled ls entry how
        → (lines : List (List ℕ)) → Has lines → Has (line_with text entry (least_in how) ∷ lines)
    one_line entry settled.Scale stands is lines others = others
    one_line entry settled.Outside stands is lines others = others
    one_line entry settled.Blocked stands is lines others = others
    one_line entry (settled.Searched from to None) stands is lines others = others
    one_line entry (settled.Searched from to (Some cost)) stands is lines others =
        let sides = and_both (nat_eq entry.w ls.land.width) (nat_eq entry.h ls.land.height) is.sides in
        let w : entry.w ≡ ls.land.width = grind (arith, nat_tests, sides.0) in
        let h : entry.h ≡ ls.land.height = grind (arith, nat_tests, sides.1) in
        let n : Named = entry_with (bytes_at text entry.name) (problem_of entry) cost in
        subst (λ (m : ℕ). HasEntries ls (line_of n ++ concat lines) m)
        (sym (counts_one is_line (line_of n) lines (count_by is_line lines) (line_there n) refl))
        (with_entry n (costed (bytes_at text entry.name) (problem_of entry) cost stands.is w h
        (subst (λ (s : Cell). IsLeastCost (query_grid ls s) s (record { x = entry.gx; y = entry.gy }) cost)
        is.start (subst (λ (t : Cell). IsLeastCost (query_grid ls from) from t cost) is.goal is.least)))
        (concat lines) (count_by is_line lines) others)

    all_lines : (entries : List Entry)
        → ((k : ℕ) (entry : Entry) → slice_get entries k ≡ Some entry → NameStands text entry.name)
        → Has (length_lines ls text entries)
    all_lines [] stand = record { named = []; lines = refl; counted = refl; costs = tt }
    all_lines (entry ∷ entries) stand =
        one_line entry (settled_of ls entry) (stand 0 entry refl) (settled_is ls entry)
        (length_lines ls text entries) (all_lines entries (λ k e found. stand (suc k) e found))

  -- and those of `problems`
  abbrev HasLeast : Problem → Type 0
  HasLeast p = IsLeastCost (query_grid ls p.ends.from) p.ends.from p.ends.to p.cost

  all_problems : (name : List ℕ) → IsName name → (problems : List Problem) → All HasLeast problems
      → HasEntries ls (flat_map (line_on ls name) problems) (length problems)
  all_problems name good [] least = record { named = []; lines = refl; counted = refl; costs = tt }
  all_problems name good (p ∷ problems) least =
      with_entry (entry_with name (query_of ls p) p.cost)
      (costed name (query_of ls p) p.cost good refl refl (All-head HasLeast p problems least))
      (flat_map (line_on ls name) problems) (length problems)
      (all_problems name good problems (All-tail HasLeast p problems least))

pub lengths_agree : LengthsAgree
lengths_agree ls text entries are read =
    agreed ls are (concat (length_lines ls text entries)) (count_by is_line (length_lines ls text entries))
    (all_lines ls are text entries (all_stand text entries ((scen_read text).found entries read)))

-- as many problems as tries that were kept
many_problems : (ls : Layers) (seed count : ℕ)
    → length (problems_of ls seed count) ≡ length (kept_of ls seed count)
many_problems ls seed count =
    length_permutation (map (priced ls) (kept_of ls seed count)) (problems_of ls seed count)
    (order_is (map (priced ls) (kept_of ls seed count))).is.same
    ∙ length-map (kept_of ls seed count) (priced ls)

pub problems_agree : ProblemsAgree
problems_agree ls word seed count are =
    subst (λ (n : ℕ). IsAgreed ls (problems_text ls word seed count) n) (many_problems ls seed count)
    (agreed ls are (flat_map (line_on ls (name_of word)) (problems_of ls seed count))
    (length (problems_of ls seed count))
    (all_problems ls are (name_of word) (word_name word) (problems_of ls seed count)
    (problems_least ls seed count)))
