-- Outcomes are the only ones, and those of calls that ask alike are the same.
use Rattle.std.proofs.Common.{◌≡◌, ◌∙◌, refl, ap, sym, subst, ℕ, Bool, true, false, List, [], ◌∷◌, ◌++◌}
use Rattle.std.specs.Prelude.{Option, Some, None, ◌≢◌, ◌⊎◌, if◌then◌else◌}
use Rattle.std.specs.Option.{option_map}
use Rattle.std.proofs.Common.{inl, inr}
use Rattle.std.proofs.Math.Path.{fun_ext}
use Rattle.grid_moves.specs.declared.Corner.{Corner}
use Rattle.io_edge.specs.Known.{Held, holding, absent, unknown}
use Rattle.io_edge.specs.Whole.{IsWhole}
use Rattle.edit_replay.specs.declared.engine.Engine.TheVariants as engine
use Rattle.word_list.specs.Calls.{is_call}
use Rattle.word_list.specs.Kinds.{word_at}
use Rattle.word_list.specs.Request.{Asked, Call}
use Rattle.word_list.specs.Rule.{IsBadWord}
use Rattle.word_list.specs.Settings.{is_for_small_maps, session_engine}
use Rattle.word_list.specs.declared.request.Pick.{Pick}
use Rattle.word_list.specs.declared.request.Pick.TheVariants as pick
use Rattle.word_list.specs.declared.request.SessionEngine.TheVariants.{Plain, Jps, Block, Plus}
use Rattle.word_list.specs.declared.request.States.{States}
use Rattle.word_list.specs.declared.request.SmallEngine.TheVariants.{Boxes, Moves}
use Rattle.word_list.specs.declared.request.Settings.{Settings}
use Rattle.word_list.specs.declared.rows.Command.{Command}
use Rattle.word_list.specs.declared.rows.Command.TheVariants.{Drill}
use Rattle.call_files.specs.FaultLines.{word_line}
use Rattle.call_files.specs.Files.{AreAccepted, File, HasRefused, IsAccepted, file_of}
use Rattle.call_files.specs.Kinds.{kind_for, limit_of}
use Rattle.call_files.specs.MapFiles.{map_files}
use Rattle.call_files.specs.declared.kind.Extent.TheVariants as extent
use Rattle.call_files.specs.declared.kind.TextKind.TheVariants as kind
use Rattle.jps_run.specs.Calls.{call_with, files_of, output_of, reads_input, task}
use Rattle.jps_run.specs.Heard.{IsInput}
use Rattle.jps_run.specs.Outcome.{IsOutcome, Outcome, Spell, bad_text, bad_word, done}
use Rattle.jps_run.specs.Outcome.{outcome_of, outcome_on, outcome_with}
use Rattle.jps_run.specs.Parts.{Output, on_map}
use Rattle.jps_run.specs.Manner.{Manner, by_of, picked_by, engine_for, layout_for, manner_of, session_by}
use Rattle.jps_run.specs.Replies.{By, by_session}
use Rattle.jps_run.specs.Who.{replies_by}
use Rattle.outcome_laws.specs.Alike.{way_of}
use Rattle.outcome_laws.specs.Files.{AreKnown}
use Rattle.outcome_laws.specs.Outcomes.{AsksForCosts, DifferInEngine, FilesAreKnown, HoldsSmallMap, is_jump}
use Rattle.outcome_laws.proofs.Asked.{cost_output, silent_for}
use Rattle.outcome_laws.proofs.Files.{one_line, not_both}
use Rattle.outcome_laws.proofs.Replies.{reply_alike}
use Rattle.outcome_laws.proofs.Words.{one_bad_word, none_of_calls}
use Rattle.outcome_laws.proofs.SmallMaps.{AreAlike, same_alike, small_alike}
use Rattle.outcome_laws.proofs.Tasks.{TakesNone, TakesTables, tables_taken}

-- what a call comes to, where its words are not refused
pub data CallComes (call : Call) (holds : List ℕ → Held) (input : Option (List ℕ)) : Outcome → Type 0 where
  refused : (line : List ℕ) → HasRefused holds (files_of call) line
      → CallComes call holds input (record { status = 3; out = []; wants = []; line = line })
  finished : (texts : List (List ℕ)) (script : List ℕ) (outcome : Outcome)
      → AreAccepted holds [] (files_of call) texts → IsInput input script
      → outcome_of replies_by call texts script ≡ Some outcome → CallComes call holds input outcome

call_or : Call → Option Call → Call
call_or d None = d
call_or d (Some call) = call

same_call : (words : List (List ℕ)) (call other : Call) → Spell words call → Spell words other → call ≡ other
unfolding call_or
same_call words call other one two = ap (call_or call) (sym one ∙ two)

-- an outcome of words that spell a call
pub call_comes : (words : List (List ℕ)) (holds : List ℕ → Held) (input : Option (List ℕ)) (call : Call)
    (outcome : Outcome)
    → Spell words call → IsOutcome replies_by words holds input outcome → CallComes call holds input outcome
call_comes words holds input call _ spelled (bad_word number bad) =
    absurd (none_of_calls words call number spelled bad)
call_comes words holds input call _ spelled (bad_text other line also is) =
    refused line (subst (λ (c : Call). HasRefused holds (files_of c) line)
    (same_call words other call also spelled) is)
call_comes words holds input call _ spelled (done other texts script outcome also accepted comes is) =
    let same = same_call words other call also spelled in
    finished texts script outcome
    (subst (λ (c : Call). AreAccepted holds [] (files_of c) texts) same accepted)
    comes (subst (λ (c : Call). outcome_of replies_by c texts script ≡ Some outcome) same is)

-- the names of files
names : List File → List (List ℕ)
names [] = []
names (file ∷ files) = file.name ∷ names files

-- a known file holds one text
same_held : (held : Held) (x y : List ℕ) (limit also : ℕ) → held ≢ unknown → IsWhole held limit x
    → IsWhole held also y
    → x ≡ y
same_held unknown x y limit also known p q = absurd (known refl)
same_held absent x y limit also known p q = absurd (p)
same_held (holding bytes) x y limit also known p q = p.0 ∙ sym q.0

both : (x y : List ℕ) (one two : List (List ℕ)) → x ≡ y → one ≡ two → x ∷ one ≡ y ∷ two
both x y one two e f =
    ap (λ (text : List ℕ). text ∷ one) e ∙ ap (λ (texts : List (List ℕ)). y ∷ texts) f

-- known files of the same names hold the same texts
same_texts : (holds : List ℕ → Held) (files others : List File) (earlier before one two : List (List ℕ))
    → AreKnown holds files → names files ≡ names others → AreAccepted holds earlier files one
    → AreAccepted holds before others two → one ≡ two
unfolding names
same_texts holds [] [] earlier before [] [] known e p q = refl
same_texts holds [] [] earlier before (x ∷ one) two known e p q = absurd (p)
same_texts holds [] [] earlier before one (y ∷ two) known e p q = absurd (q)
same_texts holds [] (file ∷ others) earlier before one two known e p q = absurd (cc)
same_texts holds (file ∷ files) [] earlier before one two known e p q = absurd (cc)
same_texts holds (file ∷ files) (other ∷ others) earlier before [] two known e p q = absurd (p)
same_texts holds (file ∷ files) (other ∷ others) earlier before one [] known e p q = absurd (q)
same_texts holds (file ∷ files) (other ∷ others) earlier before (x ∷ one) (y ∷ two) known e p q =
    let name : file.name ≡ other.name = cc in
    let rest : names files ≡ names others = cc in
    let here : x ≡ y = same_held (holds file.name) x y (limit_of file.kind)
    (limit_of other.kind) known.0 p.0.0
    (subst (λ (n : List ℕ). IsAccepted before other.kind (holds n) y) (sym name) q.0).0 in
    both x y one two here (same_texts holds files others (earlier ++ x ∷ []) (before ++ y ∷ []) one two
    known.1 rest
    p.1 q.1)

-- the engine is no matter for the names of a call's files
same_map_names : (set other : Settings) (map : List ℕ) (tables : Option (List ℕ))
    → names (map_files set map tables) ≡ names (map_files other map tables)
unfolding names
same_map_names set other map None = refl
same_map_names set other map (Some tables) = refl

names_with : (files others rest : List File) → names files ≡ names others
    → names (files ++ rest) ≡ names (others ++ rest)
unfolding names
names_with files others rest e = names_append files ∙ ap (λ (ns : List (List ℕ)). ns ++ names rest) e
    ∙ sym (names_append others)
  where
    names_append : (files : List File) → names (files ++ rest) ≡ names files ++ names rest
    names_append [] = refl
    names_append (x ∷ files) = ap (λ (ns : List (List ℕ)). x.name ∷ ns) (names_append files)

same_names : (asked : Asked) (set other : Settings)
    → names (files_of (call_with asked set)) ≡ names (files_of (call_with asked other))
same_names asked set other = by_tables (tables_taken asked.command asked.words)
  where
    by_tables : TakesTables asked.command asked.words ⊎ TakesNone asked.command asked.words
        → names (files_of (call_with asked set)) ≡ names (files_of (call_with asked other))
    by_tables (inl t) =
        let map : List ℕ = word_at asked.words 0 in
        ap names (t.files set asked.tables)
        ∙ names_with (map_files set map asked.tables) (map_files other map asked.tables) t.rest
        (same_map_names set other map asked.tables)
        ∙ ap names (sym (t.files other asked.tables))
    by_tables (inr t) = ap names (t.files set other asked.tables asked.tables)

-- nor for the files themselves, where engines take the same maps
module _ (set other : Settings) (rule : set.rule ≡ other.rule)
    (small : is_for_small_maps set.pick ≡ is_for_small_maps other.pick) where
  same_map_files : (map : List ℕ) (tables : Option (List ℕ)) → map_files set map tables
      ≡ map_files other map tables
  same_map_files map None =
      ap (λ (b : Bool). file_of (kind_for (if b then extent.Small else extent.Any)) map ∷ []) small
  same_map_files map (Some tables) =
      ap (λ (corner : Corner). file_of kind.Map map ∷ file_of (kind.Tables corner) tables ∷ []) rule

  same_files : (asked : Asked) → files_of (call_with asked set) ≡ files_of (call_with asked other)
  same_files asked = by_tables (tables_taken asked.command asked.words)
    where
      by_tables : TakesTables asked.command asked.words ⊎ TakesNone asked.command asked.words
          → files_of (call_with asked set) ≡ files_of (call_with asked other)
      by_tables (inl t) =
          t.files set asked.tables
          ∙ ap (λ (files : List File). files ++ t.rest) (same_map_files (word_at asked.words 0) asked.tables)
          ∙ sym (t.files other asked.tables)
      by_tables (inr t) = t.files set other asked.tables asked.tables

-- engines that jump with the same states answer in one way, and take any map
record AnswerAlike (one other : Settings) : Type 0 where
  picked : way_of (picked_by one) ≡ way_of (picked_by other)
  session : way_of (session_by one) ≡ way_of (session_by other)
  small : is_for_small_maps one.pick ≡ is_for_small_maps other.pick

jump_ways : (states : States) (p : Pick) → is_jump p ≡ true
    → (way_of (by_of states p) ≡ by_session (engine.Jps (layout_for states)))
    × (way_of (by_session (engine_for states (session_engine p)))
    ≡ by_session (engine.Jps (layout_for states)))
    × (is_for_small_maps p ≡ false)
jump_ways states (pick.Session Jps) e = (refl, refl, refl)
jump_ways states (pick.Session Block) e = (refl, refl, refl)
jump_ways states (pick.Session Plus) e = (refl, refl, refl)
jump_ways states (pick.Session Plain) e = absurd (cc)
jump_ways states (pick.Small Boxes) e = absurd (cc)
jump_ways states (pick.Small Moves) e = absurd (cc)

jumps_alike : (one other : Settings) → is_jump one.pick ≡ true → is_jump other.pick ≡ true
    → one.states ≡ other.states → AnswerAlike one other
jumps_alike one other jump jumps states =
    let p = jump_ways one.states one.pick jump in
    let q = jump_ways other.states other.pick jumps in
    let same = ap (λ (s : States). by_session (engine.Jps (layout_for s))) states in
    record { picked = p.0 ∙ same ∙ sym q.0; session = p.1 ∙ same ∙ sym q.1; small = p.2 ∙ sym q.2 }

-- so they reply the same
replies_same : (by other : By) → way_of by ≡ way_of other → replies_by by ≡ replies_by other
replies_same by other way = fun_ext (λ ls. fun_ext (λ s. fun_ext (λ t. reply_alike by other ls s t way)))

manner_same : (one other : Settings) → AnswerAlike one other → one.show ≡ other.show → one.rule ≡ other.rule
    → manner_of replies_by one ≡ manner_of replies_by other
manner_same one other alike show rule =
    rw (
      replies_same (picked_by one) (picked_by other) alike.picked,
      replies_same (session_by one) (session_by other) alike.session,
      show,
      rule,
    ) refl

-- what a call comes to hangs on its command, on how it is answered, and on its output
outcome_as : Command → Manner → List (List ℕ) → List ℕ → Option Output → Option Outcome
outcome_as command manner texts script out =
    if reads_input command
    then on_map texts (λ m behind. outcome_on command manner m script) else option_map outcome_with out

outcome-is : (call : Call) (texts : List (List ℕ)) (script : List ℕ) → outcome_of replies_by call texts script
    ≡ outcome_as call.request.command (manner_of replies_by call.settings) texts script
    ((task call.request.command call.request.words).output (manner_of replies_by call.settings) texts)
unfolding outcome_as outcome_of output_of
outcome-is call texts script = refl

-- an outcome is one
pub same_value : (one other : Outcome) (o : Option Outcome) → o ≡ Some one → o ≡ Some other → one ≡ other
same_value one other None e f = absurd (cc)
same_value one other (Some x) e f = (let same : one ≡ other = cc in same)

module _ (holds : List ℕ → Held) (script : List ℕ) (call like : Call) (alike : DifferInEngine call like)
    (known : AreKnown holds (files_of call)) where
  -- the second call reads what the first one does by its settings
  like_files : files_of (call_with call.request like.settings) ≡ files_of like
  like_files =
      alike.same.files like.settings call.request.tables
      ∙ ap (λ (t : Option (List ℕ)). (task like.request.command like.request.words).files like.settings t)
      alike.tables

  pub one_list : (one two : List (List ℕ)) → AreAccepted holds [] (files_of call) one
      → AreAccepted holds [] (files_of like) two → one ≡ two
  one_list one two p q = same_texts holds (files_of call) (files_of like) [] [] one two known
      (same_names call.request call.settings like.settings ∙ ap names like_files) p q

  -- both come to one outcome on the same texts, and so they do
  abbrev Same : Type 0
  Same = (texts : List (List ℕ)) → outcome_of replies_by call texts script
      ≡ outcome_of replies_by like texts script

  both_finished : Same → (one other : List (List ℕ)) (left right : List ℕ) (a b : Outcome)
      → AreAccepted holds [] (files_of call) one → AreAccepted holds [] (files_of like) other
      → script ≡ left → script ≡ right → outcome_of replies_by call one left ≡ Some a
      → outcome_of replies_by like other right ≡ Some b → a ≡ b
  both_finished same one other left right a b p q l r e f =
      same_value a b (outcome_of replies_by call one script)
      (ap (λ (s : List ℕ). outcome_of replies_by call one s) l ∙ e)
      (same one ∙ ap (λ (ts : List (List ℕ)). outcome_of replies_by like ts script) (one_list one other p q)
      ∙ ap (λ (s : List ℕ). outcome_of replies_by like other s) r ∙ f)

  both_same : AreAlike holds (files_of call) (files_of like) → Same → (one other : Outcome)
      → CallComes call holds (Some script) one → CallComes like holds (Some script) other → one ≡ other
  both_same files same _ _ (refused a p) (refused b q) =
      ap (λ (line : List ℕ). record { status = 3; out = []; wants = []; line = line })
      (one_line holds (files_of call) a b known p (files.refused b q))
  both_same files same _ _ (refused a p) (finished texts s o q comes e) =
      absurd (not_both holds (files_of call) texts a known (files.accepted texts q) p)
  both_same files same _ _ (finished texts s o p comes e) (refused b q) =
      absurd (not_both holds (files_of call) texts b known p (files.refused b q))
  both_same files same _ _ (finished one l a p left e) (finished other r b q right f) =
      both_finished same one other l r a b p q (sym left) (sym right) e f

  -- where engines answer in one way
  module _ (way : AnswerAlike call.settings like.settings) where
    one_way : Same
    one_way texts =
        let manner = manner_same call.settings like.settings way alike.show alike.rule in
        let m = manner_of replies_by call.settings in
        let out = (task call.request.command call.request.words).output m texts in
        outcome-is call texts script
        ∙ ap (λ (c : Command). outcome_as c m texts script out) alike.same.command
        ∙ ap (λ (o : Option Output). outcome_as like.request.command m texts script o)
        (alike.same.output call.settings texts)
        ∙ ap (λ (k : Manner). outcome_as like.request.command k texts script
        ((task like.request.command like.request.words).output k texts)) manner
        ∙ sym (outcome-is like texts script)

    one_outcome : (one other : Outcome) → CallComes call holds (Some script) one
        → CallComes like holds (Some script) other → one ≡ other
    one_outcome = both_same (same_alike holds (files_of call) (files_of like)
        (same_files call.settings like.settings alike.rule way.small call.request ∙ like_files)) one_way

  -- where costs alone are asked for
  module _ (costs : AsksForCosts call.request.command call.settings.show) where
    one_cost : Same
    unfolding outcome_as
    one_cost texts =
        let m = manner_of replies_by call.settings in
        let n = manner_of replies_by like.settings in
        let silent = silent_for call.request.command call.settings.show costs in
        let also : reads_input like.request.command
        ≡ false = sym (ap reads_input alike.same.command) ∙ silent in
        outcome-is call texts script
        ∙ rw silent refl
        ∙ ap (λ (o : Option Output). option_map outcome_with o)
        (cost_output call.request.words call.request.command call.settings like.settings alike.show
        alike.rule costs
        texts ∙ alike.same.output like.settings texts)
        ∙ rw also refl
        ∙ sym (outcome-is like texts script)

    one_cost_outcome : (one other : Outcome)
        → (call.request.command ≡ Drill)
        ⊎ (is_for_small_maps call.settings.pick ≡ is_for_small_maps like.settings.pick)
        ⊎ ((one.status ≢ 3) × (other.status ≢ 3)) ⊎ HoldsSmallMap (holds (word_at call.request.words 0))
        → CallComes call holds (Some script) one → CallComes like holds (Some script) other → one ≡ other
    one_cost_outcome one other (inl drill) p q =
        both_same (same_alike holds (files_of call) (files_of like) (none_read drill ∙ like_files)) one_cost
        one other p q
      where
        -- a drill reads no file
        none_read : call.request.command ≡ Drill
            → files_of call ≡ files_of (call_with call.request like.settings)
        none_read drill =
            ap (λ (c : Command). (task c call.request.words).files call.settings call.request.tables) drill
            ∙ sym (ap (λ (c : Command). (task c call.request.words).files like.settings
            call.request.tables) drill)
    one_cost_outcome one other (inr (inl small)) p q =
        both_same
        (same_alike holds (files_of call) (files_of like)
        (same_files call.settings like.settings alike.rule small call.request
        ∙ like_files)) one_cost one other p q
    one_cost_outcome one other (inr (inr (inr small))) p q =
        both_same
        (subst (λ (files : List File). AreAlike holds (files_of call) files) like_files
        (small_alike holds call.settings like.settings alike.rule call.request known small)) one_cost one
        other p q
    one_cost_outcome one other (inr (inr (inl few))) p q = by_ends one other few p q
      where
        by_ends : (one other : Outcome) → (one.status ≢ 3) × (other.status ≢ 3)
            → CallComes call holds (Some script) one
            → CallComes like holds (Some script) other → one ≡ other
        by_ends _ _ few (refused a p) q = absurd (few.0 refl)
        by_ends _ _ few (finished texts s o p comes e) (refused b q) = absurd (few.1 refl)
        by_ends _ _ few (finished one l a p left e) (finished other r b q right f) =
            both_finished one_cost one other l r a b p q (sym left) (sym right) e f

-- a call asks for what it asks for
pub itself : (call : Call) → DifferInEngine call call
itself call = record {
  same = record { command = refl; files = λ set tables. refl; output = λ set texts. refl };
  tables = refl;
  show = refl;
  rule = refl;
}

-- the words are refused, and this comes of it
record IsBadIn (words : List (List ℕ)) (outcome : Outcome) : Type 0 where
  number : ℕ
  bad : IsBadWord is_call words number
  is : outcome ≡ record { status = 2; out = []; wants = []; line = word_line number }

-- two outcomes of the same words
words_or_call : (words : List (List ℕ)) (holds : List ℕ → Held) (script : List ℕ) (one : Outcome)
    → IsOutcome replies_by words holds (Some script) one
    → IsBadIn words one ⊎ ((call : Call) × Spell words call)
words_or_call words holds script _ (bad_word number bad) =
    inl (record { number = number; bad = bad; is = refl })
words_or_call words holds script _ (bad_text call line spelled is) = inr (call, spelled)
words_or_call words holds script _ (done call texts s o spelled accepted comes is) = inr (call, spelled)

module _ (words : List (List ℕ)) (holds : List ℕ → Held) (script : List ℕ) (one other : Outcome)
    (known : FilesAreKnown words holds) (p : IsOutcome replies_by words holds (Some script) one)
    (q : IsOutcome replies_by words holds (Some script) other) where
  spelled_one : (call : Call) → Spell words call → one ≡ other
  spelled_one call spelled =
      one_outcome holds script call call (itself call)
      (known call spelled) (record { picked = refl; session = refl; small = refl }) one other
      (call_comes words holds (Some script) call one spelled p)
      (call_comes words holds (Some script) call other spelled q)

  by_words : IsBadIn words one ⊎ ((call : Call) × Spell words call)
      → IsBadIn words other ⊎ ((call : Call) × Spell words call) → one ≡ other
  by_words (inr (call, spelled)) _ = spelled_one call spelled
  by_words (inl _) (inr (call, spelled)) = spelled_one call spelled
  by_words (inl a) (inl b) =
      a.is ∙ ap (λ (n : ℕ). record { status = 2; out = []; wants = []; line = word_line n })
      (one_bad_word is_call words a.number b.number a.bad b.bad) ∙ sym b.is

pub outcomes_one : (words : List (List ℕ)) (holds : List ℕ → Held) (script : List ℕ) (one other : Outcome)
    → FilesAreKnown words holds → IsOutcome replies_by words holds (Some script) one
    → IsOutcome replies_by words holds (Some script) other
    → one ≡ other
outcomes_one words holds script one other known p q =
    by_words words holds script one other known p q (words_or_call words holds script one p)
    (words_or_call words holds script other q)

pub jumps_same : (words others : List (List ℕ)) (call like : Call) (holds : List ℕ → Held) (script : List ℕ)
    (one other : Outcome) → AreKnown holds (files_of call) → Spell words call → Spell others like
    → DifferInEngine call like → is_jump call.settings.pick ≡ true → is_jump like.settings.pick ≡ true
    → call.settings.states ≡ like.settings.states
    → IsOutcome replies_by words holds (Some script) one
    → IsOutcome replies_by others holds (Some script) other → one ≡ other
jumps_same words others call like holds script one other known spelled also alike jump jumps as_many p q =
    one_outcome holds script call like alike known
    (jumps_alike call.settings like.settings jump jumps as_many) one other
    (call_comes words holds (Some script) call one spelled p)
    (call_comes others holds (Some script) like other also q)

pub costs_same : (words others : List (List ℕ)) (call like : Call) (holds : List ℕ → Held) (script : List ℕ)
    (one other : Outcome) → AreKnown holds (files_of call) → Spell words call → Spell others like
    → DifferInEngine call like → AsksForCosts call.request.command call.settings.show
    → (call.request.command ≡ Drill)
    ⊎ (is_for_small_maps call.settings.pick ≡ is_for_small_maps like.settings.pick)
    ⊎ ((one.status ≢ 3) × (other.status ≢ 3)) ⊎ HoldsSmallMap (holds (word_at call.request.words 0))
    → IsOutcome replies_by words holds (Some script) one
    → IsOutcome replies_by others holds (Some script) other → one ≡ other
costs_same words others call like holds script one other known spelled also alike costs maps p q =
    one_cost_outcome holds script call like alike known costs one other maps
    (call_comes words holds (Some script) call one spelled p)
    (call_comes others holds (Some script) like other also q)
