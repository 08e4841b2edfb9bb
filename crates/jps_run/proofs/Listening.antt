-- What comes in, read by read, and how a call ends that answers it.
use Rattle.std.proofs.Common.{◌≡◌, refl, sym, ap, ◌∙◌, subst, List, [], ◌∷◌, ◌++◌, append_assoc, ℕ, suc, zero}
use Rattle.std.proofs.Common.{◌+◌, ◌<◌, ◌≤◌, ◌⊎◌, inl, inr, length, length-append, take, min, arith}
use Rattle.std.specs.Prelude.{Option, Some, None, codes, true, false}
use Rattle.std.proofs.lemmas.Bool.Decides.{nat_tests}
use Rattle.std.specs.List.{concat}
use Rattle.std.specs.Option.{option_map, option_map_or}
use Rattle.std.specs.Io.KnownBytes.{Consumes, IsAtEnd}
use Rattle.std.proofs.lemmas.List.{append-nil, take_all, take-append-le, length-take, take-take}
use Rattle.std.proofs.Math.Seq.{take-append-add}
use Rattle.script_text.specs.declared.command.ScriptCommand.{ScriptCommand}
use Rattle.script_text.specs.declared.fault.ScriptFault.{ScriptFault}
use Rattle.script_text.specs.Feeding.{commands_so_far, commands_of, fault_so_far, fault_of}
use Rattle.script_text.proofs.Feeding.{fault-stays, whole-refused}
use Rattle.jps_run.specs.Answering.{IsSolved, lines_by}
use Rattle.call_files.specs.FaultLines.{long_line, script_line}
use Rattle.call_files.specs.Kinds.{limit_of}
use Rattle.call_files.specs.declared.kind.TextKind.TheVariants as kind
use Rattle.jps_run.specs.Heard.{AnswerHeard, AnswerTaken, AreWhole, IsInput, WroteAll, WroteFirst}
use Rattle.jps_run.specs.Heard.{heard_commands, heard_refusal, is_long, WroteLines, counted}
use Rattle.jps_run.specs.Hearing.{HasWritten}
use Rattle.io_edge.specs.Known.{Outflow}
use Rattle.line_work.specs.Sending.{Wrote, IsPart}
use Rattle.jps_run.specs.declared.replies.answers.Answers.{Answers}

-- what was taken, and then more
pub consumes-both : (a b c : Option (List ℕ)) (x y : List ℕ) → Consumes a b x → Consumes b c y
    → Consumes a c (x ++ y)
consumes-both None b c x y f s = tt
consumes-both (Some xs) None c x y f s = absurd f
consumes-both (Some xs) (Some ys) None x y f s = absurd s
consumes-both (Some xs) (Some ys) (Some zs) x y f s =
    f ∙ ap (λ (l : List ℕ). x ++ l) s ∙ sym (append_assoc x y zs)

pub consumes-none : (a : Option (List ℕ)) → Consumes a a []
consumes-none None = tt
consumes-none (Some xs) = refl

-- what was taken begins what was left
input-more : (input left : Option (List ℕ)) (text : List ℕ) → Consumes input left text
    → (rest : List ℕ) × IsInput input (text ++ rest)
input-more None left text c = ([], tt)
input-more (Some xs) None text c = absurd c
input-more (Some xs) (Some ys) text c = (ys, sym c)

pub input-all : (input left : Option (List ℕ)) (text : List ℕ) → Consumes input left text → IsAtEnd left
    → IsInput input text
input-all None left text c e = tt
input-all (Some xs) None text c e = absurd c
input-all (Some xs) (Some ys) text c e =
    sym (c ∙ ap (λ (l : List ℕ). text ++ l) e ∙ append-nil text)

-- the first bytes of more bytes begin with the first bytes
take-more-front : {X : Type 0} (n : ℕ) (xs ys : List X) → (more : List X)
    × (take n (xs ++ ys) ≡ take n xs ++ more)
take-more-front zero [] ys = ([], refl)
take-more-front zero (x ∷ xs) ys = ([], refl)
take-more-front (suc n) [] ys = (take (suc n) ys, refl)
take-more-front {X} (suc n) (x ∷ xs) ys =
    let t = take-more-front n xs ys in (t.0, ap (λ (l : List X). x ∷ l) t.1)

at-most : (n m : ℕ) → (n ≤ m) ⊎ (m < n)
at-most zero m = inl (omega arith)
at-most (suc n) zero = inr (omega arith)
at-most (suc n) (suc m) = elim (at-most n m) [ inl h ↦ inl (omega arith) | inr h ↦ inr (omega arith) ]

take-twice : {X : Type 0} (n m : ℕ) (xs : List X) → take n (take m xs) ≡ take (min m n) xs
take-twice n m xs = grind (arith, at-most, take-take, take_all, length-take)

-- of what was taken these bytes count
pub counted-more : (text bytes : List ℕ) (count room : ℕ) → length text + room ≡ limit_of kind.Script
    → counted (text ++ take count bytes) ≡ text ++ take (min count room) bytes
counted-more text bytes count room e =
    ap (λ n. take n (text ++ take count bytes)) (sym e) ∙ take-append-add text (take count bytes) room
    ∙ ap (λ (l : List ℕ). text ++ l) (take-twice room count bytes)

-- a script that is not too long, and one that is
pub few-heard : (script : List ℕ) → length script ≤ limit_of kind.Script
    → (heard_commands script ≡ commands_of script)
    × (heard_refusal script ≡ option_map script_line (fault_of script))
few-heard script few =
    let off : is_long script ≡ false = grind (arith, nat_tests) in (rw off refl, rw off refl)

pub long-heard_of : (script : List ℕ) → limit_of kind.Script < length script
    → (heard_commands script ≡ commands_so_far (counted script))
    × (heard_refusal script
    ≡ Some (option_map_or script_line (fault_so_far (counted script)) (long_line (codes "script"))))
long-heard_of script long =
    let on : is_long script ≡ true = grind (arith, nat_tests) in (rw on refl, rw on refl)

-- a script with a refused line among the bytes that count, whatever comes behind them
refused-script : (full rest : List ℕ) (fault : ScriptFault) (line : List ℕ)
    → fault_so_far (counted full) ≡ Some fault → script_line fault ≡ line
    → (heard_commands (full ++ rest) ≡ commands_so_far (counted full))
    × (heard_refusal (full ++ rest) ≡ Some line)
refused-script full rest fault line is named = elim (at-most (length (full ++ rest)) (limit_of kind.Script)) [
  | inl h ↦
      let e : counted (full ++ rest) ≡ full ++ rest = take_all (limit_of kind.Script) (full ++ rest) h in
      let known : fault_so_far (full ++ rest) ≡ Some fault
      = ap fault_so_far (sym e ∙ front.1) ∙ stays.0 in
      let w = whole-refused (full ++ rest) fault known in
      let so = few-heard (full ++ rest) h in (
        so.0 ∙ w.1 ∙ ap commands_so_far (sym e ∙ front.1) ∙ stays.1,
        so.1 ∙ ap (option_map script_line) w.0 ∙ ap (λ (l : List ℕ). Some l) named,
      )
  | inr h ↦
      let so = long-heard_of (full ++ rest) h in (
        so.0 ∙ ap commands_so_far front.1 ∙ stays.1,
        so.1 ∙ ap (λ (f : Option ScriptFault). Some (option_map_or script_line f (long_line (codes "script"))))
            (ap fault_so_far front.1 ∙ stays.0) ∙ ap (λ (l : List ℕ). Some l) named,
      )
]
  where
    front : (more : List ℕ) × (counted (full ++ rest) ≡ counted full ++ more)
    front = take-more-front (limit_of kind.Script) full rest

    stays : (fault_so_far (counted full ++ front.0) ≡ Some fault)
        × (commands_so_far (counted full ++ front.0) ≡ commands_so_far (counted full))
    stays = fault-stays (counted full) front.0 fault is

module _ (first : Answers) (input left : Option (List ℕ)) (full : List ℕ) (before now : Outflow)
    (consumed : Consumes input left full) where
  -- a line of what came in is refused
  pub refused-heard : (new : Answers) (line : List ℕ)
      → option_map script_line (fault_so_far (counted full)) ≡ Some line
      → HasWritten first new (commands_so_far (counted full)) before now
      → WroteAll (AnswerHeard (lines_by first) input (Some line)) before now
  refused-heard new line named w = by_fault (fault_so_far (counted full)) refl named
    where
      by_fault : (f : Option ScriptFault) → fault_so_far (counted full) ≡ f
          → option_map script_line f ≡ Some line
          → WroteAll (AnswerHeard (lines_by first) input (Some line)) before now
      by_fault None is named = absurd cc
      by_fault (Some fault) is named =
          let comes = input-more input left full consumed in
          let so = refused-script full comes.0 fault line is (let e : script_line fault ≡ line = cc in e) in
          record {
            lines = w.lines;
            stand = record {
              script = full ++ comes.0;
              comes = comes.1;
              refused = sym so.1;
              are = w.worked.answers ∙ ap (lines_by first) (sym so.0);
            };
            wrote = w.wrote;
          }

  -- too many bytes came in, and no line of those that count is refused
  pub long-heard : (new : Answers) (line : List ℕ) → limit_of kind.Script < length full
      → line ≡ long_line (codes "script") → fault_so_far (counted full) ≡ None
      → HasWritten first new (commands_so_far (counted full)) before now
      → WroteAll (AnswerHeard (lines_by first) input (Some line)) before now
  long-heard new line long named clean w =
      let comes = input-more input left full consumed in
      let sum : length (full ++ comes.0) ≡ length full + length comes.0 = length-append full comes.0 in
      let same : counted (full ++ comes.0) ≡ counted full
      = take-append-le (limit_of kind.Script) full comes.0 (omega (arith, long)) in
      let so = long-heard_of (full ++ comes.0) (omega (arith, long, sum)) in
      record {
        lines = w.lines;
        stand = record {
          script = full ++ comes.0;
          comes = comes.1;
          refused = ap (λ (l : List ℕ). Some l) named ∙ sym (so.1
              ∙ ap (λ (f : Option ScriptFault). Some
              (option_map_or script_line f (long_line (codes "script")))) (ap fault_so_far same ∙ clean));
          are = w.worked.answers ∙ ap (lines_by first) (sym (so.0 ∙ ap commands_so_far same));
        };
        wrote = w.wrote;
      }

  -- all came in that there was
  pub all-heard : (new : Answers) (refusal : Option (List ℕ)) → IsAtEnd left
      → length full ≤ limit_of kind.Script → refusal ≡ option_map script_line (fault_of full)
      → HasWritten first new (commands_of full) before now
      → WroteAll (AnswerHeard (lines_by first) input refusal) before now
  all-heard new refusal ended few named w =
      let so = few-heard full few in
      record {
        lines = w.lines;
        stand = record {
          script = full;
          comes = input-all input left full consumed ended;
          refused = named ∙ sym so.1;
          are = w.worked.answers ∙ ap (lines_by first) (sym so.0);
        };
        wrote = w.wrote;
      }

  module _ (commands : List ScriptCommand) (are : AreWhole left full commands) where
    -- a first part of the lines was written
    pub part-heard : IsPart (IsSolved first commands) before now
        → WroteFirst (AnswerTaken (lines_by first) input left) before now
    part-heard p = record {
      lines = p.lines;
      stand = record {
        taken = full;
        consumed = consumed;
        commands = commands;
        whole = are;
        are = p.whole.all;
      };
      wrote = p.wrote;
    }

    -- the first lines were
    pub lines-heard : WroteLines (λ lines. lines ≡ lines_by first commands) before now
        → WroteLines (AnswerTaken (lines_by first) input left) before now
    lines-heard l = record {
      lines = l.lines;
      stand = record {
        taken = full;
        consumed = consumed;
        commands = commands;
        whole = are;
        are = l.stand;
      };
      count = l.count;
      wrote = l.wrote;
    }

    -- or all lines of them
    pub written-heard : (new : Answers) → HasWritten first new commands before now
        → WroteLines (AnswerTaken (lines_by first) input left) before now
    written-heard new w = record {
      lines = w.lines;
      stand = record {
        taken = full;
        consumed = consumed;
        commands = commands;
        whole = are;
        are = w.worked.answers;
      };
      count = length w.lines;
      wrote = subst (λ (l : List (List ℕ)). Wrote before now (concat l))
          (sym (take_all (length w.lines) w.lines (let h : length w.lines ≤ length w.lines = omega arith in
          h)))
          w.wrote;
    }
