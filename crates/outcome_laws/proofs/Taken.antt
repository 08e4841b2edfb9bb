-- What is answered for the bytes that were taken begins what the whole script is answered.
use Rattle.std.proofs.Common.{◌≡◌, refl, sym, ap, ◌∙◌, subst, List, [], ◌∷◌, ◌++◌, append_assoc, ℕ, zero, suc}
use Rattle.std.proofs.Common.{◌+◌, ◌≤◌, ◌<◌, ◌⊎◌, inl, inr, length, length-append, take, arith}
use Rattle.std.specs.Prelude.{Option, Some, None}
use Rattle.std.specs.List.{fold}
use Rattle.std.proofs.lemmas.List.{append-nil, take_all}
use Rattle.script_text.specs.declared.command.ScriptCommand.{ScriptCommand}
use Rattle.script_text.specs.Feeding.{commands_of, commands_so_far}
use Rattle.script_text.proofs.Feeding.{commands-end, commands-grow}
use Rattle.call_files.specs.Kinds.{limit_of}
use Rattle.call_files.specs.declared.kind.TextKind.TheVariants as kind
use Rattle.jps_run.specs.Answers.{answer_line, answer_lines, edits_with, in_turn}
use Rattle.jps_run.specs.Heard.{AnswerPending, AnswerTaken, Answering, AreWhole, at_end, counted}
use Rattle.jps_run.specs.Heard.{heard_commands, so_far}
use Rattle.jps_run.proofs.Listening.{few-heard, long-heard_of}
use Rattle.jps_run.proofs.Solving.{in_turn-more}
use Rattle.outcome_laws.specs.Lines.{TakenBeginsHeard}
use Rattle.outcome_laws.proofs.Refusing.{less_or_not}

-- these commands begin with the first ones
abbrev Begin : List ScriptCommand → List ScriptCommand → Type 0
Begin first all = (more : List ScriptCommand) × (all ≡ first ++ more)

begin-then : (a b c : List ScriptCommand) → Begin a b → Begin b c → Begin a c
begin-then a b c p q =
    (p.0 ++ q.0, q.1 ∙ ap (λ (l : List ScriptCommand). l ++ q.0) p.1 ∙ append_assoc a p.0 q.0)

begin-same : (a b c d : List ScriptCommand) → a ≡ b → Begin b c → d ≡ c → Begin a d
begin-same a b c d e p f = (p.0, f ∙ p.1 ∙ ap (λ (l : List ScriptCommand). l ++ p.0) (sym e))

-- the first bytes of more bytes begin with the first bytes
take-front : (n : ℕ) (xs ys : List ℕ) → (more : List ℕ) × (take n (xs ++ ys) ≡ take n xs ++ more)
take-front zero [] ys = ([], refl)
take-front zero (x ∷ xs) ys = ([], refl)
take-front (suc n) [] ys = (take (suc n) ys, refl)
take-front (suc n) (x ∷ xs) ys = let t = take-front n xs ys in (t.0, ap (λ (l : List ℕ). x ∷ l) t.1)

shorter : (m n limit : ℕ) → m + n ≤ limit → m ≤ limit
shorter m n limit h = omega arith

-- of few bytes all count
counted-few : (taken : List ℕ) → length taken ≤ limit_of kind.Script → counted taken ≡ taken
counted-few taken few = take_all (limit_of kind.Script) taken few

module _ (taken rest : List ℕ) where
  in_whole : length (taken ++ rest) ≤ limit_of kind.Script
      → Begin (commands_so_far (counted taken)) (commands_of (taken ++ rest))
  in_whole few =
      begin-same (commands_so_far (counted taken)) (commands_so_far taken) (commands_of (taken ++ rest))
      (commands_of (taken ++ rest)) (ap commands_so_far (counted-few taken short))
      (begin-then (commands_so_far taken) (commands_so_far (taken ++ rest)) (commands_of (taken ++ rest))
      (commands-grow taken rest) (commands-end (taken ++ rest))) refl
    where
      short : length taken ≤ limit_of kind.Script
      short = shorter (length taken) (length rest) (limit_of kind.Script)
          (subst (λ n. n ≤ limit_of kind.Script) (length-append taken rest) few)

  in_counted : Begin (commands_so_far (counted taken)) (commands_so_far (counted (taken ++ rest)))
  in_counted =
      let front = take-front (limit_of kind.Script) taken rest in
      begin-same (commands_so_far (counted taken)) (commands_so_far (counted taken))
      (commands_so_far (counted taken ++ front.0)) (commands_so_far (counted (taken ++ rest))) refl
      (commands-grow (counted taken) front.0) (ap commands_so_far front.1)

  nothing_left : rest ≡ [] → taken ++ rest ≡ taken
  nothing_left end = ap (λ (l : List ℕ). taken ++ l) end ∙ append-nil taken

  -- the whole commands among these bytes begin those of the script
  part-heard : (commands : List ScriptCommand) → AreWhole (Some rest) taken commands
      → Begin commands (heard_commands (taken ++ rest))
  part-heard commands (so_far c) = by_length (less_or_not (limit_of kind.Script) (length (taken ++ rest)))
    where
      by_length : (limit_of kind.Script < length (taken ++ rest))
          ⊎ (length (taken ++ rest) ≤ limit_of kind.Script)
          → Begin commands (heard_commands (taken ++ rest))
      by_length (inr few) = begin-same commands _ _ _ c (in_whole few) (few-heard (taken ++ rest) few).0
      by_length (inl long) = begin-same commands _ _ _ c in_counted (long-heard_of (taken ++ rest) long).0
  part-heard commands (at_end end few c) = (
    [],
    ap heard_commands (nothing_left end) ∙ (few-heard taken few).0 ∙ sym c ∙ sym (append-nil commands),
  )

pub taken_begins : TakenBeginsHeard
taken_begins replies show ls script None lines p = absurd p.consumed
taken_begins replies show ls script (Some rest) lines p =
    let begun = part-heard p.taken rest p.commands p.whole in
    let give = answer_line replies show in
    let edits = fold edits_with [] p.commands in (
      in_turn give ls edits begun.0,
      ap (λ (text : List ℕ). answer_lines replies show ls (heard_commands text)) p.consumed
          ∙ ap (λ (commands : List ScriptCommand). answer_lines replies show ls commands) begun.1
          ∙ in_turn-more give ls [] p.commands begun.0
          ∙ ap (λ (l : List (List ℕ)). l ++ in_turn give ls edits begun.0) (sym p.are),
    )

-- where no line of the bytes is refused, the lines are those for the whole commands among them
pub pending_taken : (answers : Answering) (input left : Option (List ℕ)) (lines : List (List ℕ))
    → AnswerPending answers input left lines → AnswerTaken answers input left lines
pending_taken answers input left lines p = record {
  taken = p.taken;
  consumed = p.consumed;
  commands = commands_so_far p.taken;
  whole = so_far (ap commands_so_far (sym (counted-few p.taken p.few)));
  are = p.are;
}
