-- What a task hangs on: its files on the settings and a table file by those of its map alone, and what is
-- printed not on the text of the table file.
use Rattle.std.proofs.Common.{◌≡◌, ◌⊎◌, inl, inr, refl, sym, ℕ, List, [], ◌∷◌, ◌++◌, append-nil, length}
use Rattle.std.specs.Prelude.{⊤, Option}
use Rattle.word_list.specs.Kinds.{word_at}
use Rattle.word_list.specs.declared.request.Settings.{Settings}
use Rattle.word_list.specs.declared.rows.Command.{Command}
use Rattle.word_list.specs.declared.rows.Command.TheVariants as command
use Rattle.call_files.specs.Files.{File, file_of}
use Rattle.call_files.specs.Kinds.{refusal_of}
use Rattle.call_files.specs.MapFiles.{map_files}
use Rattle.call_files.specs.declared.kind.TextKind.TheVariants as kind
use Rattle.jps_run.specs.Calls.{task}
use Rattle.jps_run.specs.Manner.{Manner}

-- whether a text of these files is refused does not hang on the texts before it
abbrev pub StandAlone : List File → Type 0
StandAlone [] = ⊤
StandAlone (file ∷ files) = ((one other : List (List ℕ)) (text : List ℕ)
    → refusal_of file.kind one text ≡ refusal_of file.kind other text) × StandAlone files

-- the command reads a map with a table file, and behind these files that stand alone; a text that stands
-- between the map's and theirs is no matter for what is printed
pub record TakesTables (command : Command) (words : List (List ℕ)) : Type 0 where
  pub rest : List File
  pub alone : StandAlone rest
  pub files : (set : Settings) (tables : Option (List ℕ))
      → (task command words).files set tables ≡ map_files set (word_at words 0) tables ++ rest
  pub output : (manner : Manner) (text loaded : List ℕ) (more : List (List ℕ)) → length more ≡ length rest
      → (task command words).output manner (text ∷ loaded ∷ more)
      ≡ (task command words).output manner (text ∷ more)

-- the files of the command hang neither on a table file nor on the settings
pub record TakesNone (command : Command) (words : List (List ℕ)) : Type 0 where
  pub files : (set also : Settings) (one other : Option (List ℕ))
      → (task command words).files set one ≡ (task command words).files also other

-- each command is one of these
pub tables_taken : (command : Command) (words : List (List ℕ))
    → TakesTables command words ⊎ TakesNone command words
tables_taken command.Query words = inl (record {
  rest = [];
  alone = tt;
  files = λ set tables. sym (append-nil (map_files set (word_at words 0) tables));
  output = λ manner text loaded more many. refl;
})
tables_taken command.Solve words = inl (record {
  rest = file_of kind.Script (word_at words 1) ∷ [];
  alone = (λ one other text. refl, tt);
  files = λ set tables. refl;
  output = solved;
})
  where
    solved : (manner : Manner) (text loaded : List ℕ) (more : List (List ℕ)) → length more ≡ 1
        → (task command.Solve words).output manner (text ∷ loaded ∷ more)
        ≡ (task command.Solve words).output manner (text ∷ more)
    solved manner text loaded [] many = absurd (cc)
    solved manner text loaded (second ∷ more) many = refl
tables_taken command.Live words = inl (record {
  rest = [];
  alone = tt;
  files = λ set tables. sym (append-nil (map_files set (word_at words 0) tables));
  output = λ manner text loaded more many. refl;
})
tables_taken command.Serve words = inl (record {
  rest = [];
  alone = tt;
  files = λ set tables. sym (append-nil (map_files set (word_at words 0) tables));
  output = λ manner text loaded more many. refl;
})
tables_taken command.Scen words = inl (record {
  rest = file_of kind.Scen (word_at words 1) ∷ [];
  alone = (λ one other text. refl, tt);
  files = λ set tables. refl;
  output = judged;
})
  where
    judged : (manner : Manner) (text loaded : List ℕ) (more : List (List ℕ)) → length more ≡ 1
        → (task command.Scen words).output manner (text ∷ loaded ∷ more)
        ≡ (task command.Scen words).output manner (text ∷ more)
    judged manner text loaded [] many = absurd (cc)
    judged manner text loaded (second ∷ more) many = refl
tables_taken apart words = inr (record { files = λ set also one other. refl })
