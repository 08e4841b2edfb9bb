-- The lists of words that are calls of the program.
use Rattle.std.specs.Prelude.{ℕ, Bool, false, List, [], ◌∷◌, length, drop, is_some, ◌&&◌, if◌then◌else◌}
use Rattle.std.specs.Prelude.{Option, Some, None, option_and_then}
use Rattle.word_list.specs.declared.rows.WordKind.{WordKind}
use Rattle.word_list.specs.declared.settings.Family.{Family}
use Rattle.word_list.specs.declared.request.SessionEngine.{SessionEngine}
use Rattle.word_list.specs.Request.{Call, asked_by, engine_of, row_of}
use Rattle.word_list.specs.Settings.{are_settings, settings_of}
use Rattle.word_list.specs.Kinds.{is_of}

-- whether the words are a word of each kind and then settings
abbrev pub fits : SessionEngine → List WordKind → List Family → List (List ℕ) → Bool
fits engine [] allows words = are_settings engine allows words
fits engine (kind ∷ takes) allows [] = false
fits engine (kind ∷ takes) allows (word ∷ words) = is_of kind word && fits engine takes allows words

-- the call that the words spell, if they spell one
abbrev pub call_of : List (List ℕ) → Option Call
call_of [] = None
call_of (name ∷ words) = option_and_then
    (λ row. if fits (engine_of row.command) row.takes row.allows words then Some (record {
      request = asked_by row words;
      settings = settings_of (engine_of row.command) (drop (length row.takes) words);
    }) else None)
    (row_of name)

-- whether the words spell a call
unfoldable pub is_call : List (List ℕ) → Bool
is_call words = is_some (call_of words)
