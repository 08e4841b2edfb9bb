-- The texts that are printed whole.
use Rattle.std.specs.Prelude.{ℕ, List, [], codes, map, ◌++◌}
use Rattle.std.specs.List.{concat}
use Rattle.word_list.specs.Request.{Named, rows}
use Rattle.word_list.specs.declared.settings.Family.{Family}
use Rattle.word_list.specs.declared.settings.Family.TheVariants.{Engine, SmallMap, Show, Walks, Drawing}
use Rattle.word_list.specs.declared.settings.Family.TheVariants.{Counts, Rule, TableFile}

-- how help tells of the settings of a family
abbrev setting_text : Family → List ℕ
setting_text Engine = codes " [engine=ENGINE] [states=arrival|cell]"
setting_text SmallMap = []
setting_text TableFile = codes " [tables=FILE]"
setting_text Show = codes " [show=points|cells|trace]"
setting_text Walks = codes " [show=points|cells]"
setting_text Drawing = codes " [show=points|trace]"
setting_text Counts = codes " [show=taken]"
setting_text Rule = codes " [rule=none|one|both]"

-- a blank before a text, where there is one
abbrev blank_before : List ℕ → List ℕ
blank_before [] = []
blank_before text = codes " " ++ text

-- the lines of help on a command, by its row
abbrev command_text : Named → List ℕ
command_text one =
    codes "  jps " ++ one.name ++ blank_before one.words ++ concat (map setting_text one.row.allows)
    ++ codes "\n" ++ concat (map (λ line. codes "      " ++ line ++ codes "\n") one.says)

-- what `--help` prints
unfoldable pub help_text : List ℕ
help_text =
    codes "usage: jps COMMAND ...\n" ++ concat (map command_text rows)
    ++ codes "\n"
    ++ codes
    "A cell is its column and its row, which count from 0 in the upper left. `walk A B` is a walk of A\n"
    ++ codes
    "straight and B diagonal moves; its points follow: its first cell, its last cell, and each cell at\n"
    ++ codes "which it turns, or by an engine that jumps each cell at which a jump stopped. show=cells shows each of\n"
    ++ codes
    "its cells, show=trace each state that the search took as well: a cell, and how it was come to.\n"
    ++ codes "ENGINE is plain, where none is named, jps, block or plus. Walks cost the same by each: jps jumps cell by\n"
    ++ codes "cell, block over 512 cells at a time, plus by tables that are made when the map is read.\n"
    ++ codes "Beside one of these three states=arrival, where none is named, has the search keep a state for each cell and\n"
    ++ codes "direction of arrival, states=cell one for each cell: mostly in less time, and walks cost the same.\n"
    ++ codes "tables=FILE beside engine=plus takes the tables that `jps tables` wrote to FILE; those of another map, of\n"
    ++ codes "another rule, or with a wrong entry are refused.\n"
    ++ codes "Where none is named serve has engine=block, and beside an engine that jumps states=cell. Its lines are those of\n"
    ++ codes "scripts, and `near SX SY GX GY`, `field X Y`, `costs X Y`. None ends it: another line is answered `refused T1`, one\n"
    ++ codes "of more than 128 bytes `refused T2`, and where memory is refused a line is answered `memory` and changes nothing.\n"
    ++ codes "For query and scen, on maps of at most 16384 cells, ENGINE may also be boxes, whose search leaves out moves\n"
    ++ codes "by goal boxes, or moves, which follows first moves and takes no states (no show=trace, no show=taken).\n"
    ++ codes "Of the two cells beside a diagonal move rule=none lets none be blocked, rule=one one, rule=both both; where\n"
    ++ codes "no rule is named it is none.\n"
    ++ codes "In a checkout `./jps --program` prints the path of the program: loops of short calls are quicker by that path.\n"
    ++ codes "\n"
    ++ codes "statuses: 0 done; 1 done, and a row of `scen` is neither agree nor near, `judge` or `check` refuses, `prove`\n"
    ++ codes "has no free ends on one layer, `draw` no free ends, `lengths` left an entry out, or `problems` found fewer than N;\n"
    ++ codes "2 the words are refused; 3 a text is refused; 4 a read failed; 5 a write of the output failed; 6 memory was refused\n"
    ++ codes "faults, one line on standard error:\n"
    ++ codes "  jps: word N            word N is missing, or no call has it there; words are counted from 1\n"
    ++ codes "  jps: TEXT CODE line N  line N of the map, script, scen, cert or walks breaks its form\n"
    ++ codes "  jps: TEXT long         the text is longer than 67108864 bytes, a cert, walks or tables than 1073741824\n"
    ++ codes "  jps: map large         the map has more than 16384 cells, and boxes or moves was asked for\n"
    ++ codes "  jps: tables F1         FILE begins with another head than the map's tables under the rule; F2: it has another length\n"
    ++ codes "  jps: tables F3 LAYER X,Y D  this is the first entry in FILE that is another: for this layer, cell and direction\n"
    ++ codes "  jps: read, jps: write, jps: memory\n"

-- what `--version` prints
abbrev pub version_text : List ℕ
version_text = codes "jps 1.3.0\n"
