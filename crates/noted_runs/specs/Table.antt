-- The table as a text: a heading, and a line for each row, with tabs between the columns.
use Rattle.std.specs.Prelude.{ℕ, List, [], ◌∷◌, ◌++◌, codes, decimal, Option, Some, None}
use Rattle.std.specs.List.{flat_map}
use Rattle.drill_report.specs.Report.{reason_word}
use Rattle.noted_runs.specs.declared.trace.rows.Departure.{Departure}
use Rattle.noted_runs.specs.declared.trace.rows.Fate.{Fate}
use Rattle.noted_runs.specs.declared.trace.rows.Fate.TheVariants as fate
use Rattle.noted_runs.specs.declared.trace.rows.Row.{Row}

abbrev pub tab : List ℕ
tab = 9 ∷ []

abbrev pub heading : List ℕ
heading =
    codes "packet" ++ tab ++ codes "thread" ++ tab ++ codes "input" ++ tab ++ codes "epoch" ++ tab ++ codes "event"
    ++ tab ++ codes "fate\n"

-- the columns `epoch` and `event`
abbrev pub left_words : Option Departure → List ℕ
left_words None = codes "-" ++ tab ++ codes "-"
left_words (Some left) = decimal left.epoch ++ tab ++ decimal left.event

abbrev pub fate_words : Fate → List ℕ
fate_words (fate.Released n) = codes "released " ++ decimal n
fate_words (fate.Waiting u n) = codes "waiting " ++ decimal u ++ codes " " ++ decimal n
fate_words fate.UnderWay = codes "under way"
fate_words (fate.Dropped digit) = codes "dropped " ++ reason_word digit
fate_words fate.NoOutput = codes "no output"
fate_words fate.InHand = codes "in hand"
fate_words fate.NotTaken = codes "not taken"

abbrev pub row_line : Row → List ℕ
row_line row =
    decimal row.packet ++ tab ++ decimal row.thread ++ tab ++ decimal row.input ++ tab ++ left_words row.left ++ tab
    ++ fate_words row.fate ++ codes "\n"

abbrev pub table_text : List Row → List ℕ
table_text rows = heading ++ flat_map row_line rows
