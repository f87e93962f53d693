-- Schedules as texts: a line for each move, `T`, or `T = A` where the move is told the answer A.
use Rattle.std.specs.Prelude.{ℕ, List, ◌++◌, codes, decimal, Option, Some, None}
use Rattle.plain_text.specs.LineFiles.{text_of}
use Rattle.plain_machine.specs.declared.plain_move.PlainMove.{PlainMove}

abbrev pub answer_text : Option ℕ → List ℕ
answer_text None = codes ""
answer_text (Some answer) = codes " = " ++ decimal answer

abbrev pub move_line : PlainMove → List ℕ
move_line plain = decimal plain.thread ++ answer_text plain.answer

abbrev pub schedule_text : List PlainMove → List ℕ
schedule_text moves = text_of move_line moves
