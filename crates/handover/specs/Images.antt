-- Images as texts. The text is the file of the image's lines: the heading, its counts, then a line for each thread of
-- each ended epoch, then one for each released output, then one for each move.
use Rattle.std.specs.Prelude.{ℕ, ◌<◌, ◌^◌, ◌++◌, All, List, [], ◌∷◌, codes, decimal, map, Option}
use Rattle.std.specs.List.{flat_map}
use Rattle.plain_text.specs.declared.fault.LineCause.{LineCause}
use Rattle.plain_text.specs.declared.limit.TheConstants.{MOST_EVENTS}
use Rattle.plain_text.specs.Grammar.{LineSays, line_fault}
use Rattle.plain_text.specs.LineFiles.{text_of}
use Rattle.plain_machine.specs.declared.plain_move.PlainMove.{PlainMove}
use Rattle.plain_player.specs.ScheduleText.{move_line}
use Rattle.plain_player.specs.Schedules as schedules
use Rattle.handover.specs.declared.fault.ImageError.{ImageError}
use Rattle.handover.specs.declared.fault.ImageError.TheVariants.{Fault, TooMany, NoMemory}
use Rattle.handover.specs.declared.image.Ended.{Ended}
use Rattle.handover.specs.declared.image.Image.{Image}
use Rattle.handover.specs.declared.line.ImageLine.{ImageLine}
use Rattle.handover.specs.declared.line.ImageLine.TheVariants as line
use Rattle.handover.specs.declared.stage.Stage.{Stage}
use Rattle.handover.specs.declared.stage.Stage.TheVariants as stage
use Rattle.handover.specs.StagedFiles.{StagedForm, IsFile}
use Rattle.handover.specs.StagedFiles as files
use Rattle.handover.specs.Table.{behind, is_whole, row_of, rows_at}
use Rattle.handover.specs.Values.{form_of, values_of}

-- Of one line

-- a line with these words says this at a stage
abbrev pub SaysAt : Stage → List (List ℕ) → ImageLine → Type 0
SaysAt at words ln = LineSays (rows_at at words) words (row_of (form_of ln)) (values_of ln)

-- the first fault of a line with these words at a stage
abbrev pub fault_at : Stage → List (List ℕ) → Option LineCause
fault_at at words = line_fault (rows_at at words) words

abbrev pub image_form : StagedForm Stage ImageLine
image_form = record { first = stage.Heading; says = SaysAt; fault = fault_at; behind = behind; whole = is_whole }

-- Of a text

abbrev pub released_line : ℕ × ℕ → ImageLine
released_line output = line.Released output.0 output.1

-- what the lines behind the first two say
abbrev pub lists_of : List Ended → List (ℕ × ℕ) → List PlainMove → List ImageLine
lists_of ended released past = map line.Ended ended ++ (map released_line released ++ map line.Move past)

-- the line of the counts
abbrev pub counts_of : Image → ImageLine
counts_of image = line.State image.fed image.clock image.draws image.epoch image.moves image.bytes

-- what the lines of an image say
abbrev pub lines_of : Image → List ImageLine
lines_of image = line.Heading ∷ counts_of image ∷ lists_of image.ended image.released image.past

-- a text is that of an image
abbrev pub IsImage : List ℕ → Image → Type 0
IsImage text image = IsFile image_form text (lines_of image)

-- the first fault of a text is at the line with this number
abbrev pub FirstFault : List ℕ → ℕ → LineCause → Type 0
FirstFault text number cause = files.FirstFault image_form text number cause

-- more lines than the limit say something, before any fault
abbrev pub HasTooMany : List ℕ → Type 0
HasTooMany text = files.HasTooMany image_form MOST_EVENTS text

-- what an error says of a text
abbrev pub IsRefused : List ℕ → ImageError → Type 0
IsRefused text (Fault fault) = FirstFault text fault.line fault.cause × (HasTooMany text → ⊥)
IsRefused text TooMany = HasTooMany text
IsRefused text NoMemory = Unit {0}

-- Written

-- numbers, each behind a space
abbrev pub numbered : List ℕ → List ℕ
numbered numbers = flat_map (λ n. codes " " ++ decimal n) numbers

abbrev pub line_text : ImageLine → List ℕ
line_text line.Heading = codes "handover 1"
line_text (line.State fed clock draws epoch moves bytes) =
    codes "state" ++ numbered (fed ∷ clock ∷ draws ∷ epoch ∷ moves ∷ bytes ∷ [])
line_text (line.Ended ended) =
    codes "ended" ++ numbered (ended.epoch ∷ ended.thread ∷ ended.entries ∷ ended.outputs ∷ [])
line_text (line.Released thread number) = codes "released" ++ numbered (thread ∷ number ∷ [])
line_text (line.Move plain) = codes "move " ++ move_line plain

-- the text of an image
abbrev pub image_text : Image → List ℕ
image_text image = text_of line_text (lines_of image)

-- the numbers of a line may stand in a text, so that it is read back
abbrev pub FitsLine : ImageLine → Type 0
FitsLine line.Heading = Unit {0}
FitsLine (line.State fed clock draws epoch moves bytes) =
    (fed < 2 ^ 64) × (clock < 2 ^ 64) × (draws < 2 ^ 64) × (epoch < 2 ^ 32) × (moves < 2 ^ 64) × (bytes < 2 ^ 64)
FitsLine (line.Ended ended) =
    (ended.epoch < 2 ^ 32) × (ended.thread < 2 ^ 32) × (ended.entries < 2 ^ 64) × (ended.outputs < 2 ^ 64)
FitsLine (line.Released thread number) = (thread < 2 ^ 32) × (number < 2 ^ 64)
FitsLine (line.Move plain) = schedules.FitsLine plain

abbrev pub FitsImage : Image → Type 0
FitsImage image = All FitsLine (lines_of image)

-- What the reader makes of the lines

abbrev pub empty : Image
empty = record {
  fed = 0;
  clock = 0;
  draws = 0;
  epoch = 0;
  moves = 0;
  bytes = 0;
  ended = [];
  released = [];
  past = [];
}

abbrev pub with_line : Image → ImageLine → Image
with_line image line.Heading = image
with_line image (line.State fed clock draws epoch moves bytes) =
    record image { fed = fed; clock = clock; draws = draws; epoch = epoch; moves = moves; bytes = bytes }
with_line image (line.Ended ended) = record image { ended = image.ended ++ ended ∷ [] }
with_line image (line.Released thread number) = record image { released = image.released ++ (thread, number) ∷ [] }
with_line image (line.Move plain) = record image { past = image.past ++ plain ∷ [] }
