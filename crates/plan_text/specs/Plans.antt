-- Plans as texts. Each line that counts says one thing, in order; where a line says none, the first such line is the
-- fault.
use Rattle.std.specs.Prelude.{ℕ, List, ◌++◌, codes, All}
use Rattle.plain_text.specs.declared.fault.LineCause.{LineCause}
use Rattle.plain_text.specs.declared.fault.ReadError.{ReadError}
use Rattle.plain_text.specs.declared.limit.TheConstants.{MOST_EVENTS}
use Rattle.plain_text.specs.LineFiles.{LineForm, IsFile, text_of}
use Rattle.plain_text.specs.LineFiles as files
use Rattle.plain_text.specs.NumberedWords.{kind_word, one, two}
use Rattle.line_tables.specs.Parts.{AreNumbers}
use Rattle.line_tables.specs.Tables.{Table, line_form}
use Rattle.plan_script.specs.declared.plan.PlanLine.{PlanLine}
use Rattle.plan_script.specs.declared.plan.PlanLine.TheVariants as line
use Rattle.plan_text.specs.declared.form.Form.{Form}
use Rattle.plan_text.specs.Table.{word_of, parts_of, forms}
use Rattle.plan_text.specs.Values.{form_of, line_from, values_of}

-- Of one line

-- the lines that a plan may have
abbrev pub plan_table : Table Form PlanLine
plan_table = record {
  word_of = word_of;
  parts_of = parts_of;
  forms = λ third. forms;
  thing_from = line_from;
  form_of = form_of;
  values_of = values_of;
}

-- each counts as one
abbrev pub plan_form : LineForm PlanLine
plan_form = line_form plan_table (λ ln. 1)

-- as it is written
abbrev pub plan_words : PlanLine → List ℕ
plan_words (line.Feed n) = one (codes "feed ") n
plan_words (line.Limit t n) = two (codes "limit ") t (codes " ") n
plan_words (line.Take t n) = two (codes "take ") t (codes " ") n
plan_words (line.Lose k t n) = codes "lose " ++ two (kind_word k) t (codes " ") n
plan_words line.Round = codes "round"
plan_words line.Snap = codes "snap"
plan_words line.Store = codes "store"
plan_words line.Crash = codes "crash"
plan_words line.Recover = codes "recover"
plan_words (line.Show v) = one (codes "show ") v
plan_words line.Settle = codes "settle"

-- Of a text

-- a text is the plan of these lines
abbrev pub IsPlan : List ℕ → List PlanLine → Type 0
IsPlan text lines = IsFile plan_form text lines

-- the line with this number has this fault, and each line before it is one of a plan
abbrev pub FirstFault : List ℕ → ℕ → LineCause → Type 0
FirstFault text number cause = files.FirstFault plan_form text number cause

abbrev pub count_of : List PlanLine → ℕ
count_of lines = files.count_of plan_form lines

-- the first lines pass the limit, before any line with a fault
abbrev pub HasTooMany : List ℕ → Type 0
HasTooMany text = files.HasTooMany plan_form MOST_EVENTS text

-- what an error says of a text
abbrev pub IsRefused : List ℕ → ReadError → Type 0
IsRefused text error = files.IsRefused plan_form MOST_EVENTS text error

-- Written plans

-- all numbers of this line may stand in a text
abbrev pub FitsWords : PlanLine → Type 0
FitsWords ln = AreNumbers (values_of ln)

abbrev pub FitWords : List PlanLine → Type 0
FitWords lines = All FitsWords lines

-- the lines, each with a line feed
abbrev pub plan_text : List PlanLine → List ℕ
plan_text lines = text_of plan_words lines
