-- Scripts. Each line that counts says one event, in order; where a line says none, the first such line is the fault.
use Rattle.std.specs.Prelude.{ℕ, All, List, [], ◌∷◌, Some, None}
use Rattle.plain_text.specs.declared.fault.LineCause.{LineCause}
use Rattle.plain_text.specs.declared.fault.ReadError.{ReadError}
use Rattle.plain_text.specs.declared.limit.TheConstants.{MOST_EVENTS}
use Rattle.plain_text.specs.LineFiles.{LineForm, IsFile, text_of}
use Rattle.plain_text.specs.LineFiles as files
use Rattle.recovery_world.specs.declared.event.Event.{Event}
use Rattle.recovery_world.specs.declared.event.Event.TheVariants as event
use Rattle.recovery_world.specs.Files.{event_words}
use Rattle.line_tables.specs.Parts.{kind_value, AreNumbers}
use Rattle.line_tables.specs.Tables.{Table, line_form}
use Rattle.script_text.specs.declared.form.Form.{Form}
use Rattle.script_text.specs.declared.form.Form.TheVariants as form
use Rattle.script_text.specs.Table.{word_of, parts_of, forms}
use Rattle.script_text.specs.Values.{event_from}

-- Of one line

-- the form of an event's line
abbrev pub form_of : Event → Form
form_of (event.Feed n) = form.Feed
form_of (event.Time n) = form.Time
form_of (event.Step t None) = form.Step
form_of (event.Step t (Some answer)) = form.Answered
form_of (event.Log t n) = form.Log
form_of (event.Out t j) = form.Out
form_of (event.Late e k t n) = form.Late
form_of (event.Cut k t n length) = form.Cut
form_of event.Snap = form.Snap
form_of event.Store = form.Store
form_of event.Crash = form.Crash
form_of event.Recover = form.Recover
form_of (event.Show v) = form.Show
form_of event.Settle = form.Settle
form_of (event.Flow n) = form.Flow
form_of (event.Auto seed n) = form.Auto

-- the values at the places of its line; the sign `=` has the value 0
abbrev pub values_of : Event → List ℕ
values_of (event.Feed n) = n ∷ []
values_of (event.Time n) = n ∷ []
values_of (event.Step t None) = t ∷ []
values_of (event.Step t (Some answer)) = t ∷ 0 ∷ answer ∷ []
values_of (event.Log t n) = t ∷ n ∷ []
values_of (event.Out t j) = t ∷ j ∷ []
values_of (event.Late e k t n) = e ∷ kind_value k ∷ t ∷ n ∷ []
values_of (event.Cut k t n length) = kind_value k ∷ t ∷ n ∷ length ∷ []
values_of event.Snap = []
values_of event.Store = []
values_of event.Crash = []
values_of event.Recover = []
values_of (event.Show v) = v ∷ []
values_of event.Settle = []
values_of (event.Flow n) = n ∷ []
values_of (event.Auto seed n) = seed ∷ n ∷ []

-- the lines that events have
abbrev pub script_table : Table Form Event
script_table = record {
  word_of = word_of;
  parts_of = parts_of;
  forms = forms;
  thing_from = event_from;
  form_of = form_of;
  values_of = values_of;
}

-- `auto S N` counts as N events, and any other as one
abbrev pub weight : Event → ℕ
weight (event.Feed n) = 1
weight (event.Time n) = 1
weight (event.Step t answer) = 1
weight (event.Log t n) = 1
weight (event.Out t j) = 1
weight (event.Late e k t n) = 1
weight (event.Cut k t n length) = 1
weight event.Snap = 1
weight event.Store = 1
weight event.Crash = 1
weight event.Recover = 1
weight (event.Show v) = 1
weight event.Settle = 1
weight (event.Flow n) = 1
weight (event.Auto seed n) = n

-- Of a text

abbrev pub script_form : LineForm Event
script_form = line_form script_table weight

-- a text is the script of these events
abbrev pub IsScript : List ℕ → List Event → Type 0
IsScript text events = IsFile script_form text events

-- the line with this number has this fault, and each line before it says an event
abbrev pub FirstFault : List ℕ → ℕ → LineCause → Type 0
FirstFault text number cause = files.FirstFault script_form text number cause

abbrev pub count_of : List Event → ℕ
count_of events = files.count_of script_form events

-- the events of the first lines pass the limit, before any line with a fault
abbrev pub HasTooMany : List ℕ → Type 0
HasTooMany text = files.HasTooMany script_form MOST_EVENTS text

-- what an error says of a text
abbrev pub IsRefused : List ℕ → ReadError → Type 0
IsRefused text error = files.IsRefused script_form MOST_EVENTS text error

-- Written scripts

-- all numbers of this event may stand in a text
abbrev pub FitsWords : Event → Type 0
FitsWords ev = AreNumbers (values_of ev)

abbrev pub FitWords : List Event → Type 0
FitWords events = All FitsWords events

-- the lines of these events, each with a line feed
abbrev pub script_text : List Event → List ℕ
script_text events = text_of event_words events
