-- Scripts of two systems in a chain. Each line that counts says one event, of the first system or of the second; where
-- a line says none, the first such line is the fault.
use Rattle.std.specs.Prelude.{◌≡◌, ℕ, List, [], ◌∷◌, codes, if◌then◌else◌, Option, Some, None}
use Rattle.std.specs.Str.{bytes_eq}
use Rattle.plain_text.specs.declared.fault.LineCause.{LineCause}
use Rattle.plain_text.specs.declared.fault.LineCause.TheVariants.{UnknownWord, MissingWord}
use Rattle.plain_text.specs.declared.fault.ReadError.{ReadError}
use Rattle.plain_text.specs.declared.limit.TheConstants.{MOST_EVENTS}
use Rattle.plain_text.specs.LineFiles.{LineForm, IsFile}
use Rattle.plain_text.specs.LineFiles as files
use Rattle.script_text.specs.Scripts.{script_form, weight}
use Rattle.chain_world.specs.declared.chain_event.ChainEvent.{ChainEvent}

-- Of one line

-- the system that a word names: `1` is the first, `2` the second
abbrev pub system_of : List ℕ → Option ℕ
system_of word =
    if bytes_eq word (codes "1") then Some 1 else if bytes_eq word (codes "2") then Some 2 else None

-- the words are the system's, and then those of an event as in a script
abbrev pub SaysEvent : List (List ℕ) → ChainEvent → Type 0
SaysEvent [] ev = ⊥
SaysEvent (word ∷ words) ev = (system_of word ≡ Some ev.which) × script_form.says words ev.event

-- the first fault behind the word of a system: there is no further word, or the event has a fault
abbrev pub fault_behind : Option ℕ → List (List ℕ) → Option LineCause
fault_behind None words = Some UnknownWord
fault_behind (Some which) [] = Some MissingWord
fault_behind (Some which) (word ∷ words) = script_form.fault (word ∷ words)

abbrev pub event_fault : List (List ℕ) → Option LineCause
event_fault [] = Some UnknownWord
event_fault (word ∷ words) = fault_behind (system_of word) words

-- `auto S N` counts as N events, and any other as one
abbrev pub chain_form : LineForm ChainEvent
chain_form = record { says = SaysEvent; fault = event_fault; weight = λ ev. weight ev.event }

-- Of a text

-- a text is the script of these events
abbrev pub IsChainScript : List ℕ → List ChainEvent → Type 0
IsChainScript text events = IsFile chain_form text events

-- the line with this number has this fault, and each line before it says an event
abbrev pub FirstFault : List ℕ → ℕ → LineCause → Type 0
FirstFault text number cause = files.FirstFault chain_form text number cause

abbrev pub count_of : List ChainEvent → ℕ
count_of events = files.count_of chain_form events

-- the events of the first lines pass the limit, before any line with a fault
abbrev pub HasTooMany : List ℕ → Type 0
HasTooMany text = files.HasTooMany chain_form MOST_EVENTS text

-- what an error says of a text
abbrev pub IsRefused : List ℕ → ReadError → Type 0
IsRefused text error = files.IsRefused chain_form MOST_EVENTS text error
