-- What the lines of a box file have set, as the reader keeps it.
use Rattle.std.specs.Prelude.{◌≡◌, ℕ, ◌^◌, ◌<◌, ◌≤◌, Option, Some, None, ◌||◌, ◌&&◌, List, [], ◌∷◌, map, not, is_some}
use Rattle.std.specs.Prelude.{unwrap_or, if◌then◌else◌, Bool, true, false, Result, Ok, Err, IfSome}
use Rattle.plain_text.specs.declared.fault.LineCause.{LineCause}
use Rattle.plain_text.specs.declared.fault.LineCause.TheVariants.{MissingWord, OutOfRange, Twice}
use Rattle.plain_text.specs.Grammar.{form_fault, misfit, range_fault, row_fault, value_at, values_in}
use Rattle.box_conf.specs.declared.settings.ReadValues.{ReadValues}
use Rattle.box_conf.specs.declared.settings.Settings.{Settings}
use Rattle.box_conf.specs.declared.table.BoxLine.{BoxLine}
use Rattle.box_conf.specs.declared.table.BoxLine.TheVariants.{Threads, Seed, Shards, Inside, Outside, Ports, Closing}
use Rattle.box_conf.specs.declared.table.BoxLine.TheVariants.{Vlan, Limit, Icmp, Static, Virtual, Backend, Seal}
use Rattle.box_conf.specs.declared.table.LinePlace.{LinePlace}
use Rattle.box_conf.specs.declared.table.Values.{Values}
use Rattle.box_conf.specs.Table.{again_of, fits_of, grammar_place, row_of, usual_of, values_from}

abbrev pub setting : Settings → BoxLine → Option Values
setting s Threads = s.threads
setting s Seed = s.seed
setting s Shards = s.shards
setting s Vlan = s.vlan
setting s Inside = s.inside
setting s Outside = s.outside
setting s Ports = s.ports
setting s Closing = s.closing
setting s Limit = s.limit
setting s Icmp = s.icmp
setting s Static = s.static_port
setting s Virtual = s.virtual_end
setting s Backend = s.backend
setting s Seal = s.seal

abbrev pub with_setting : Settings → BoxLine → Values → Settings
with_setting s Threads values = record s { threads = Some values }
with_setting s Seed values = record s { seed = Some values }
with_setting s Shards values = record s { shards = Some values }
with_setting s Vlan values = record s { vlan = Some values }
with_setting s Inside values = record s { inside = Some values }
with_setting s Outside values = record s { outside = Some values }
with_setting s Ports values = record s { ports = Some values }
with_setting s Closing values = record s { closing = Some values }
with_setting s Limit values = record s { limit = Some values }
with_setting s Icmp values = record s { icmp = Some values }
with_setting s Static values = record s { static_port = Some values }
with_setting s Virtual values = record s { virtual_end = Some values }
with_setting s Backend values = record s { backend = Some values }
with_setting s Seal values = record s { seal = Some values }

-- a line that may stand once stood before
abbrev pub has_stood : Settings → BoxLine → Bool
has_stood s line = is_some (setting s line) && not (again_of line)

-- the usual values of a line, and none where it has to stand
abbrev pub usual_or_none : BoxLine → List ℕ
usual_or_none line = unwrap_or (usual_of line) []

-- what a line has set, or its usual values
abbrev pub values_set : Settings → BoxLine → Values
values_set s line = unwrap_or (setting s line) (values_from (usual_or_none line))

abbrev pub has_values : Settings → BoxLine → Bool
has_values s line = is_some (usual_of line) || is_some (setting s line)

abbrev pub value_or : LineCause → Option ℕ → List (List ℕ) → Result (ℕ × List (List ℕ)) LineCause
value_or cause None words = Err cause
value_or cause (Some n) words = Ok (n, words)

-- the value of the word at a place, and the words after it
abbrev pub take_value : LinePlace → List (List ℕ) → Result (ℕ × List (List ℕ)) LineCause
take_value place [] = Err MissingWord
take_value place (word ∷ words) =
    value_or (misfit (grammar_place place)) (value_at (grammar_place place) word) words

-- these values, with one more before them
abbrev pub put_before : ℕ → Values → Values
put_before n values =
    record { first = n; second = values.first; third = values.second; fourth = values.third }

-- of words that have the forms of these places, these are the values; out of range where one is
pub record AreRead (places : List LinePlace) (words : List (List ℕ)) (read : ReadValues) : Type 0 where
  pub form : form_fault (map grammar_place places) words ≡ None
  pub are : read.values ≡ values_from (values_in (map grammar_place places) words)
  pub range : range_fault (map grammar_place places) words ≡ (if read.within then None else Some OutOfRange)

-- values of which one is out of its range, or that do not fit one another
abbrev pub values_fault : BoxLine → ReadValues → Option LineCause
values_fault line read = if read.within && fits_of line read.values then None else Some OutOfRange

-- a line that may stand once, and stood before or not
abbrev pub once : Option LineCause → Bool → Values → Result Values LineCause
once (Some cause) had values = Err cause
once None true values = Err Twice
once None false values = Ok values

-- the values of a line's words after its first, or the first fault
abbrev pub line_read : BoxLine → Bool → List (List ℕ) → Result Values LineCause
line_read line had words =
    once (row_fault (Some (row_of line)) words) had (values_from (values_in (row_of line).places words))

-- the settings with what a line gave
abbrev pub set_values : Settings → BoxLine → Result Values LineCause → Result Settings LineCause
set_values s line (Ok values) = Ok (with_setting s line values)
set_values s line (Err cause) = Err cause

-- the values that a line may set
abbrev pub IsWithin : BoxLine → Values → Type 0
IsWithin Threads values = (1 ≤ values.first) × (values.first ≤ 16)
IsWithin Seed values = Unit {0}
IsWithin Shards values = (1 ≤ values.first) × (values.first ≤ 64)
IsWithin Vlan values = Unit {0}
IsWithin Inside values = (values.first < 2 ^ 32) × (1 ≤ values.second) × (values.second ≤ 32)
IsWithin Outside values = values.first < 2 ^ 32
IsWithin Ports values = (1 ≤ values.first) × (values.first ≤ values.second) × (values.second ≤ 65535)
IsWithin Closing values = values.first < 2 ^ 32
IsWithin Limit values = values.first ≤ 65535
IsWithin Icmp values = Unit {0}
IsWithin Static values = (values.second < 2 ^ 32) × (values.third ≤ 65535) × (values.fourth ≤ 65535)
IsWithin Virtual values = (values.first < 2 ^ 32) × (values.second ≤ 65535)
IsWithin Backend values = (values.first < 2 ^ 32) × (values.second ≤ 65535)
IsWithin Seal values = Unit {0}

-- each line has set what it may
abbrev pub AreInRange : Settings → Type 0
AreInRange s = (line : BoxLine) → IfSome (setting s line) (IsWithin line)
