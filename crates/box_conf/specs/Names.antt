-- What the rows name that may stand again, `static` and `backend`: at most 64 lines of each, no line names again what
-- an earlier one has, and a static port is of the inside network.
use Rattle.std.specs.Prelude.{ℕ, ◌-◌, ◌/◌, ◌^◌, ◌&&◌, ◌||◌, ◌==◌, not, Bool, false, List, [], ◌∷◌, ◌++◌, length, nat_lt}
use Rattle.std.specs.Prelude.{Option, Some, None, Result, Ok, Err, if◌then◌else◌}
use Rattle.std.specs.List.{list_any}
use Rattle.std.specs.Str.{bytes_eq}
use Rattle.plain_text.specs.declared.fault.LineCause.{LineCause}
use Rattle.plain_text.specs.declared.fault.LineCause.TheVariants.{OutOfRange, Twice}
use Rattle.plain_text.specs.declared.fault.LineFault.{LineFault}
use Rattle.plain_text.specs.Lines.{words_of}
use Rattle.balancer_box.specs.declared.settings.Backend.{Backend}
use Rattle.nat_box.specs.declared.settings.StaticPort.{StaticPort}
use Rattle.box_conf.specs.declared.names.Name.{Name}
use Rattle.box_conf.specs.declared.names.Name.TheVariants as name
use Rattle.box_conf.specs.declared.names.Named.{Named}
use Rattle.box_conf.specs.declared.table.BoxLine.TheVariants as line
use Rattle.box_conf.specs.declared.table.Values.{Values}
use Rattle.box_conf.specs.Settings.{line_read}
use Rattle.box_conf.specs.Table.{word_of}

-- Kind by kind

abbrev pub backend_from : Values → Backend
backend_from values = record { address = values.first; port = values.second }

-- the number of the protocol that stands there: TCP is the first
abbrev pub protocol_of : ℕ → ℕ
protocol_of index = if index == 0 then 6 else 17

abbrev pub static_from : Values → StaticPort
static_from values = record {
  protocol = protocol_of values.first;
  address = values.second;
  port = values.third;
  outside = values.fourth;
}

abbrev pub backend_named : Result Values LineCause → Option Name
backend_named (Ok values) = Some (name.Backend (backend_from values))
backend_named (Err cause) = None

abbrev pub static_named : Result Values LineCause → Option Name
static_named (Ok values) = Some (name.Static (static_from values))
static_named (Err cause) = None

abbrev pub with_name : Named → Name → Named
with_name names (name.Backend b) = record names { backends = names.backends ++ b ∷ [] }
with_name names (name.Static s) = record names { statics = names.statics ++ s ∷ [] }

-- how many of the same row there are
abbrev pub count_of : Named → Name → ℕ
count_of names (name.Backend b) = length names.backends
count_of names (name.Static s) = length names.statics

abbrev pub is_same : Backend → Backend → Bool
is_same a b = (a.address == b.address) && (a.port == b.port)

-- static ports of one protocol that have the same inside endpoint, or the same outside port
abbrev pub is_in_way : StaticPort → StaticPort → Bool
is_in_way a b =
    (a.protocol == b.protocol) && (((a.address == b.address) && (a.port == b.port)) || (a.outside == b.outside))

-- what may not stand alongside this is there
abbrev pub has_name : Named → Name → Bool
has_name names (name.Backend b) = list_any (λ other. is_same other b) names.backends
has_name names (name.Static s) = list_any (λ other. is_in_way other s) names.statics

-- The inside network

abbrev pub values_read : Result Values LineCause → Option Values
values_read (Ok values) = Some values
values_read (Err cause) = None

-- the values of a line `inside` with these words, if it is one and has no fault of its own
abbrev pub inside_of : List (List ℕ) → Option Values
inside_of [] = None
inside_of (word ∷ words) =
    if bytes_eq word (word_of line.Inside) then values_read (line_read line.Inside false words) else None

abbrev pub or_inside : Option Values → Option Values → Option Values
or_inside (Some values) later = Some values
or_inside None later = later

-- the values of the first such line
abbrev pub inside_in : List (ℕ × List ℕ) → Option Values
inside_in [] = None
inside_in (line ∷ lines) = or_inside (inside_of (words_of line.1)) (inside_in lines)

-- an address has the leading bits that all addresses of the network share
abbrev pub is_of_network : Values → ℕ → Bool
is_of_network network address =
    address / 2 ^ (32 - network.second) == network.first / 2 ^ (32 - network.second)

-- a static port whose address is not of the inside network, where there is one
abbrev pub is_stray : Option Values → Name → Bool
is_stray None n = false
is_stray (Some network) (name.Backend b) = false
is_stray (Some network) (name.Static s) = not (is_of_network network s.address)

-- Of all kinds

abbrev pub no_names : Named
no_names = record { backends = []; statics = [] }

-- what a line with these words names, if it is of such a row
abbrev pub name_of : List (List ℕ) → Option Name
name_of [] = None
name_of (word ∷ words) =
    if bytes_eq word (word_of line.Backend) then backend_named (line_read line.Backend false words)
    else if bytes_eq word (word_of line.Static) then static_named (line_read line.Static false words)
    else None

abbrev pub and_name : Named → Option Name → Named
and_name names None = names
and_name names (Some name) = with_name names name

-- these names, and those of the lines after them
abbrev pub names_after : Named → List (ℕ × List ℕ) → Named
names_after names [] = names
names_after names (line ∷ lines) = names_after (and_name names (name_of (words_of line.1))) lines

abbrev pub named_in : List (ℕ × List ℕ) → Named
named_in lines = names_after no_names lines

-- why a line may not have this name after these, with this inside network
abbrev pub name_cause : Option Values → Named → Option Name → Option LineCause
name_cause network names None = None
name_cause network names (Some name) =
    if nat_lt (count_of names name) 64 && not (is_stray network name) then
    if has_name names name then Some Twice else None else Some OutOfRange

abbrev pub or_later : ℕ → Option LineCause → Option LineFault → Option LineFault
or_later number (Some cause) later = Some (record { line = number; cause = cause })
or_later number None later = later

-- the first of these lines that may not have its name
abbrev pub names_fault : Option Values → Named → List (ℕ × List ℕ) → Option LineFault
names_fault network names [] = None
names_fault network names (line ∷ lines) =
    let name = name_of (words_of line.1) in
    or_later line.0 (name_cause network names name) (names_fault network (and_name names name) lines)

-- The first of all lines that may not have its name. The inside network is the same for all, wherever its line stands.
abbrev pub fault_of_names : List (ℕ × List ℕ) → Option LineFault
fault_of_names lines = names_fault (inside_in lines) no_names lines
