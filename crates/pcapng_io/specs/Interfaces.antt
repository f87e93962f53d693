-- Interfaces, as a block of type 1 describes them.
use Rattle.std.specs.Prelude.{ℕ, zero, suc, ◌+◌, ◌-◌, ◌*◌, ◌/◌, ◌^◌, pos, ◌==◌, nat_lt, if◌then◌else◌, List, [], ◌∷◌}
use Rattle.std.specs.Prelude.{length, take, drop, slice_index, Option, Some, None, Result, Err, option_and_then}
use Rattle.std.specs.Prelude.{option_map, ok_or}
use Rattle.std.specs.Int.{w64, cast_signed}
use Rattle.pcap_io.specs.declared.order.Order.{Order}
use Rattle.pcap_io.specs.Capture.{number}
use Rattle.pcapng_io.specs.declared.fault.NgCause.{NgCause}
use Rattle.pcapng_io.specs.declared.fault.NgCause.TheVariants.{BadLinkType, BadOption}
use Rattle.pcapng_io.specs.declared.interface.Interface.{Interface}

-- an option of a block: its code and its value
pub record Setting : Type 0 where
  pub code : ℕ
  pub value : List ℕ

-- a length with its padding to a multiple of 4
abbrev pub padded : ℕ → ℕ
padded n = (n + 3) / 4 * 4

-- The options in these bytes, up to code 0 or the end; none where one passes the end. Each takes at least four bytes,
-- so there are fewer than the first number, where that is at least the length.
abbrev pub settings_in : ℕ → Order → List ℕ → Option (List Setting)
settings_in zero o bytes = Some []
settings_in (suc n) o bytes =
    if nat_lt (length bytes) 4 then Some [] else if number o 2 bytes == 0 then Some []
    else if nat_lt (length bytes) (4 + padded (number o 2 (drop 2 bytes))) then None
    else option_map
    (λ others. record { code = number o 2 bytes; value = take (number o 2 (drop 2 bytes)) (drop 4 bytes) } ∷ others)
    (settings_in n o (drop (4 + padded (number o 2 (drop 2 bytes))) bytes))

-- the units in a second of a resolution: 10^r, or 2^r where the high bit of the byte is set
abbrev pub units_of : ℕ → Option ℕ
units_of resolution =
    if nat_lt resolution 128
    then if nat_lt 19 resolution then None else Some (10 ^ resolution)
    else if nat_lt 63 (resolution - 128) then None else Some (2 ^ (resolution - 128))

-- an interface, once this option is read: code 9 is its resolution, and code 14 the seconds to add
abbrev pub with_setting : Order → Interface → Setting → Option Interface
with_setting o i s =
    if s.code == 9 then if length s.value == 1
    then option_map (λ units. record i { units = units }) (units_of (slice_index s.value 0)) else None
    else if s.code == 14 then if length s.value == 8
    then Some (record i { offset = cast_signed w64 (number o 8 s.value) }) else None else Some i

abbrev pub with_settings : Order → Interface → List Setting → Option Interface
with_settings o i [] = Some i
with_settings o i (s ∷ more) = option_and_then (λ next. with_settings o next more) (with_setting o i s)

-- an interface, once the options in these bytes are read
abbrev pub with_options : ℕ → Order → Interface → List ℕ → Option Interface
with_options n o i bytes = option_and_then (with_settings o i) (settings_in n o bytes)

-- the interface that a body describes: a link type, which is to be 1, two bytes that are not used, a snaplen, and
-- options; without them a unit is a microsecond
abbrev pub interface_in : Order → List ℕ → Result Interface NgCause
interface_in o body =
    if number o 2 body == 1
    then ok_or (with_options (length body) o
    (record { snaplen = number o 4 (drop 4 body); units = 10 ^ 6; offset = pos 0 }) (drop 8 body)) BadOption
    else Err BadLinkType
