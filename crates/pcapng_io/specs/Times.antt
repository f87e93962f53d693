-- The time of a packet.
use Rattle.std.specs.Prelude.{ℕ, ℤ, pos, negsuc, ◌*◌, ◌/◌, ◌%◌, ◌^◌, ◌+ℤ◌, nat_lt, if◌then◌else◌, Option, Some, None}
use Rattle.pcapng_io.specs.declared.interface.Interface.{Interface}

-- seconds that 32 bits hold
abbrev pub in_32_bits : ℤ → Option ℕ
in_32_bits (pos n) = if nat_lt n (2 ^ 32) then Some n else None
in_32_bits (negsuc n) = None

-- the whole seconds of a time of x units, with the interface's seconds added
abbrev pub seconds_of : Interface → ℕ → Option ℕ
seconds_of i x = in_32_bits (pos (x / i.units) +ℤ i.offset)

-- the rest of that time in nanoseconds, rounded down
abbrev pub nanos_of : Interface → ℕ → ℕ
nanos_of i x = x % i.units * 10 ^ 9 / i.units
