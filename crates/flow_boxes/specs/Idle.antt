-- For how long a mapping or a connection is kept without use, in numbers, whatever timers the tables have.
use Rattle.std.specs.Prelude.{ℕ, ◌*◌, max, ◌==◌, if◌then◌else◌}
use Rattle.nat_tables.specs.declared.phase.Phase.{Phase}
use Rattle.nat_tables.specs.declared.phase.Phase.TheVariants.{Plain, Opening, Established, Closing}
use Rattle.nat_tables.specs.declared.phase.Phase.TheVariants.{EndedByClient, EndedByServer, Kept}

abbrev pub microseconds : ℕ → ℕ
microseconds seconds = seconds * 1000000

-- 2 hours and 4 minutes of TCP, which is protocol 6 (RFC 5382, REQ-5), and 5 minutes of UDP (RFC 4787, REQ-5)
abbrev pub idle_by_protocol : ℕ → ℕ
idle_by_protocol protocol = if protocol == 6 then microseconds 7440 else microseconds 300

-- So long where no connection is followed, or one was established and has not ended; else its own number of seconds,
-- and at least one. `Opening` and `Established` are phases of the NAT alone, those that a side ended of the balancer.
abbrev pub idle_after : ℕ → Phase → ℕ
idle_after protocol Plain = idle_by_protocol protocol
idle_after protocol (Opening seconds) = microseconds (max 1 seconds)
idle_after protocol Established = idle_by_protocol protocol
idle_after protocol (Closing seconds) = microseconds (max 1 seconds)
idle_after protocol EndedByClient = idle_by_protocol protocol
idle_after protocol EndedByServer = idle_by_protocol protocol
idle_after protocol Kept = idle_by_protocol protocol
