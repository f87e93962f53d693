-- How long a mapping is kept without use, and how a segment from its inside endpoint changes that.
use Rattle.std.specs.Prelude.{ℕ, ◌*◌, max, Bool, true, false, ◌==◌, if◌then◌else◌}
use Rattle.nat_tables.specs.declared.phase.Phase.{Phase}
use Rattle.nat_tables.specs.declared.phase.Phase.TheVariants.{Plain, Opening, Established, Closing}
use Rattle.nat_tables.specs.declared.phase.Phase.TheVariants.{EndedByClient, EndedByServer, Kept}
use Rattle.nat_tables.specs.declared.phase.Segment.{Segment}
use Rattle.nat_tables.specs.declared.phase.Segment.TheVariants.{Silent, Opens, Carries, Closes}

-- after how many microseconds without use a mapping is idle: 7,440 s for TCP (RFC 5382, REQ-5), 300 s for UDP (RFC
-- 4787, REQ-5)
abbrev pub protocol_timer : ℕ → ℕ
protocol_timer protocol = if protocol == 6 then 7440000000 else 300000000

-- and, of a connection that is followed and not established, after its own number of seconds, and at least one
abbrev pub timer : ℕ → Phase → ℕ
timer protocol Plain = protocol_timer protocol
timer protocol (Opening seconds) = max 1 seconds * 1000000
timer protocol Established = protocol_timer protocol
timer protocol (Closing seconds) = max 1 seconds * 1000000
timer protocol EndedByClient = protocol_timer protocol
timer protocol EndedByServer = protocol_timer protocol
timer protocol Kept = protocol_timer protocol

-- the mapping is never idle, whatever its timer
abbrev pub is_kept : Phase → Bool
is_kept Plain = false
is_kept (Opening seconds) = false
is_kept Established = false
is_kept (Closing seconds) = false
is_kept EndedByClient = false
is_kept EndedByServer = false
is_kept Kept = true

-- The phase after a segment, where a connection that is not established is kept for so many seconds. One that was
-- ended stays so until another is begun (RFC 9293, section 3.3.2, as far as one side shows it). A mapping notes its own
-- side's segments alone, so it has no phase that says which side ended it. What is kept for good stays so.
abbrev pub phase_after : ℕ → Segment → Phase → Phase
phase_after seconds Silent Plain = Opening seconds
phase_after seconds Silent (Opening old) = Opening seconds
phase_after seconds Silent Established = Established
phase_after seconds Silent (Closing old) = Closing seconds
phase_after seconds Silent EndedByClient = Closing seconds
phase_after seconds Silent EndedByServer = Closing seconds
phase_after seconds Silent Kept = Kept
phase_after seconds Opens Plain = Opening seconds
phase_after seconds Opens (Opening old) = Opening seconds
phase_after seconds Opens Established = Opening seconds
phase_after seconds Opens (Closing old) = Opening seconds
phase_after seconds Opens EndedByClient = Opening seconds
phase_after seconds Opens EndedByServer = Opening seconds
phase_after seconds Opens Kept = Kept
phase_after seconds Carries Plain = Established
phase_after seconds Carries (Opening old) = Established
phase_after seconds Carries Established = Established
phase_after seconds Carries (Closing old) = Closing seconds
phase_after seconds Carries EndedByClient = Closing seconds
phase_after seconds Carries EndedByServer = Closing seconds
phase_after seconds Carries Kept = Kept
phase_after seconds Closes Plain = Closing seconds
phase_after seconds Closes (Opening old) = Closing seconds
phase_after seconds Closes Established = Closing seconds
phase_after seconds Closes (Closing old) = Closing seconds
phase_after seconds Closes EndedByClient = Closing seconds
phase_after seconds Closes EndedByServer = Closing seconds
phase_after seconds Closes Kept = Kept
