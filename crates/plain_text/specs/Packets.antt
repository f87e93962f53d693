-- Packets that a capture can have.
use Rattle.std.specs.Prelude.{◌≤◌, length}
use Rattle.plain_text.specs.declared.limit.TheConstants.{MOST_CAPTURED}
use Rattle.plain_text.specs.declared.packet.Packet.{Packet}

-- a packet that a record of a capture can have
abbrev pub IsShort : Packet → Type 0
IsShort p = length p.bytes ≤ MOST_CAPTURED
