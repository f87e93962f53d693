-- Numbers that are bytes.
use Rattle.std.specs.Prelude.{ℕ, ◌<◌, List, slice_index}
use Rattle.plain_text.specs.declared.packet.Packet.{Packet}

-- each of these numbers is below 256; past the end a list reads as 0
abbrev pub AreBytes : List ℕ → Type 0
AreBytes numbers = (k : ℕ) → slice_index numbers k < 256

-- a packet is one of bytes
abbrev pub IsOfBytes : Packet → Type 0
IsOfBytes p = AreBytes p.bytes
