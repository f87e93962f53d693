-- One VLAN tag in front of what an Ethernet frame carries (IEEE 802.1Q, 9.3 to 9.6), and the frame without it. The tag
-- stands behind the two addresses: its type, which stands where a frame without a tag has its Ethernet type, and two
-- bytes more. So without its first four bytes a frame with a tag has all that stands behind the tag where a frame
-- without one has it.
use Rattle.std.specs.Prelude.{ℕ, ◌-◌, Bool, not, ◌&&◌, ◌==◌, nat_lt, if◌then◌else◌, List, length, drop, take, ◌++◌}
use Rattle.plain_text.specs.declared.packet.Packet.{Packet}
use Rattle.packet_headers.specs.Fields.{ether_type}

-- the type of a customer's VLAN tag stands in the frame (IEEE 802.1Q, 9.5)
abbrev pub is_tagged : List ℕ → Bool
is_tagged frame = not (nat_lt (length frame) 14) && (ether_type frame == 0x8100)

-- the bytes of the tag that is looked through: none where tags are not looked through
abbrev pub tag_length : Bool → List ℕ → ℕ
tag_length tags frame = if tags && is_tagged frame then 4 else 0

-- a packet without this many of its first bytes
abbrev pub without_first : ℕ → Packet → Packet
without_first k p = record p { bytes = drop k p.bytes; original = p.original - k }

-- a packet as it is seen behind its tag
abbrev pub behind_tag : Bool → Packet → Packet
behind_tag tags p = without_first (tag_length tags p.bytes) p

-- A packet as it goes out, where its frame behind the tag goes out as these bytes: the first bytes that were not seen
-- stand in front again. The tag itself stands among the addresses of what was seen, and stays where those are left.
abbrev pub with_behind : Bool → Packet → List ℕ → Packet
with_behind tags p bytes = record p { bytes = take (tag_length tags p.bytes) p.bytes ++ bytes }
