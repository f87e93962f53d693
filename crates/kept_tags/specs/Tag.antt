-- The tag of a frame that has one (IEEE 802.1Q, 9.3): after the two addresses, of six bytes each, two bytes of type and
-- two of control information.
use Rattle.std.specs.Prelude.{◌≡◌, ℕ, ◌≤◌, List, length, drop, take, slice_index}

abbrev pub tag_of : List ℕ → List ℕ
tag_of frame = take 4 (drop 12 frame)

-- a frame with both bytes of its type, which is that of a customer's VLAN tag (IEEE 802.1Q, 9.5)
abbrev pub HasTag : List ℕ → Type 0
HasTag frame = (14 ≤ length frame) × (slice_index frame 12 ≡ 0x81) × (slice_index frame 13 ≡ 0x00)
