-- The first released packet that has no emission of its own: of the packets up to it, more are the same as it than
-- emissions are.
use Rattle.std.specs.Prelude.{◌≡◌, ℕ, ◌-◌, ◌<◌, ◌≤◌, List, take, slice_get, Some}
use Rattle.plain_text.specs.declared.packet.Packet.{Packet}
use Rattle.plain_text.specs.declared.packet.Unit.{Unit as FractionUnit}
use Rattle.plain_machine.specs.declared.emission.Emission.{Emission}
use Rattle.recovery_world.specs.Matching.{IsPacketCount, IsEmissionCount}

-- packet i, from 1: more of the first i packets are the same as packet i than emissions are
pub record IsUnmatched (u : FractionUnit) (packets : List Packet) (v : FractionUnit) (sent : List Emission)
    (i : ℕ) : Type 0 where
  pub packet : Packet
  pub stands : slice_get packets (i - 1) ≡ Some packet
  pub alike : ℕ
  pub alike_sent : ℕ
  pub counted : IsPacketCount u packet (take i packets) alike
  pub counted_sent : IsEmissionCount u packet v sent alike_sent
  pub more : alike_sent < alike

-- The packet of this number, from 1, is unmatched, and none before it is.
pub record FirstUnmatched (u : FractionUnit) (packets : List Packet) (v : FractionUnit) (sent : List Emission)
    (i : ℕ) : Type 0 where
  pub unmatched : IsUnmatched u packets v sent i
  pub first : (j : ℕ) → IsUnmatched u packets v sent j → i ≤ j
