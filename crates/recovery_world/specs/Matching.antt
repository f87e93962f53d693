-- When a schedule and a released capture are accepted: the schedule is a legal run of the plain machine on the whole
-- capture, and each released packet has an emission of its own in it.
use Rattle.std.specs.Prelude.{◌≡◌, ℕ, ◌+◌, ◌*◌, ◌≤◌, ◌⊎◌, List, [], ◌∷◌, Ok}
use Rattle.plain_text.specs.declared.packet.Packet.{Packet}
use Rattle.plain_text.specs.declared.packet.Unit.{Unit as FractionUnit}
use Rattle.plain_text.specs.declared.packet.Unit.TheVariants as unit
use Rattle.plain_machine.specs.declared.emission.Emission.{Emission}
use Rattle.plain_machine.specs.declared.plain_move.PlainMove.{PlainMove}
use Rattle.plain_machine.specs.History.{Step, emissions, play}
use Rattle.recovery_world.specs.World.{Setting, all_inputs}

-- the fraction of a second, in nanoseconds
abbrev pub nanoseconds : FractionUnit → Packet → ℕ
nanoseconds unit.Micro p = p.fraction * 1000
nanoseconds unit.Nano p = p.fraction

-- Two packets, with fractions in these units, have the same time, original length and bytes.
pub record IsSame (u : FractionUnit) (p : Packet) (v : FractionUnit) (q : Packet) : Type 0 where
  pub seconds : p.seconds ≡ q.seconds
  pub fraction : nanoseconds u p ≡ nanoseconds v q
  pub original : p.original ≡ q.original
  pub bytes : p.bytes ≡ q.bytes

-- this number of the packets, and of the emissions, are the same as this packet
abbrev pub IsPacketCount : FractionUnit → Packet → List Packet → ℕ → Type 0
IsPacketCount u p [] n = n ≡ 0
IsPacketCount u p (q ∷ packets) n =
    (IsSame u p u q × (k : ℕ) × (n ≡ k + 1) × IsPacketCount u p packets k)
    ⊎ ((IsSame u p u q → ⊥) × IsPacketCount u p packets n)

abbrev pub IsEmissionCount : FractionUnit → Packet → FractionUnit → List Emission → ℕ → Type 0
IsEmissionCount u p v [] n = n ≡ 0
IsEmissionCount u p v (o ∷ sent) n =
    (IsSame u p v o.packet × (k : ℕ) × (n ≡ k + 1) × IsEmissionCount u p v sent k)
    ⊎ ((IsSame u p v o.packet → ⊥) × IsEmissionCount u p v sent n)

-- no packet stands more often in the capture than among the emissions
abbrev pub IsMatched : FractionUnit → List Packet → FractionUnit → List Emission → Type 0
IsMatched u packets v sent = (p : Packet) (k n : ℕ) → IsPacketCount u p packets k → IsEmissionCount u p v sent n → k ≤ n

pub record IsAccepted {V : Type 0} (s : Setting V) (released : List Packet) (schedule : List PlainMove) : Type 0 where
  pub steps : List (Step V)
  pub plays : play s.meaning (all_inputs s) s.threads schedule ≡ Ok steps
  pub matched : IsMatched s.fractions released s.fractions (emissions steps)
