use Rattle.std.proofs.Common.{◌≡◌, ◌≤◌, ◌+◌, ℕ, length, take, Some}
use Rattle.std.specs.Prelude.{slice_get}
use Rattle.sha2.specs.Hashers.{Holds256}
use Rattle.handover_seal.specs.Packets.{packets_digest, packets_text}
use Rattle.handover_seal.proofs.digest.first_digests.Given as goal

-- the hasher has taken the packets so far, and the digest of each count of them stands in the list
abbrev pub invariant-loop-packet : goal.invariant-loop-packet
invariant-loop-packet l = record {
  holds : Holds256 l.hasher (packets_text l.fn.unit (take l.packet-index l.packets));
  many : length l.digests ≡ l.packet-index + 1;
  each : (k : ℕ) → k ≤ l.packet-index
      → slice_get l.digests k ≡ Some (packets_digest l.fn.unit (take k l.packets));
}
