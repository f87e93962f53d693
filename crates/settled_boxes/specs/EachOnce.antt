-- Each packet of the capture is released exactly once.
use Rattle.std.specs.Prelude.{◌≡◌, ℕ, ◌+◌, ◌≤◌, ◌<◌, Bool, ◌&&◌, cond, nat_eq, List, [], ◌∷◌, Some, slice_get}
use Rattle.plain_text.specs.declared.packet.Packet.{Packet}
use Rattle.tagged_frames.specs.Tags.{behind_tag, with_behind}
use Rattle.box_program.specs.Count.{numbered}
use Rattle.recovery_world.specs.World.{Setting, Sent, World, all_inputs}
use Rattle.recovery_world.specs.Events.{IsAmong}

-- how often an output of input j of thread t is in the list
abbrev pub times_sent : ℕ → ℕ → List Sent → ℕ
times_sent t j [] = 0
times_sent t j (o ∷ sent) =
    cond (nat_eq o.emission.thread t && nat_eq o.emission.input j) (times_sent t j sent + 1) (times_sent t j sent)

-- Inputs are numbered from 1; `SentAs p q` says that the packet p goes out as q.
pub record ReleasesEachOnce {V : Type 0} (s : Setting V) (w : World V)
    (SentAs : Packet → Packet → Type 0) : Type 0 where
  -- each input of each thread was released, as it goes out
  pub each : (t k : ℕ) (p : Packet) → t < s.threads → slice_get (all_inputs s t) k ≡ Some p
      → (o : Sent) × IsAmong o w.released × (o.emission.thread ≡ t) × (o.emission.input ≡ k + 1)
      × SentAs p o.emission.packet
  -- nothing else was
  pub only : (o : Sent) → IsAmong o w.released
      → (k : ℕ) × (p : Packet) × (o.emission.input ≡ k + 1) × (slice_get (all_inputs s o.emission.thread) k ≡ Some p)
      × SentAs p o.emission.packet
  -- and none twice
  pub once : (t j : ℕ) → times_sent t j w.released ≤ 1

-- the counting box writes some number into bytes 2 to 5, and leaves the rest
abbrev pub IsNumbered : Packet → Packet → Type 0
IsNumbered p q = (n : ℕ) × (q ≡ record p { bytes = numbered p.bytes n })

-- the monitor leaves a packet as it is
abbrev pub IsUnchanged : Packet → Packet → Type 0
IsUnchanged p q = q ≡ p

-- what is seen of p behind its tag goes out as these bytes, with the bytes that were not seen in front of them
abbrev pub SentBehind : Bool → (Packet → Packet → Type 0) → Packet → Packet → Type 0
SentBehind tags SentAs p q =
    (bytes : List ℕ) × SentAs (behind_tag tags p) (record (behind_tag tags p) { bytes = bytes })
    × (q ≡ with_behind tags p bytes)
