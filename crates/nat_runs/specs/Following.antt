-- Which connections are followed: where the settings have a number of seconds those of TCP, and each of their mappings
-- has this number; else none, and each touch is that of the table of moves. And how a packet changes a mapping's phase.
use Rattle.std.specs.Prelude.{◌≡◌, ◌≢◌, ℕ, ◌≤◌, ◌⊎◌, bit_and, List, ◌∷◌, Option, Some}
use Rattle.std.specs.Prelude.{None, Ok}
use Rattle.plain_text.specs.declared.packet.Packet.{Packet}
use Rattle.packet_headers.specs.declared.flow.Flow.{Flow}
use Rattle.plain_machine.specs.declared.local.Local.{Local}
use Rattle.packet_headers.specs.View.{viewed}
use Rattle.plain_machine.specs.Machine.{Hand}
use Rattle.plain_machine.specs.History.{Step, thread_after, value_after, IsHistory}
use Rattle.nat_tables.specs.declared.entries.Endpoint.{Endpoint}
use Rattle.nat_tables.specs.declared.slot.Slot.{Slot}
use Rattle.nat_tables.specs.declared.phase.Phase.{Phase}
use Rattle.nat_tables.specs.declared.phase.Phase.TheVariants.{Plain, Opening, Established, Closing}
use Rattle.nat_tables.specs.declared.phase.Phase.TheVariants.{EndedByClient, EndedByServer, Kept}
use Rattle.nat_tables.specs.declared.phase.Segment.TheVariants.{Silent}
use Rattle.flow_boxes.specs.Flows.{source_of, HaveBytes}
use Rattle.nat_box.specs.declared.seeing.Seen.{Seen}
use Rattle.nat_box.specs.declared.value.NatValue.{NatValue}
use Rattle.nat_box.specs.Places.{place_numbered, noted}
use Rattle.nat_box.specs.Settings.{Settings, AreSettings}
use Rattle.nat_box.specs.Nat.{begun, touched_by, local_at, nat_meaning}
use Rattle.nat_box.specs.Sentences.{Has, mappings_in, IsMapping}

-- TCP is protocol 6.
abbrev pub IsFollowedBy : Option ℕ → ℕ → Phase → Type 0
IsFollowedBy closing protocol Plain = Unit {0}
IsFollowedBy closing protocol (Opening seconds) = (closing ≡ Some seconds) × (protocol ≡ 6)
IsFollowedBy closing protocol Established = (seconds : ℕ) × (closing ≡ Some seconds) × (protocol ≡ 6)
IsFollowedBy closing protocol (Closing seconds) = (closing ≡ Some seconds) × (protocol ≡ 6)
IsFollowedBy closing protocol EndedByClient = ⊥
IsFollowedBy closing protocol EndedByServer = ⊥
IsFollowedBy closing protocol Kept = Unit {0}

-- each mapping after each move of each run
abbrev pub FollowedByTheLine : Type 0
FollowedByTheLine =
    (s : Settings) (threads : ℕ) (inputs : ℕ → List Packet) (steps : List (Step NatValue)) (v : ℕ) (key : Endpoint)
    (slot : Slot) → AreSettings s → IsHistory (nat_meaning s) inputs threads steps
    → IsMapping s (value_after (nat_meaning s) steps) v (key, slot) → IsFollowedBy s.closing key.protocol slot.phase

-- where there is no number, each is kept as its protocol says, or for good, as that of a static port is
abbrev pub NoneFollowedWithoutIt : Type 0
NoneFollowedWithoutIt =
    (s : Settings) (threads : ℕ) (inputs : ℕ → List Packet) (steps : List (Step NatValue)) (v : ℕ) (key : Endpoint)
    (slot : Slot) → AreSettings s → IsHistory (nat_meaning s) inputs threads steps → s.closing ≡ None
    → IsMapping s (value_after (nat_meaning s) steps) v (key, slot) → (slot.phase ≡ Plain) ⊎ (slot.phase ≡ Kept)

-- and then each touch is the one of the table of moves, or of the limit, alone, and a packet begins with no segment
-- noted
abbrev pub TouchesAsBefore : Type 0
TouchesAsBefore =
    (s : Settings) → s.closing ≡ None → (v : ℕ) (x : NatValue) (l : Local)
    → (nat_meaning s).touch v x l
    ≡ (let r = touched_by s.limit (place_numbered l.at) x (noted l) in (r.0, local_at r.1))

abbrev pub BeginsAsBefore : Type 0
BeginsAsBefore = (s : Settings) → s.closing ≡ None → (seen : Seen) → (begun s seen).noted.segment ≡ Silent

-- The control bits of a segment (RFC 9293, section 3.1): FIN is 1, SYN 2, RST 4, and ACK 16.

abbrev pub IsSet : ℕ → ℕ → Type 0
IsSet bit flags = 1 ≤ bit_and flags bit

abbrev pub IsClear : ℕ → ℕ → Type 0
IsClear bit flags = bit_and flags bit ≡ 0

-- how far a connection came: not established yet, established, or ended

abbrev pub IsOpening : Phase → Type 0
IsOpening Plain = Unit {0}
IsOpening (Opening seconds) = Unit {0}
IsOpening Established = ⊥
IsOpening (Closing seconds) = ⊥
IsOpening EndedByClient = ⊥
IsOpening EndedByServer = ⊥
IsOpening Kept = ⊥

abbrev pub IsEnded : Phase → Type 0
IsEnded Plain = ⊥
IsEnded (Opening seconds) = ⊥
IsEnded Established = ⊥
IsEnded (Closing seconds) = Unit {0}
IsEnded EndedByClient = Unit {0}
IsEnded EndedByServer = Unit {0}
IsEnded Kept = ⊥

-- What a segment with these bits makes of a connection. FIN or RST ends it. Else a SYN without ACK begins another one;
-- one that was ended stays so till then. An ACK without SYN establishes one that was not ended. All others leave it.
pub record Follows (seconds flags : ℕ) (old new : Phase) : Type 0 where
  pub ended : IsSet 1 flags ⊎ IsSet 4 flags → new ≡ Closing seconds
  pub begun : IsClear 1 flags → IsClear 4 flags → IsSet 2 flags → IsClear 16 flags → new ≡ Opening seconds
  pub stays_ended : IsClear 1 flags → IsClear 4 flags → IsClear 2 flags ⊎ IsSet 16 flags → IsEnded old
      → new ≡ Closing seconds
  pub established : IsClear 1 flags → IsClear 4 flags → IsClear 2 flags → IsSet 16 flags
      → IsOpening old ⊎ (old ≡ Established) → new ≡ Established
  pub stays_established : IsClear 1 flags → IsClear 4 flags → IsClear 2 flags ⊎ IsSet 16 flags → old ≡ Established
      → new ≡ Established
  pub stays_opening : IsClear 1 flags → IsClear 4 flags
      → (IsClear 2 flags × IsClear 16 flags) ⊎ (IsSet 2 flags × IsSet 16 flags) → IsOpening old
      → new ≡ Opening seconds

-- so it is where connections are followed, of TCP, and of a mapping that is not kept for good
abbrev pub PhaseGoesOn : Option ℕ → ℕ → ℕ → Phase → Phase → Type 0
PhaseGoesOn None protocol flags old new = new ≡ old
PhaseGoesOn (Some seconds) protocol flags old new =
    ((protocol ≢ 6) × (new ≡ old))
    ⊎ ((protocol ≡ 6) × (((old ≡ Kept) × (new ≡ Kept)) ⊎ ((old ≢ Kept) × Follows seconds flags old new)))

-- the phase of the endpoint's mapping; or that of a new one, where it had none
abbrev pub HadPhase : NatValue → Endpoint → Phase → Type 0
HadPhase value key phase =
    ((old : Slot) × Has (mappings_in value) (key, old) × (old.phase ≡ phase))
    ⊎ (((old : Slot) → Has (mappings_in value) (key, old) → ⊥) × (phase ≡ Plain))

abbrev pub IsFollowedOn : Settings → NatValue → Endpoint → Phase → Packet → Type 0
IsFollowedOn s value key phase p =
    (flow : Flow) × (viewed p.bytes p.original ≡ Ok flow) × (source_of flow ≡ key) × (old : Phase)
    × HadPhase value key old × PhaseGoesOn s.closing key.protocol flow.flags old phase

-- Each mapping that is there after a step was there before it, the same, or the packet in hand comes from its endpoint,
-- and its phase is the one that this packet's control bits make of the one before.
abbrev pub HostsFollow : Type 0
HostsFollow =
    (s : Settings) (threads : ℕ) (inputs : ℕ → List Packet) (x : Step NatValue) (earlier : List (Step NatValue)) (v : ℕ)
    (key : Endpoint) (slot : Slot) → AreSettings s → HaveBytes inputs
    → IsHistory (nat_meaning s) inputs threads (x ∷ earlier)
    → Has (mappings_in (value_after (nat_meaning s) (x ∷ earlier) v)) (key, slot)
    → Has (mappings_in (value_after (nat_meaning s) earlier v)) (key, slot)
    ⊎ ((h : Hand) × ((thread_after earlier x.thread).hand ≡ Some h)
    × IsFollowedOn s (value_after (nat_meaning s) earlier v) key slot.phase h.packet)
