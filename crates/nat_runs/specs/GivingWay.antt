-- Idle mappings give way: what a packet that looks for its mapping leaves of those that are idle, and when a mapping
-- was last used (RFC 4787, REQ-5 and REQ-6).
use Rattle.std.specs.Prelude.{◌≡◌, ℕ, ◌≤◌, ◌⊎◌, false, List, ◌∷◌, Option, Some, None, Ok}
use Rattle.plain_text.specs.declared.packet.Packet.{Packet}
use Rattle.packet_headers.specs.declared.flow.Flow.{Flow}
use Rattle.packet_headers.specs.View.{viewed}
use Rattle.entry_order.specs.Log.{Entry}
use Rattle.entry_order.specs.declared.what.What.TheVariants.{Access}
use Rattle.plain_machine.specs.Machine.{Hand}
use Rattle.plain_machine.specs.History.{Did, Step, thread_after, value_after, IsHistory}
use Rattle.nat_tables.specs.declared.entries.Endpoint.{Endpoint}
use Rattle.nat_tables.specs.declared.slot.Slot.{Slot}
use Rattle.nat_tables.specs.Forwards.{Forwards}
use Rattle.nat_tables.specs.Hosts.{count_of}
use Rattle.flow_boxes.specs.Flows.{source_of, HaveBytes}
use Rattle.nat_box.specs.declared.value.NatValue.{NatValue}
use Rattle.nat_box.specs.declared.value.NatValue.TheVariants.{Mapped}
use Rattle.nat_box.specs.Settings.{Settings, AreSettings}
use Rattle.nat_box.specs.Nat.{nat_meaning}
use Rattle.nat_box.specs.Sentences.{Has, mappings_in}
use Rattle.nat_runs.specs.Met.{met_of}
use Rattle.nat_runs.specs.Idle.{IsIdle, IsLive}
use Rattle.nat_runs.specs.FullHosts.{has_drawn}

-- each mapping of the endpoint was used at this time, or is one that was there and was used later
abbrev pub AreDated : Endpoint → ℕ → Forwards → Forwards → Type 0
AreDated key now es after =
    (slot : Slot) → Has after (key, slot)
    → (slot.last ≡ now)
    ⊎ ((old : Slot) × Has es (key, old) × (slot.last ≡ old.last) × (now ≤ old.last))

-- whose idle mapping may give way to one of this endpoint: anybody's, but where its host has as many as it may have,
-- one of this host
abbrev pub MayGiveWay : Option ℕ → Endpoint → Forwards → Endpoint → Type 0
MayGiveWay None key es own = Unit {0}
MayGiveWay (Some most) key es own =
    most ≤ count_of key.protocol key.address es → (own.protocol ≡ key.protocol) × (own.address ≡ key.address)

-- What a packet leaves of a table that looks for the mapping of its source there. A mapping of its source is one that
-- was live. Where it had none, and one that may give way was idle, one that was idle is gone.
pub record GiveWay (limit : Option ℕ) (key : Endpoint) (now : ℕ) (es after : Forwards) : Type 0 where
  pub own : (slot : Slot) → Has after (key, slot) → (old : Slot) × Has es (key, old) × IsLive now key old
  pub other : ((slot : Slot) → Has es (key, slot) → ⊥) → (e : Endpoint × Slot) → Has es e → IsIdle now e.0 e.1
      → MayGiveWay limit key es e.0
      → (gone : Endpoint × Slot) × Has es gone × IsIdle now gone.0 gone.1
      × ((slot : Slot) → Has after (gone.0, slot) → ⊥)

-- each touch of a forward table; before it drew a word, a packet looks for its mapping
abbrev pub IdleGiveWay : Type 0
IdleGiveWay =
    (s : Settings) (threads : ℕ) (inputs : ℕ → List Packet) (x : Step NatValue) (earlier : List (Step NatValue))
    (entry : Entry) (left : Option NatValue) (v place : ℕ) (h : Hand) (flow : Flow) (es : Forwards) → AreSettings s
    → HaveBytes inputs → IsHistory (nat_meaning s) inputs threads (x ∷ earlier) → x.act ≡ Did entry left
    → entry.what ≡ Access v place → (thread_after earlier x.thread).hand ≡ Some h
    → viewed h.packet.bytes h.packet.original ≡ Ok flow → value_after (nat_meaning s) earlier v ≡ Mapped es
    → (now : ℕ) × ((met_of s x.thread earlier).clock ≡ Some now)
    × AreDated (source_of flow) now es (mappings_in (value_after (nat_meaning s) (x ∷ earlier) v))
    × (has_drawn x.thread earlier ≡ false
    → GiveWay s.limit (source_of flow) now es (mappings_in (value_after (nat_meaning s) (x ∷ earlier) v)))
