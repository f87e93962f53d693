-- Idle connections give way: what a packet of a client that looks for its connection leaves of those that are idle, and
-- when a connection was last used.
use Rattle.std.specs.Prelude.{◌≡◌, ℕ, ◌+◌, ◌<◌, ◌≤◌, ◌⊎◌, List, ◌∷◌, Option, Some, None}
use Rattle.plain_text.specs.declared.packet.Packet.{Packet}
use Rattle.entry_order.specs.Log.{Entry}
use Rattle.entry_order.specs.declared.what.What.TheVariants.{Access}
use Rattle.plain_machine.specs.Machine.{Hand}
use Rattle.plain_machine.specs.History.{Did, Step, thread_after, value_after, IsHistory}
use Rattle.nat_tables.specs.declared.entries.Endpoint.{Endpoint}
use Rattle.nat_tables.specs.declared.slot.Slot.{Slot}
use Rattle.nat_tables.specs.Forwards.{Forwards, slot_of}
use Rattle.flow_boxes.specs.Flows.{HaveBytes}
use Rattle.balancer_box.specs.declared.value.BalancerValue.{BalancerValue}
use Rattle.balancer_box.specs.declared.value.BalancerValue.TheVariants.{Connected}
use Rattle.balancer_box.specs.Settings.{Settings, AreSettings}
use Rattle.balancer_box.specs.Balancer.{balancer_meaning}
use Rattle.balancer_box.specs.Entries.{connections_in}
use Rattle.balancer_box.specs.Emissions.{trail_of}
use Rattle.balancer_runs.specs.Idle.{IsIdleAt, IsLiveAt}
use Rattle.balancer_runs.specs.Refreshing.{IsOfClient}

-- the client's connection was used at this time, or is one that was there and was used later
abbrev pub IsDated : Endpoint → ℕ → Forwards → Forwards → Type 0
IsDated client now es after =
    (slot : Slot) → slot_of client after ≡ Some slot
    → (slot.last ≡ now)
    ⊎ ((old : Slot) × (slot_of client es ≡ Some old) × (slot.last ≡ old.last) × (now ≤ old.last))

-- a client that had a connection and has none
abbrev pub IsGone : Forwards → Forwards → Endpoint → Type 0
IsGone es after client = ((slot : Slot) × (slot_of client es ≡ Some slot)) × (slot_of client after ≡ None)

-- What a packet leaves of a table that looks for its client's connection there. A connection of its client is one that
-- was live. Where it had none, and one of the table was idle, one that was idle is gone. No more than one goes.
pub record GiveWay (client : Endpoint) (now : ℕ) (es after : Forwards) : Type 0 where
  pub own : (slot : Slot) → slot_of client after ≡ Some slot
      → (old : Slot) × (slot_of client es ≡ Some old) × IsLiveAt now client old
  pub other : slot_of client es ≡ None → (idle : Endpoint) (slot : Slot) → slot_of idle es ≡ Some slot
      → IsIdleAt now idle slot
      → (gone : Endpoint) × (was : Slot) × (slot_of gone es ≡ Some was) × IsIdleAt now gone was
      × (slot_of gone after ≡ None)
  pub one : (a b : Endpoint) → IsGone es after a → IsGone es after b → a ≡ b

-- each touch of a connection table by a packet of a client; in its first touch of one a packet looks for its connection
abbrev pub IdleGiveWay : Type 0
IdleGiveWay =
    (s : Settings) (threads : ℕ) (inputs : ℕ → List Packet) (x : Step BalancerValue)
    (earlier : List (Step BalancerValue)) (entry : Entry) (left : Option BalancerValue) (v place : ℕ) (h : Hand)
    (es : Forwards) (client : Endpoint) → AreSettings s → HaveBytes inputs
    → IsHistory (balancer_meaning s) inputs threads (x ∷ earlier) → x.act ≡ Did entry left
    → entry.what ≡ Access v place → v < 2 + s.shards → (thread_after earlier x.thread).hand ≡ Some h
    → IsOfClient s client h.packet → value_after (balancer_meaning s) earlier v ≡ Connected es
    → (now : ℕ) × ((trail_of s x.thread earlier).clock ≡ Some now)
    × IsDated client now es (connections_in (value_after (balancer_meaning s) (x ∷ earlier) v))
    × ((trail_of s x.thread earlier).found ≡ None
    → GiveWay client now es (connections_in (value_after (balancer_meaning s) (x ∷ earlier) v)))
