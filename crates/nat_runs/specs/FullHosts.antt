-- What a packet changes whose host has as many mappings as it may have, and none that is idle: nothing. It takes no
-- port, and nobody's mapping goes for it (RFC 6888, REQ-4).
use Rattle.std.specs.Prelude.{◌≡◌, ℕ, ◌<◌, ◌⊎◌, Bool, true, false, List, [], ◌∷◌, Option, Some, Ok, nat_eq, cond}
use Rattle.plain_text.specs.declared.packet.Packet.{Packet}
use Rattle.packet_headers.specs.declared.flow.Flow.{Flow}
use Rattle.packet_headers.specs.View.{viewed}
use Rattle.entry_order.specs.Log.{Entry}
use Rattle.entry_order.specs.declared.what.What.{What}
use Rattle.entry_order.specs.declared.what.What.TheVariants.{Access, Read, Clock, Draw}
use Rattle.plain_machine.specs.Machine.{Hand}
use Rattle.plain_machine.specs.History.{Act, Took, Did, Emitted, Ended, Step, left_by, thread_after, value_after}
use Rattle.plain_machine.specs.History.{IsHistory}
use Rattle.nat_tables.specs.declared.entries.Endpoint.{Endpoint}
use Rattle.nat_tables.specs.declared.slot.Slot.{Slot}
use Rattle.nat_tables.specs.Forwards.{Forwards}
use Rattle.nat_tables.specs.Hosts.{count_of}
use Rattle.flow_boxes.specs.Flows.{source_of, HaveBytes}
use Rattle.nat_box.specs.declared.value.NatValue.{NatValue}
use Rattle.nat_box.specs.Settings.{Settings, AreSettings}
use Rattle.nat_box.specs.Nat.{forward_table, nat_meaning}
use Rattle.nat_box.specs.Sentences.{Has, mappings_in}
use Rattle.nat_runs.specs.Met.{Met, met_of}
use Rattle.nat_runs.specs.Idle.{IsIdle}

-- In a table the endpoint's host has fewer mappings of its protocol than it may have, or one of them is idle.
abbrev pub HasRoom : ℕ → Endpoint → ℕ → Forwards → Type 0
HasRoom most key now es =
    (count_of key.protocol key.address es < most)
    ⊎ ((own : Endpoint) × (slot : Slot) × Has es (own, slot) × (own.protocol ≡ key.protocol)
    × (own.address ≡ key.address) × IsIdle now own slot)

-- its host had room in the table of its source, when the packet touched it
abbrev pub HadRoom : Settings → ℕ → Flow → Met → Type 0
HadRoom s most flow met =
    (value : ℕ → NatValue) × (now : ℕ) × (met.at_touch ≡ Some value) × (met.clock ≡ Some now)
    × HasRoom most (source_of flow) now (mappings_in (value (forward_table s (source_of flow))))

-- A packet takes a port after it drew a word. Each draw is that of a packet whose host had room.
abbrev pub DrawsHadRoom : Type 0
DrawsHadRoom =
    (s : Settings) (threads : ℕ) (inputs : ℕ → List Packet) (x : Step NatValue) (earlier : List (Step NatValue))
    (entry : Entry) (left : Option NatValue) (word most : ℕ) → AreSettings s → HaveBytes inputs
    → IsHistory (nat_meaning s) inputs threads (x ∷ earlier) → x.act ≡ Did entry left → entry.what ≡ Draw word
    → s.limit ≡ Some most
    → (h : Hand) × (flow : Flow) × ((thread_after earlier x.thread).hand ≡ Some h)
    × (viewed h.packet.bytes h.packet.original ≡ Ok flow) × HadRoom s most flow (met_of s x.thread earlier)

-- whether the packet in hand drew a word

abbrev pub draws : What → Bool → Bool
draws (Access v place) before = before
draws (Read v after) before = before
draws (Clock a) before = before
draws (Draw a) before = true

abbrev pub drawn_by : Act NatValue → Bool → Bool
drawn_by (Took k) before = false
drawn_by (Did entry left) before = draws entry.what before
drawn_by (Emitted o) before = before
drawn_by (Ended k) before = before

abbrev pub has_drawn : ℕ → List (Step NatValue) → Bool
has_drawn t [] = false
has_drawn t (x ∷ earlier) = cond (nat_eq x.thread t) (drawn_by x.act (has_drawn t earlier)) (has_drawn t earlier)

-- each of its moves so far left all variables as they were

abbrev pub ChangesNothing : (ℕ → NatValue) → Act NatValue → Type 0 → Type 0
ChangesNothing value (Took k) Before = Unit {0}
ChangesNothing value (Did entry left) Before = ((v : ℕ) → left_by v (Did entry left) (value v) ≡ value v) × Before
ChangesNothing value (Emitted o) Before = Before
ChangesNothing value (Ended k) Before = Before

abbrev pub OfThread : Bool → (ℕ → NatValue) → Act NatValue → Type 0 → Type 0
OfThread true value act Before = ChangesNothing value act Before
OfThread false value act Before = Before

abbrev pub HasChangedNothing : Settings → ℕ → List (Step NatValue) → Type 0
HasChangedNothing s t [] = Unit {0}
HasChangedNothing s t (x ∷ earlier) =
    OfThread (nat_eq x.thread t) (value_after (nat_meaning s) earlier) x.act (HasChangedNothing s t earlier)
