-- What follows for single entries, after each move of each run: each forward entry has its reverse entry, so no port
-- stands for two inside endpoints; an endpoint has at most one mapping; and each reverse entry belongs to a forward
-- entry or to a packet in hand that stands between.
use Rattle.std.specs.Prelude.{◌≡◌, ℕ, ◌+◌, ◌*◌, ◌<◌, ◌⊎◌, List, [], ◌∷◌, Option, Some, None}
use Rattle.plain_text.specs.declared.packet.Packet.{Packet}
use Rattle.plain_machine.specs.Machine.{Hand, Thread}
use Rattle.plain_machine.specs.History.{Step, thread_after, value_after, IsHistory}
use Rattle.nat_tables.specs.declared.entries.Endpoint.{Endpoint}
use Rattle.nat_tables.specs.declared.entries.PortKey.{PortKey}
use Rattle.nat_tables.specs.declared.slot.Slot.{Slot}
use Rattle.nat_tables.specs.Forwards.{Forwards, port_of}
use Rattle.nat_tables.specs.Reverses.{Reverses, endpoint_of}
use Rattle.nat_box.specs.declared.place.Place.TheVariants.{FindsOrBinds, UnbindsFreed, UnbindsLost}
use Rattle.nat_box.specs.declared.value.NatValue.{NatValue}
use Rattle.nat_box.specs.declared.value.NatValue.TheVariants.{Dropped, Free, Mapped, Taken}
use Rattle.nat_box.specs.Places.{place_numbered, noted, source_key}
use Rattle.nat_box.specs.Settings.{Settings, AreSettings}
use Rattle.nat_box.specs.Nat.{reverse_table, nat_meaning}

abbrev pub Has : {X : Type 0} → List X → X → Type 0
Has [] e = ⊥
Has (x ∷ xs) e = (x ≡ e) ⊎ Has xs e

abbrev pub mappings_in : NatValue → Forwards
mappings_in (Dropped d) = []
mappings_in (Free pool) = []
mappings_in (Mapped es) = es
mappings_in (Taken bs) = []

abbrev pub bound_in : NatValue → Reverses
bound_in (Dropped d) = []
bound_in (Free pool) = []
bound_in (Mapped es) = []
bound_in (Taken bs) = bs

-- a forward entry of variable v
abbrev pub IsMapping : Settings → (ℕ → NatValue) → ℕ → Endpoint × Slot → Type 0
IsMapping s value v e = (v < 2 + 2 * s.shards) × Has (mappings_in (value v)) e

-- its reverse entry is there
abbrev pub HaveReverse : Settings → (ℕ → NatValue) → Type 0
HaveReverse s value =
    (v : ℕ) (e : Endpoint × Slot) → IsMapping s value v e
    → endpoint_of (port_of e) (bound_in (value (reverse_table s (port_of e)))) ≡ Some e.0

abbrev pub HaveOneEndpoint : Settings → (ℕ → NatValue) → Type 0
HaveOneEndpoint s value =
    (v w : ℕ) (e f : Endpoint × Slot) → IsMapping s value v e → IsMapping s value w f → port_of e ≡ port_of f
    → e.0 ≡ f.0

abbrev pub HaveOneMapping : Settings → (ℕ → NatValue) → Type 0
HaveOneMapping s value =
    (v w : ℕ) (e f : Endpoint × Slot) → IsMapping s value v e → IsMapping s value w f → e.0 ≡ f.0 → (v ≡ w) × (e ≡ f)

-- A packet in hand has bound the port to its source, and looks next whether its source has a mapping by now; or it is
-- about to unbind the port.
abbrev pub IsBetween : PortKey → Endpoint → Option Hand → Type 0
IsBetween port key None = ⊥
IsBetween port key (Some h) =
    ((place_numbered h.place.at ≡ FindsOrBinds) × (source_key (noted h.place) ≡ port) × ((noted h.place).source ≡ key))
    ⊎ (((place_numbered h.place.at ≡ UnbindsFreed) ⊎ (place_numbered h.place.at ≡ UnbindsLost))
    × ((noted h.place).freed ≡ port))

abbrev pub Belong : Settings → ℕ → (ℕ → NatValue) → (ℕ → Thread) → Type 0
Belong s threads value thread =
    (v : ℕ) (port : PortKey) (key : Endpoint) → v < 2 + 2 * s.shards → Has (bound_in (value v)) (port, key)
    → ((w : ℕ) × (slot : Slot) × IsMapping s value w (key, slot) × (port_of (key, slot) ≡ port))
    ⊎ ((t : ℕ) × (t < threads) × IsBetween port key (thread t).hand)

abbrev pub EntriesStand : Type 0
EntriesStand =
    (s : Settings) (threads : ℕ) (inputs : ℕ → List Packet) (steps : List (Step NatValue)) → AreSettings s
    → IsHistory (nat_meaning s) inputs threads steps
    → HaveReverse s (value_after (nat_meaning s) steps)
    × HaveOneEndpoint s (value_after (nat_meaning s) steps)
    × HaveOneMapping s (value_after (nat_meaning s) steps)
    × Belong s threads (value_after (nat_meaning s) steps) (thread_after steps)
