-- What the tables of the NAT keep, in each history of a world.
use Rattle.std.proofs.Common.{◌≡◌, ℕ, ◌+◌, ◌≤◌, List, [], ◌∷◌, ◌++◌, ap, subst, arith, Some}
use Rattle.std.specs.Prelude.{max}
use Rattle.plain_text.specs.declared.packet.Packet.{Packet}
use Rattle.plain_machine.specs.declared.plain_move.PlainMove.{PlainMove}
use Rattle.plain_machine.specs.History.{Step, thread_after, value_after}
use Rattle.tagged_box.specs.Tags.{inputs_behind, steps_behind}
use Rattle.monitor_box.proofs.ChangedSums.{sum_of_none}
use Rattle.nat_tables.specs.declared.entries.Endpoint.{Endpoint}
use Rattle.nat_tables.specs.declared.entries.PortKey.{PortKey}
use Rattle.nat_box.specs.declared.place.Place.{Place}
use Rattle.nat_box.specs.declared.place.Noted.{Noted}
use Rattle.nat_box.specs.declared.settings.StaticPort.{StaticPort}
use Rattle.nat_box.specs.declared.value.NatValue.{NatValue}
use Rattle.nat_box.specs.Settings.{Settings}
use Rattle.nat_box.specs.Nat.{nat_meaning}
use Rattle.nat_box.specs.Statics.{kept, IsStatic}
use Rattle.nat_box.specs.Sentences.{HaveOneEndpoint, HaveOneMapping}
use Rattle.nat_box.specs.PortStanding as ports
use Rattle.nat_box.proofs.Sentences.{entries_stand}
use Rattle.nat_box.proofs.Standing.{ports_stand}
use Rattle.nat_runs.specs.StaticPorts.{Stands}
use Rattle.nat_runs.specs.Limits.{mappings_of, statics_of}
use Rattle.nat_runs.proofs.StaticPorts.{static_ports_stay}
use Rattle.nat_runs.proofs.Limits.{hosts_keep_within}
use Rattle.recovery_world.specs.declared.event.Event.{Event}
use Rattle.recovery_world.specs.declared.event.Event.TheVariants.{Settle}
use Rattle.recovery_world.specs.World.{Setting, World, all_inputs}
use Rattle.recovery_world.specs.Files.{Leaves}
use Rattle.recovery_laws.proofs.Settlings.{script_settled}
use Rattle.box_worlds.specs.Worlds.{IsLedTo, IsOfWorld}
use Rattle.box_worlds.specs.Boxes.{IsNat}
use Rattle.box_worlds.proofs.BehindTags.{history_behind, value_behind, behind_world, in_world, rest_behind}

pub one_endpoint : (n : Settings) (s : Setting NatValue) (w : World NatValue) (steps : List (Step NatValue))
    → IsNat n s → IsLedTo s w → IsOfWorld s w steps → HaveOneEndpoint n (value_after s.meaning steps)
one_endpoint n s w steps is led of =
    in_world s (nat_meaning n) (HaveOneEndpoint n)
    (λ inputs steps h. (entries_stand n s.threads inputs steps is.0 h).1) is.1 w steps led of

pub one_mapping : (n : Settings) (s : Setting NatValue) (w : World NatValue) (steps : List (Step NatValue))
    → IsNat n s → IsLedTo s w → IsOfWorld s w steps → HaveOneMapping n (value_after s.meaning steps)
one_mapping n s w steps is led of =
    in_world s (nat_meaning n) (HaveOneMapping n)
    (λ inputs steps h. (entries_stand n s.threads inputs steps is.0 h).2) is.1 w steps led of

pub statics_stand : (n : Settings) (s : Setting NatValue) (w : World NatValue) (steps : List (Step NatValue))
    (p : StaticPort) → IsNat n s → IsLedTo s w → IsOfWorld s w steps → IsStatic p (kept n.statics)
    → Stands n (value_after s.meaning steps) p
statics_stand n s w steps p is led of static =
    in_world s (nat_meaning n) (λ (value : ℕ → NatValue). Stands n value p)
    (λ inputs steps h. static_ports_stay n s.threads inputs steps p is.0 h static) is.1 w steps led of

pub keep_within : (n : Settings) (s : Setting NatValue) (w : World NatValue) (steps : List (Step NatValue))
    (most protocol address : ℕ) → IsNat n s → IsLedTo s w → IsOfWorld s w steps → n.limit ≡ Some most
    → mappings_of n (value_after s.meaning steps) protocol address
    ≤ max most (statics_of protocol address (kept n.statics))
keep_within n s w steps most protocol address is led of limit =
    in_world s (nat_meaning n)
    (λ (value : ℕ → NatValue).
    mappings_of n value protocol address ≤ max most (statics_of protocol address (kept n.statics)))
    (λ inputs steps h. hosts_keep_within n s.threads inputs steps most protocol address is.0 h limit) is.1 w steps led
    of

pub ports_stand_there : (n : Settings) (s : Setting NatValue) (w : World NatValue) (steps : List (Step NatValue))
    (port : PortKey) (key : Endpoint) → IsNat n s → IsLedTo s w → IsOfWorld s w steps
    → ports.Stands n s.threads (steps_behind s.tags steps) port key
ports_stand_there n s w steps port key is led of =
    behind_world s (nat_meaning n) (λ run. ports.Stands n s.threads run port key)
    (λ inputs run h. ports_stand n s.threads inputs run is.0 h port key) is.1 w steps led of

-- With no packet in hand, a port is free or mapped.
pub settled_ports : (n : Settings) (s : Setting NatValue) (events : List Event) (report : List ℕ)
    (released : List Packet) (schedule : List PlainMove) (port : PortKey) → IsNat n s
    → (l : Leaves s (events ++ Settle ∷ []) report released schedule)
    → ports.in_values n (ports.free_at port) (value_after s.meaning l.steps)
    + ports.in_values n (ports.mapped_at (ports.maps port)) (value_after s.meaning l.steps) ≡ ports.places_of n port
settled_ports n s events report released schedule port is l =
    subst (λ (value : ℕ → NatValue).
    ports.in_values n (ports.free_at port) value + ports.in_values n (ports.mapped_at (ports.maps port)) value
    ≡ ports.places_of n port) (value_behind s (nat_meaning n) l.steps is.1)
    (let a = stood.one in
    let b = none (ports.bare port) in
    let c = none (ports.queued port) in
    let d = none (ports.loose port) in omega (arith, a, b, c, d))
  where
    key : Endpoint
    key = record { protocol = 0; address = 0; port = 0 }

    stood : ports.Stands n s.threads (steps_behind s.tags l.steps) port key
    stood = ports_stand n s.threads (inputs_behind s.tags (all_inputs s)) (steps_behind s.tags l.steps) is.0
        (history_behind s (nat_meaning n) (all_inputs s) l.steps is.1 l.finish.history) port key

    none : (number : Place → Noted → ℕ)
        → ports.in_hands number s.threads (thread_after (steps_behind s.tags l.steps)) ≡ 0
    none number = sum_of_none s.threads _ (λ t low. ap (ports.in_hand number)
        (rest_behind s l.world l.steps (script_settled s events report released schedule l) t low))
