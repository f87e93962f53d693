-- The static ports: inside endpoints that always have their outside ports.
use Rattle.std.specs.Prelude.{◌≡◌, ℕ, ◌^◌, Bool, true, false, ◌&&◌, ◌==◌, nat_lt, not, if◌then◌else◌}
use Rattle.std.specs.Prelude.{◌⊎◌, List, [], ◌∷◌, ◌++◌}
use Rattle.nat_tables.specs.declared.entries.Endpoint.{Endpoint}
use Rattle.nat_tables.specs.declared.entries.PortKey.{PortKey}
use Rattle.nat_tables.specs.Keys.{same_endpoint, same_port, port_key}
use Rattle.nat_tables.specs.Ports.{has_protocol}
use Rattle.flow_boxes.specs.Flows.{endpoint}
use Rattle.nat_box.specs.declared.settings.StaticPort.{StaticPort}

abbrev pub inside_of : StaticPort → Endpoint
inside_of p = endpoint p.protocol p.address p.port

abbrev pub outside_of : StaticPort → PortKey
outside_of p = port_key p.protocol p.outside

-- this endpoint with this outside port
abbrev pub static_port : Endpoint → ℕ → StaticPort
static_port key port =
    record { protocol = key.protocol; address = key.address; port = key.port; outside = port }

-- it is of TCP or UDP, each number is within its width, and the outside port is not 0
abbrev pub is_whole : StaticPort → Bool
is_whole p =
    has_protocol p.protocol && nat_lt p.address (2 ^ 32) && nat_lt p.port (2 ^ 16) && nat_lt p.outside (2 ^ 16)
    && not (p.outside == 0)

-- two have one endpoint, or one outside port
abbrev pub clash : StaticPort → StaticPort → Bool
clash p q =
    if same_endpoint (inside_of p) (inside_of q) then true else same_port (outside_of p) (outside_of q)

abbrev pub is_new : StaticPort → List StaticPort → Bool
is_new p [] = true
is_new p (q ∷ qs) = if clash p q then false else is_new p qs

-- those that stand before, and then each that is whole and clashes with none before it
abbrev pub kept_behind : List StaticPort → List StaticPort → List StaticPort
kept_behind before [] = before
kept_behind before (p ∷ ps) = kept_behind (if is_whole p && is_new p before then before ++ p ∷ [] else before) ps

-- those that count
abbrev pub kept : List StaticPort → List StaticPort
kept ports = kept_behind [] ports

abbrev pub outside_ports : List StaticPort → List PortKey
outside_ports [] = []
outside_ports (p ∷ ps) = outside_of p ∷ outside_ports ps

abbrev pub IsStatic : StaticPort → List StaticPort → Type 0
IsStatic p [] = ⊥
IsStatic p (q ∷ qs) = (q ≡ p) ⊎ IsStatic p qs
