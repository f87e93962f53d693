-- Reverse tables: the bound outside ports, in the order in which they were bound.
use Rattle.std.specs.Prelude.{◌≡◌, ℕ, ◌+◌, false, if◌then◌else◌, List, [], ◌∷◌, slice_get, Option, Some, None}
use Rattle.nat_tables.specs.declared.entries.Endpoint.{Endpoint}
use Rattle.nat_tables.specs.declared.entries.PortKey.{PortKey}
use Rattle.nat_tables.specs.declared.entries.BoundPort.{BoundPort}
use Rattle.nat_tables.specs.Keys.{same_port}

abbrev pub Reverses : Type 0
Reverses = List (PortKey × Endpoint)

abbrev pub endpoint_of : PortKey → Reverses → Option Endpoint
endpoint_of port [] = None
endpoint_of port (b ∷ bs) = if same_port port b.0 then Some b.1 else endpoint_of port bs

-- a port that is bound gets the new endpoint in its old place
abbrev pub bind : PortKey → Endpoint → Reverses → Reverses
bind port key [] = (port, key) ∷ []
bind port key (b ∷ bs) = if same_port port b.0 then (b.0, key) ∷ bs else b ∷ bind port key bs

abbrev pub unbind : PortKey → Reverses → Reverses
unbind port [] = []
unbind port (b ∷ bs) = if same_port port b.0 then bs else b ∷ unbind port bs

-- the bound port at an index
abbrev pub bound_of : Option (PortKey × Endpoint) → Option BoundPort
bound_of None = None
bound_of (Some b) = Some (record { protocol = b.0.protocol; port = b.0.port; key = b.1 })

abbrev pub bound_at : ℕ → Reverses → Option BoundPort
bound_at index bs = bound_of (slice_get bs index)

-- the sum of a number of each bound port
abbrev pub total_bound : (PortKey → Endpoint → ℕ) → Reverses → ℕ
total_bound number [] = 0
total_bound number (b ∷ bs) = number b.0 b.1 + total_bound number bs

abbrev pub IsUnbound : Reverses → PortKey → Type 0
IsUnbound [] port = Unit {0}
IsUnbound (b ∷ bs) port = (same_port b.0 port ≡ false) × IsUnbound bs port

-- each port may be bound to its endpoint, and none stands there twice
abbrev pub AreBound : (PortKey → Endpoint → Type 0) → Reverses → Type 0
AreBound May [] = Unit {0}
AreBound May (b ∷ bs) = May b.0 b.1 × IsUnbound bs b.0 × AreBound May bs
