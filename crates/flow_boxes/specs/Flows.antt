-- The endpoints of a flow, and inputs of bytes.
use Rattle.std.specs.Prelude.{◌≡◌, ℕ, List, Some, slice_get}
use Rattle.plain_text.specs.declared.packet.Packet.{Packet}
use Rattle.packet_headers.specs.declared.flow.Flow.{Flow}
use Rattle.packet_headers.specs.Fields.{AreBytes}
use Rattle.nat_tables.specs.declared.entries.Endpoint.{Endpoint}

abbrev pub endpoint : ℕ → ℕ → ℕ → Endpoint
endpoint protocol address port = record { protocol = protocol; address = address; port = port }

abbrev pub source_of : Flow → Endpoint
source_of flow = endpoint flow.protocol flow.source flow.source_port

abbrev pub dest_of : Flow → Endpoint
dest_of flow = endpoint flow.protocol flow.dest flow.dest_port

-- each input is of bytes
abbrev pub HaveBytes : (ℕ → List Packet) → Type 0
HaveBytes inputs = (t k : ℕ) (p : Packet) → slice_get (inputs t) k ≡ Some p → AreBytes p.bytes
