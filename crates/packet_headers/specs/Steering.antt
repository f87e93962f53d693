-- The number by which a flow's packets find their thread.
use Rattle.std.specs.Prelude.{◌≡◌, ℕ, ◌+◌}
use Rattle.packet_headers.specs.declared.flow.Flow.{Flow}

-- the same in both directions, and never wrapped
abbrev pub steering_sum : Flow → ℕ
steering_sum flow = flow.source + flow.dest + flow.source_port + flow.dest_port + flow.protocol

-- the two directions of a flow: the source of one is the destination of the other
pub record AreBothDirections (one other : Flow) : Type 0 where
  pub protocol : one.protocol ≡ other.protocol
  pub source : one.source ≡ other.dest
  pub source_port : one.source_port ≡ other.dest_port
  pub dest : one.dest ≡ other.source
  pub dest_port : one.dest_port ≡ other.source_port
