-- Definitions of the crate packet_headers that crates above this one name, passed on.
pub use Rattle.packet_headers.specs.Steering.{AreBothDirections, steering_sum}
pub use Rattle.packet_headers.specs.View.{viewed}
pub use Rattle.packet_headers.specs.declared.flow.Flow.{Flow}
pub use Rattle.packet_headers.specs.declared.flow.NotFlow.{NotFlow}
