-- Definitions of the crate plain_text that crates above this one name, passed on.
pub use Rattle.plain_text.specs.declared.packet.Packet.{Packet}
