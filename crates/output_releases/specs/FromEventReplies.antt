-- Definitions of the crate event_replies that crates above this one name, passed on.
pub use Rattle.system_parts.specs.FromEventReplies.{Reply}
