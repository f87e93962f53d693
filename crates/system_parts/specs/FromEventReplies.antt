-- Definitions of the crate event_replies that crates above this one name, passed on.
pub use Rattle.event_replies.specs.declared.reply.Reply.{Reply}
