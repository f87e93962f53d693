pub mod Tags
pub mod FromPacketHeaders
pub mod FromPlainText
