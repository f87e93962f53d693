-- Lemmas of the crate recovery_laws that crates above this one name, passed on.
pub use Rattle.recovery_laws.proofs.KeptWorlds.{entries_line, line_entries, within_sound}
pub use Rattle.recovery_laws.proofs.Sets.{among_either}
pub use Rattle.recovery_laws.proofs.Settlings.{among_left, among_right, number_high}
pub use Rattle.recovery_laws.proofs.SoundParts.{sent_after}
