-- Definitions of the crate output_releases that crates above this one name, passed on.
pub use Rattle.output_releases.specs.Released.{names_of}
