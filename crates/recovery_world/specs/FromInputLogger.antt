-- Definitions of the crate input_logger that crates above this one name, passed on.
pub use Rattle.input_logger.specs.Inputs.{Fed, inputs_of, thread_of}
