pub mod Going
pub mod EventsPerformed
pub mod Closing
pub mod WholeRun
pub mod Answering
