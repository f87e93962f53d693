pub mod Comes
pub mod Going
pub mod Steps
pub mod Replied
pub mod WrittenFiles
pub mod Closing
pub mod WholeChain
