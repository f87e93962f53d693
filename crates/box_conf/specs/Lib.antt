pub mod BoxFile
pub mod Kinds
pub mod Names
pub mod Reading
pub mod Settings
pub mod Table
pub mod Stated
