pub mod Images
pub mod StagedFiles
pub mod Table
pub mod Values
