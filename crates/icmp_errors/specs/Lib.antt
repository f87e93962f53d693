pub mod ErrorFields
pub mod ErrorView
pub mod ErrorRewriting
