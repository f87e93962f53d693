pub mod Untapped
