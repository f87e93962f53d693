pub mod Longer
