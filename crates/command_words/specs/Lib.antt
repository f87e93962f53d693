pub mod Clashes
pub mod Faults
pub mod Pipes
pub mod Printing
pub mod Request
pub mod Watching
pub mod WordPlaces
pub mod Words
