pub mod HandFaults
