pub mod FromPlainMachine
