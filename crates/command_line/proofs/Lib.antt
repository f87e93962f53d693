mod Printed
pub mod NoCommand
mod ExitCodes
mod FilesRun
mod LiveWords
mod Named
mod Runs
