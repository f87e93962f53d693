pub mod ScriptSteps
