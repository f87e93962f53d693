pub mod Fronts
pub mod ImageVerdicts
pub mod JudgedTexts
pub mod OneAnswer
pub mod OnlyReading
pub mod Records
pub mod Verdicts
pub mod WholeLines
