pub mod TrailTexts
pub mod JournalTexts
pub mod Refusals
pub mod Outputs
