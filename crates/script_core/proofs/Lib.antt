pub mod LongTexts
pub mod CountedLines
pub mod Cuts
pub mod Provenance
pub mod Turns
pub mod Mailing
pub mod RoundDeeds
mod LinkExamples
pub mod Arriving
