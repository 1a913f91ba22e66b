pub mod Sessions
pub mod SessionAnswers
pub mod Folded
