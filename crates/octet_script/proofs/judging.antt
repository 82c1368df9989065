pub mod Judged
pub mod Steps
pub mod Sound
pub mod Complete
pub mod Valid
pub mod BrokenRules
pub mod WholeTexts
