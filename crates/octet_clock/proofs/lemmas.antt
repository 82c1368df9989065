pub mod AlikeStates
pub mod Readers
pub mod LogsAlone
pub mod FrontsAlone
pub mod FrontLaws
pub mod DrawsMade
pub mod DrawLaws
