pub mod Digits
mod GenerationLaws
pub mod KeyNumbers
mod ReplacingLaws
mod RestoreLaws
pub mod SurveyLaws
