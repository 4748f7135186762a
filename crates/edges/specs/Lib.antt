pub mod Held
pub mod SurveyRead
