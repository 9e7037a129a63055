pub mod Again
pub mod KeyTypes
pub mod RuleRuns
pub mod Then
pub mod UseRuns
