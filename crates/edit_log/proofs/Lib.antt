pub mod EditTexts
pub mod TornEdits
pub mod LoggedEdits
pub mod PutTexts
pub mod EditSteps
pub mod LogsAfter
pub mod CrashedLogs
pub mod CountedCalls
pub mod FetchedLogs
pub mod StartedLogs
pub mod StoreLogs
pub mod LastingNodes
pub mod RunTrees
pub mod ListedSizes
pub mod JudgedEdits
pub mod JudgeableTrees
mod EditLogRows
