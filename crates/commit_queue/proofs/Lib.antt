pub mod WaitingCommits
