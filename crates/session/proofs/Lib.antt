pub mod Loads
pub mod State
pub mod YardRuns
pub mod YardTests
pub mod YardWritten
