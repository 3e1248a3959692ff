pub mod AddedTests
