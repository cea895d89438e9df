pub mod Feeds
pub mod Text
pub mod Programs
pub mod Lines
pub mod Files
pub mod Runs
pub mod Agreeing
pub mod Cases
