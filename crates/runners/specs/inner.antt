-- What the functions inside the crate promise each other. A reader who takes the entry points' promises need not read these.
pub mod Transitions
pub mod Changes
pub mod Rounds
pub mod Counts
pub mod Verdict
pub mod Markings
pub mod Steps
pub mod Fields
