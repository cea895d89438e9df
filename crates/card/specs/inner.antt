-- What the functions inside the crate promise each other. A reader who takes the entry points' promises need not read these.
pub mod Spans
pub mod Layout
pub mod Reader
pub mod Indexing
pub mod Runs
