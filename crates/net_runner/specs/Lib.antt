pub mod Told
pub mod Slices
pub mod Copies
