-- What the functions inside the crate promise each other. A reader who takes the entry points' promises need not read these.
pub mod Arcs
pub mod Ordinals
pub mod Likeness
