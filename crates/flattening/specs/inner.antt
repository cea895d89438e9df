-- What the functions inside the crate promise each other. A reader who takes the entry point's promise need not read these.
pub mod FlatNumbers
