pub mod Flattening
pub mod FlatCards
pub mod inner
