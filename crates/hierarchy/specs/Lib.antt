pub mod Conditions
pub mod Numbers
pub mod Check
pub mod Judgement
pub mod Output
pub mod inner
