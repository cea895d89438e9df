pub mod FlatLaws
pub mod FlatNumberLaws
pub mod FlatPut
pub mod FlatCardLaws
pub mod FlatWrite
