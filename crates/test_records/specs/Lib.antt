pub mod Input
pub mod Fields
pub mod Load
pub mod Text
pub mod Edit
