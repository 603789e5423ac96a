pub mod Script
pub mod Inside
pub mod Laws
pub mod Example
