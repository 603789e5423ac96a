pub mod Stream
pub mod Inside
pub mod Claim
