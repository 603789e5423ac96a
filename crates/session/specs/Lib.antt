pub mod Lines
pub mod Texts
pub mod Answering
pub mod Claim
pub mod Laws
