pub mod Claim
pub mod Laws
pub mod Spelled
pub mod Texts
