pub mod Buffers
pub mod Tags
pub mod Listing
pub mod Script
pub mod Laws
