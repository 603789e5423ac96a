mod Answered
pub mod Buffer
pub mod Listed
mod Loads
pub mod OrientationNumbers
pub mod Oriented
pub mod Presented
pub mod Product
pub mod Usable
pub mod Walked
