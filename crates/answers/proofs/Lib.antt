pub mod Lines
pub mod Point
