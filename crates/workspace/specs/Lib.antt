pub mod Names
pub mod Workspace
pub mod Inside
