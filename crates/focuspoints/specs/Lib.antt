pub mod Buffer
pub mod Photograph
pub mod Script
pub mod Contents
pub mod Laws
pub mod Inside
