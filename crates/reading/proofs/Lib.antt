pub mod Entries
pub mod Text
pub mod Wanted
pub mod Laws
pub mod ListedTags
