pub mod NamePlaces
pub mod Tests
