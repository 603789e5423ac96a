pub mod Shape
pub mod ShapeLaws
pub mod WorkedBox
pub mod WorkedBoxLaws
