pub mod Floats
pub mod FloatLaws
pub mod Order
pub mod Whole
pub mod WholeLaws
