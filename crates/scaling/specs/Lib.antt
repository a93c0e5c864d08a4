pub mod Scaling
pub mod Laws
