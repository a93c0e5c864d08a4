pub mod Total
pub mod Tick
pub mod State
pub mod Laws
