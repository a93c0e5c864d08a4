pub mod Scaling
pub mod Alarm
pub mod Tick
pub mod State
pub mod Laws
