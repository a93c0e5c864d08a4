-- The definitions that `ao`'s contracts cite, and the laws that its callers cite.
pub mod State
pub mod Telegram
pub mod Tick
pub mod Laws
