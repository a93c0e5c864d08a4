-- The definitions that `di`'s contracts cite, and the laws that its callers cite.
pub mod Kept
pub mod Tick
pub mod State
pub mod Laws
