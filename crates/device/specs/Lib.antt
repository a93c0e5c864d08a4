-- The definitions that `device`'s contracts cite.
pub mod Stored
pub mod Factory
pub mod Read
pub mod Steps
pub mod Calls
pub mod Laws
pub mod Blocks
