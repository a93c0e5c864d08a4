-- The definitions that `packing`'s contracts cite, and their laws.
pub mod Words
pub mod Packed
pub mod Laws
pub mod Kept
