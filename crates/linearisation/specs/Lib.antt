-- The definitions that `linearisation`'s contracts cite.
pub mod Table
pub mod Value
pub mod Laws
pub mod Kept
