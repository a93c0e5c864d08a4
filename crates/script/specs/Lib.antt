-- The definitions that `script`'s contracts cite, and the laws that its callers cite.
pub mod Words
pub mod Command
pub mod Answer
pub mod Laws
pub mod Kept
pub mod Place
