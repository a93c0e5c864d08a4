-- The definitions that `wire`'s contracts cite, and the laws that its callers cite.
pub mod Status
pub mod Refusal
pub mod Bytes
pub mod Image
pub mod Laws
