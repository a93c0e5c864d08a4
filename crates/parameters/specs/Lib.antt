-- The definitions that `parameters`' contracts cite, and their laws.
pub mod Table
pub mod Words
pub mod Refused
pub mod Laws
