-- The definitions that `text`'s contracts cite, and the laws that its callers cite.
pub mod Appended
pub mod Digits
pub mod Number
pub mod Place
pub mod Laws
