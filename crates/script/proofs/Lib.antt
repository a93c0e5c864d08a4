-- The lemmas that several proofs share.
pub mod Lines
pub mod Told
pub mod Fitted
pub mod Written
