-- What holds of DI's definitions beyond its contracts.
pub mod Stays
