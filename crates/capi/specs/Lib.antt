-- The definitions that `capi`'s contracts cite, and the theorem that the orders which C gets are those of the tick.
pub mod Numbers
pub mod Blocks
