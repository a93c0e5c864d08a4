-- The definitions that `blocks`' contracts and the blocks' rules cite, and the laws that are the same for several blocks.
pub mod Common
pub mod Discrete
pub mod InputBlock
pub mod FailSafe
pub mod Output
pub mod Laws
