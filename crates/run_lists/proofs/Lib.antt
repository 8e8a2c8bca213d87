-- What the proofs of several functions use.
pub mod Pairs
pub mod Ordered
