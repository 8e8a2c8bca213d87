-- What the proofs of several functions use.
pub mod Grown
pub mod Growths
