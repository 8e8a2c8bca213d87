-- What the proofs of several functions use.
pub mod Cells
pub mod Small
pub mod Locality
pub mod Leaving
pub mod Passing
pub mod Alike
pub mod Pieces
pub mod Halving
