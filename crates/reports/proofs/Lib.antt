-- What the proofs of several functions use.
pub mod Reading
pub mod Bounding
pub mod Seeking
pub mod Edges
pub mod Joins
pub mod Parted
pub mod Ranks
