-- What changes of a world ask and promise, and the laws of positions that their proofs cite.
pub mod Change
pub mod Edits
pub mod Overwriting
