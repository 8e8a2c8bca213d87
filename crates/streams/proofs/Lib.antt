-- What the proofs of several functions use.
pub mod Dropping
pub mod Paths
pub mod Tops
pub mod Parts
pub mod Lasts
pub mod Firsts
pub mod Starts
pub mod Readers
pub mod Gapped
pub mod Sweeps
pub mod Streamed
pub mod Iterated
pub mod Feeding
pub mod Coming
