-- What the proofs of several functions use.
pub mod Putting
pub mod Decimals
pub mod Lengths
pub mod Drawing
pub mod Lines
pub mod Answering
pub mod Reading
pub mod Showing
