-- What the proofs of several functions use.
pub mod Bits
pub mod Windows
pub mod Surveying
pub mod Leaving
pub mod OnTheWay
pub mod Applying
pub mod Storing
pub mod Octeting
pub mod Masks
pub mod Painting
pub mod Rounds
pub mod Showing
pub mod Words
