-- What the proofs of several functions use.
pub mod Bits
pub mod LastByte
pub mod Digits
pub mod Telling
pub mod Placing
pub mod Apart
pub mod Spots
pub mod Strewing
