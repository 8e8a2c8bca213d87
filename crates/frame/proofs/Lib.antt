-- What the proofs of several functions use.
pub mod Replies
pub mod Arms
pub mod Playing
pub mod Framing
pub mod FedCalls
