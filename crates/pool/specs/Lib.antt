pub mod Places
pub mod Layout
pub mod Soundness
pub mod Free
pub mod Settle
pub mod Decision
pub mod Relink
