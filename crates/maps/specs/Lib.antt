pub mod Window
pub mod Octets
pub mod Painted
pub mod Stretches
