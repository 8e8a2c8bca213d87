pub mod Entries
pub mod Sweeps
pub mod Bands
pub mod Groups
pub mod Joins
pub mod Unions
pub mod Mended
