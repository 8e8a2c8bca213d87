pub mod Flat
pub mod Records
