pub mod Placed
pub mod Parsed
pub mod Padding
