pub mod Surveys
pub mod Tiles
pub mod Rows
pub mod Areas
