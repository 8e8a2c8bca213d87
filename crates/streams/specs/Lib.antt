pub mod Reading
pub mod Sweeping
pub mod Feeds
