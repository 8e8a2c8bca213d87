pub mod Records
pub mod Frame
pub mod Serving
