pub mod Digits
pub mod Text
pub mod Put
pub mod Shown
