-- Which word stands for which value, to be read from top to bottom.
pub mod Types
pub mod Values
pub mod Places
pub mod Changes
