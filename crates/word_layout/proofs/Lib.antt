pub mod Different
pub mod Apart
pub mod Changing
pub mod Filled
