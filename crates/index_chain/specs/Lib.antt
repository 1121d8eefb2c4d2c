-- What a chain of items is, to be read from top to bottom.
pub mod Walks
pub mod Calls
pub mod Laws
