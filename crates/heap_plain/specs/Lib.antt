-- the Rust types of the crate below
pub mod Types
-- lists without repetition
pub mod Lists
-- the queue of destruction, the marks, the free indexes, the vectors of a plain heap, and what callers see of them
pub mod Queue
pub mod Painted
pub mod Stocked
pub mod Serials
pub mod Parts
-- what the functions over the vectors do
pub mod Filling
pub mod Creation
pub mod Notes
pub mod Sweeping
pub mod Listing
pub mod Purging
-- what the vectors show of the state that a history leaves, in sections: each over the parts that it reads
pub mod Gates
pub mod Units
pub mod Cells
pub mod Roots
pub mod Pairing
pub mod Colouring
pub mod Stocking
pub mod Destroying
pub mod Plain
-- what the functions that mark and store do
pub mod Shading
pub mod Storing
-- a unit that is being taken apart
pub mod Parting
