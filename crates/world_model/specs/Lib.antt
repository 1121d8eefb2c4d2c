-- What this crate promises, as a text to be read from top to bottom.
-- the Rust types, and the limits of a world
pub mod Types
pub mod Sizes
-- small words on names and lists
pub mod Lists
pub mod NameLists
-- the world of objects, and what the root set reaches in it
pub mod World
pub mod Reach
pub mod Reached
-- a history as a fold: what it leaves, and what each entry changes
pub mod State
pub mod Next
-- which entry may come next: of a lane, a marker, the collector
pub mod LaneSteps
pub mod MarkerSteps
pub mod CollectorSteps
-- legal histories, and the entries of one call while nothing else runs
pub mod Histories
pub mod Calls
-- what an engine's queue of destruction holds, and what a unit is while it is taken apart
pub mod DestructionQueue
pub mod Midway
-- the words of the hooks, and of an engine's contract
pub mod Hooks
pub mod Engines
-- laws, and histories that are legal or refused
pub mod Laws
pub mod Follows
pub mod Stays
pub mod Examples
pub mod Edges
pub mod Partings
