-- What holds of the words between any two atomic steps, to be read from top to bottom.
-- the Rust types, and the words as a function of their parts
pub mod Types
pub mod Memory
pub mod Units
-- the sections: what the words show, each of what it reads
pub mod Colours
pub mod Contents
pub mod Items
pub mod Loosening
pub mod Pairs
pub mod Removal
pub mod Counters
pub mod Licences
-- what a seat knows, and when it is true
pub mod Views
pub mod Sees
-- all of it, and the start
pub mod Rule
pub mod Start
pub mod Seats
-- what a seat must know to make a step, and what the step tells it: of lanes, of markers, of the collector
pub mod Telling
pub mod LaneMay
pub mod LaneTells
pub mod MarkerMay
pub mod MarkerTells
pub mod CollectorMay
pub mod CollectorTells
pub mod Tells
-- the word of each step and what the step makes of it: what has to be shown of each ask
pub mod Operations
-- how a seat is cut in two, and two are made one
pub mod Seating
