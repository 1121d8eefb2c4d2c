-- What a table of classes is, to be read from top to bottom.
-- the Rust types, and a table as its list of classes
pub mod Types
pub mod Class
-- where fields lie in an object, and what a class has from its ancestors
pub mod Layout
pub mod Ancestry
-- what the calls answer, and what they make of a table
pub mod Table
-- what is true of each table, and what follows
pub mod Lawful
pub mod Laws
-- how the table is kept
pub mod Row
pub mod Rows
