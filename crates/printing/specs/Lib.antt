-- How many columns printed text takes.
pub mod Printing
