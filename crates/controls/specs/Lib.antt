-- Settings and what an item of a SET comes to, whichever control they are of.
pub mod Controls
