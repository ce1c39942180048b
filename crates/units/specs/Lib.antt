-- What request #101 asks of the peripheral control unit's calls, and of two units on one board.
pub mod Refusals
pub mod Lists
pub mod Answers
pub mod Board
pub mod Programs
pub mod Table
