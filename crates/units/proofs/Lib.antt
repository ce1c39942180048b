-- The theorems, each under the name of the file in specs/ that says it, and the laws that they share.
pub mod Laws
pub mod Refusals
pub mod Lists
pub mod Answers
pub mod Board
pub mod Programs
pub mod Table
