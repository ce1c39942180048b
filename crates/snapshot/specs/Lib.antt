-- The snapshot: its form, its records, the snapshot of a list of settings, and what is stated of these; last, the steps of the code.
pub mod Keys
pub mod Form
pub mod Records
pub mod Given
pub mod Theorems
pub mod Steps
