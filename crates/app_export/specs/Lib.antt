pub mod Cells
pub mod Handed
pub mod Faults
pub mod Written
