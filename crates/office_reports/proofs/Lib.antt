pub mod Noting
pub mod Totals
pub mod Entering
pub mod DoorLines
