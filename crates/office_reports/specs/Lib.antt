pub mod Sold
pub mod Noted
pub mod Columns
pub mod SalesText
pub mod Entered
pub mod Counted
pub mod DoorText
pub mod ItemLines
