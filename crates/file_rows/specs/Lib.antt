pub mod Unread
pub mod Cells
pub mod Rows
pub mod Tables
pub mod Changes
pub mod Written
pub mod Fit
pub mod Owned
