pub mod Picked
pub mod Absent
pub mod Ordered
pub mod Undue
pub mod ToldRows
pub mod WalkedRows
