pub mod Values
pub mod Made
pub mod Pieces
pub mod OrderRows
pub mod WaitingRows
pub mod DoorRows
pub mod Rows
pub mod VoucherParts
