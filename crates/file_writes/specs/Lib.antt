pub mod Removed
pub mod Vouchers
pub mod Bound
pub mod Statements
pub mod Asked
