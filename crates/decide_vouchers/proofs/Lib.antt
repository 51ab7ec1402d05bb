pub mod Unlike
pub mod Passed
pub mod Limited
pub mod OwnCodes
pub mod Made
pub mod Changed
pub mod Deleted
pub mod Imports
