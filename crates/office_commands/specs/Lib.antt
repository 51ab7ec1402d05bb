pub mod OfficeView
pub mod Told
