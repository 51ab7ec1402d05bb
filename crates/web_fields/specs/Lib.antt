pub mod Reading
pub mod Modes
pub mod Kinds
pub mod Lists
pub mod Lacking
pub mod Patched
