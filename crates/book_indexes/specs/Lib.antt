pub mod Digests
pub mod Keys
pub mod Indexes
