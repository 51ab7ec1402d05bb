pub mod Tables
pub mod Rising
pub mod Slots
