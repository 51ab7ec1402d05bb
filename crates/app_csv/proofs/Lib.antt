pub mod Utf8
pub mod Said
pub mod OneReading
pub mod Numbered
