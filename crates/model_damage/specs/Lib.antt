pub mod Numbers
pub mod Rules
pub mod Told
pub mod Tests
