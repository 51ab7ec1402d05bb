pub mod Machine
mod Steps
