pub mod Fresh
pub mod Models
pub mod Represents
pub mod Requests
pub mod Runs
pub mod Steps
