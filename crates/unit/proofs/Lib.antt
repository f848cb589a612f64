pub mod Exits
pub mod Asking
pub mod Changing
pub mod Building
pub mod Clearing
pub mod Making
