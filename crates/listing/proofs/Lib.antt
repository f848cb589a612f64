pub mod Counting
pub mod Finding
pub mod Joining
pub mod Loading
pub mod Pieces
pub mod Walking
