pub mod Carrying
pub mod Firsts
pub mod Judging
pub mod Passing
pub mod Placing
pub mod Matching
pub mod Testing
pub mod Verdicts
