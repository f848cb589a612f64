pub mod Disks
pub mod Held
pub mod Interleave
pub mod Sectoring
pub mod Records
pub mod Inverse
