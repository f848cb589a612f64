pub mod Serving
pub mod Tracing
