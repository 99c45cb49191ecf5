pub mod Serving
pub mod Refusing
