pub mod Words
pub mod Fault
pub mod Reading
pub mod Answer
pub mod Writing
pub mod Header
pub mod Refused
pub mod Text
