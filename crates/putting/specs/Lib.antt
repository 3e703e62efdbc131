pub mod FrameBits
pub mod Putting
