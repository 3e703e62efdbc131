pub mod Bit
pub mod Put
