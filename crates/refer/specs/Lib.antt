pub mod Refer
