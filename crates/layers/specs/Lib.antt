pub mod Windows
pub mod Joints
