pub mod Lengths
pub mod Progress
pub mod Unique
pub mod Profile
pub mod NoFault
pub mod OneFault
