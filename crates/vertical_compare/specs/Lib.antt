pub mod Ends
pub mod BinaryDigits
pub mod BeforeThePlanes
pub mod OnePlaneMore
pub mod AfterAllPlanes
pub mod Lanes
