pub mod TieRule
pub mod Limits
pub mod Point
pub mod Facet
pub mod Indexed
pub mod BoundingBox
pub mod Winding
pub mod Touch
