pub mod Cutting
pub mod Positions
pub mod FacetOrder
pub mod NodeOrder
pub mod Nodes
