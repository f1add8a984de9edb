pub mod Entering
pub mod Order
pub mod Predecessors
pub mod Same
pub mod Holding
pub mod Tracking
pub mod Tours
