pub mod Tests
pub mod Anchors
pub mod Centres
