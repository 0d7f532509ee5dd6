pub mod Given
pub mod Made
pub mod Order
pub mod Stack
pub mod UnderWay
pub mod Shown
