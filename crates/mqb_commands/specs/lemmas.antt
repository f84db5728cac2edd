pub mod Taking
pub mod Opening
