pub mod Sides
pub mod Svg
pub mod Laws
