pub mod ToldApart
pub mod Colons
pub mod FlowApart
