pub mod Changes
pub mod FileViews
pub mod History
pub mod TraceViews
pub mod Views
