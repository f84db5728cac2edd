pub mod Put
pub mod Words
pub mod FieldsAgain
pub mod HeadsAgain
pub mod UserAgain
pub mod PropsAgain
pub mod ReadLaws
