pub mod ReadingLaws
pub mod NamingLaws
