pub mod FrontLaws
pub mod WrittenLaws
