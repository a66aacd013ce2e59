pub mod ClauseLaws
pub mod DriverLaws
pub mod PartLaws
pub mod TextLaws
