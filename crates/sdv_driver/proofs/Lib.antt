pub mod EntryLaws
pub mod GraphLaws
pub mod LinesFound
pub mod Taken
