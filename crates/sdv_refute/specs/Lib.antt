pub mod Next
pub mod Refutes
pub mod Sight
pub mod Allows
pub mod WrongLine
pub mod Watched
pub mod Told
pub mod Tries
