pub mod WrongEvent
