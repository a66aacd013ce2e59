mod Arrays
mod Bytes
mod Comments
mod Constants
mod Pieces
mod Room
mod Texts
