pub mod Piece
pub mod Facts
pub mod Calls
