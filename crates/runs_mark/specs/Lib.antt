pub mod SeveralGoes
pub mod FromAByte
pub mod PieceByPiece
pub mod BodyParts
