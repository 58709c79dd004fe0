pub mod PieceLoop
