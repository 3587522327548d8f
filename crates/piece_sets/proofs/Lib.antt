pub mod PieceOrder
