pub mod PieceSets
