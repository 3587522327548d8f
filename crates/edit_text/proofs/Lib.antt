pub mod Narrow
pub mod Forms
pub mod Walks
pub mod Going
pub mod Relations
pub mod Clauses
