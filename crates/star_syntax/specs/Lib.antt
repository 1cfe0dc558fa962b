-- The grammar as a table, and its reading. In reading order: Leaves, Sorts, Grammar, Expressions, Statements, Language.
pub mod Sorts
pub mod Grammar
pub mod Keeps
pub mod Expressions
pub mod Statements
pub mod Language
pub mod Alone
pub mod Leaves
pub mod Names
pub mod Laws
pub mod Written
pub mod InOrder
