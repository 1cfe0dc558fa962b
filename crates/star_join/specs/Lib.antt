-- Joins of reports. In reading order: Join, Laws, Texts, Answers.
pub mod Join
pub mod Laws
pub mod Texts
pub mod Answers
