-- Check has the verdicts on files before any of them runs, and Text the text of a check. Judged has words of the
-- contracts.
pub mod Check
pub mod Text
pub mod Judged
