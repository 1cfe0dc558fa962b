-- The values that are kept from one request to the next.
use Rattle.std.specs.Prelude.{List, Option, IfSome}
use Rattle.star_label.specs.Files.{File}
use Rattle.star_memo.specs.Outcomes.{AreOutcomes}
use Rattle.star_memo.specs.Parses.{AreKept}
use Rattle.star_memo.specs.Readings.{AreReadings}
use Rattle.star_session.specs.Answers.{IsReportOf}
use Rattle.star_session.specs.Requests.{question_of}
use Rattle.star_session.specs.declared.standing.Last.{Last}
use Rattle.star_session.specs.declared.standing.KeptValues.{KeptValues}
use Rattle.star_session.specs.declared.standing.Standing.{Standing}

-- the last report is a report of these files for its question
abbrev pub IsLast : List File → Option Last → Type 0
IsLast files last = IfSome last (λ l. IsReportOf files (question_of l.question) l.report.items)

-- the kept values are right for the files: the results of parsing their texts, the outcomes of those that ended well,
-- and the last report
pub record AreKeptFor (files : List File) (k : KeptValues) : Type 0 where
  pub parses : AreKept files k.parses.all.items
  pub outcomes : AreOutcomes files k.outcomes.terms.prelude k.outcomes.terms.mode k.outcomes.all.items
  pub last : IsLast files k.last

-- so are the results of reading them
pub record IsStanding (s : Standing) : Type 0 where
  pub kept : AreKeptFor s.files s.kept
  pub readings : AreReadings s.files s.readings
