use Rattle.std.proofs.Common.{Ok, Err}
use Rattle.star_label.specs.Files.{text_at}
use Rattle.star_parser.specs.Sources.{Parses}
use Rattle.star_reading.specs.Parsed.{IsParsed}
use Rattle.star_reading.proofs.Plans.{prelude_faulty, prelude_sound}
use Rattle.star_reading.proofs.files.prelude_of.Goals as goal

pub returns-in_ok-prelude_over-in-Ok-clause-prelude : goal.returns-in_ok-prelude_over-in-Ok-clause-prelude
returns-in_ok-prelude_over-in-Ok-clause-prelude g c =
    let h : Parses (text_at c.args.texts.files.now c.args.n) (Ok c.in-Ok.tree.now) = rw c.in-Ok.is at c.in_ok-tree.ensures in
    prelude_sound c.args.texts.files.now c.args.n c.in-Ok.tree.now c.in_ok-prelude_over-in-Ok.field-0 h c.in_ok-prelude_over-in-Ok.ensures.file c.in_ok-prelude_over-in-Ok.ensures.names

pub returns-in_ok-prelude_over-in-Err-clause-prelude : goal.returns-in_ok-prelude_over-in-Err-clause-prelude
returns-in_ok-prelude_over-in-Err-clause-prelude g c =
    let h : IsParsed (text_at c.args.texts.files.now c.args.n) (Err c.in-Err.field-0) = rw c.in-Err.is at c.in_ok-tree.ensures in
    prelude_faulty c.args.texts.files.now c.args.n c.in-Err.field-0 c.in_ok-prelude_over-in-Err.field-0 h c.in_ok-prelude_over-in-Err.ensures.file c.in_ok-prelude_over-in-Err.ensures.names
