use Rattle.std.proofs.Common.{rules, arith, ◌≡◌, ◌++◌, ◌∷◌, [], ◌∙◌, length}
use Rattle.star_frames.proofs.Heads.{first_line, second_line, some_of}
use Rattle.star_frames.proofs.frame.next_header.Goals as goal

pub returns-in_ok-header_in-in-Some-clause-length : goal.returns-in_ok-header_in-in-Some-clause-length
returns-in_ok-header_in-in-Some-clause-length g c content rest small was =
    let facts = some_of c.in_ok-line.field-0 c.in-Some.line _ _ c.in-Some.is c.in_ok-line.ensures in
    let r = first_line (g.R.Read.remaining c.args.reader.now) (g.R.Read.remaining c.read_line.new.reader) c.in-Some.line.items content rest (omega arith) was facts.0 facts.1 in
    search (rules, c.in_ok-header_in-in-Some.ensures.length (length content) small (c.as_slice.ensures.value ∙ r.0), r.1)

pub returns-in_ok-header_in-in-Some-clause-end : goal.returns-in_ok-header_in-in-Some-clause-end
returns-in_ok-header_in-in-Some-clause-end g c rest was =
    let facts = some_of c.in_ok-line.field-0 c.in-Some.line _ _ c.in-Some.is c.in_ok-line.ensures in
    let r = second_line (g.R.Read.remaining c.args.reader.now) (g.R.Read.remaining c.read_line.new.reader) c.in-Some.line.items rest was facts.0 facts.1 in
    search (rules, c.in_ok-header_in-in-Some.ensures.end (c.as_slice.ensures.value ∙ r.0), r.1)
