use Rattle.std.proofs.Common.{rules, ◌≡◌, ◌+◌, ◌*◌, ◌<◌, length, Some, None, arith}
use Rattle.star_syntax.specs.Statements.{file}
use Rattle.star_syntax.specs.Language.{reads}
use Rattle.star_syntax.proofs.Language.{answered, refused, refused_none}
use Rattle.star_parser.proofs.block.file_of.Goals as goal

pub returns-in_default : goal.returns-in_default
returns-in_default c =
    let none : reads (length c.args.leaves.now * 2 + 2) file c.args.leaves.now ≡ None = search rules in
    refused_none (length c.args.leaves.now * 2 + 2) c.args.leaves.now (omega arith) none

pub returns-then-is_empty : goal.returns-then-is_empty
returns-then-is_empty c =
    let some : reads (length c.args.leaves.now * 2 + 2) file c.args.leaves.now ≡ Some (c.in-Some.found, c.in-Some.rest.now) = search rules in
    let none : length c.in-Some.rest.now ≡ 0 = search rules in
    answered (length c.args.leaves.now * 2 + 2) c.args.leaves.now _ _ (omega arith) some none

pub returns-else-is_empty : goal.returns-else-is_empty
returns-else-is_empty c =
    let some : reads (length c.args.leaves.now * 2 + 2) file c.args.leaves.now ≡ Some (c.in-Some.found, c.in-Some.rest.now) = search rules in
    let more : 0 < length c.in-Some.rest.now = search rules in
    refused (length c.args.leaves.now * 2 + 2) c.args.leaves.now _ _ (omega arith) some more
