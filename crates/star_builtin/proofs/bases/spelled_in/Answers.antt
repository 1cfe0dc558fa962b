use Rattle.std.proofs.Common.{◌≡◌, Some, sym, ◌∙◌, rules}
use Rattle.std.specs.Option.{option_map}
use Rattle.star_store.specs.Arithmetic.{checked}
use Rattle.star_strings.specs.Ints.{int_in}
use Rattle.star_builtin.proofs.Held.{spelled_checked}
use Rattle.star_builtin.proofs.bases.spelled_in.Goals as goal

pub returns-in-Some : goal.returns-in-Some
returns-in-Some c =
    let h : Some (checked c.in-Some.int) ≡ option_map checked (int_in c.args.base c.args.text.now) = spelled_checked (int_in c.args.base c.args.text.now) c.in-Some.int (sym c.int_in.ensures ∙ c.in-Some.is) in
    rw (sym h) (search rules)
