use Rattle.std.proofs.Common.{ℕ, sym, subst}
use Rattle.std.proofs.lemmas.Result.{IfOk-weaker}
use Rattle.std.specs.Option.{option_copied}
use Rattle.star_plan.specs.Reading.{IsPrelude}
use Rattle.star_reading.proofs.Known.{known_by}
use Rattle.star_reading.proofs.files.read_parsed.Goals as goal

pub read_by-requires-clause-known : goal.read_by-requires-clause-known
read_by-requires-clause-known g c =
    λ lives within. c.requires.known (option_copied c.as_ref.result) (subst (IsPrelude c.args.texts.files.now c.args.prelude) (sym c.as_ref.ensures.value) c.in_ok-block.ensures.prelude)

pub returns-clause-read : goal.returns-clause-read
returns-clause-read g c =
    let is = subst (IsPrelude c.args.texts.files.now c.args.prelude) (sym c.as_ref.ensures.value) c.in_ok-block.ensures.prelude in
    IfOk-weaker c.read_by.result _ _ (λ r all. (option_copied c.as_ref.result, is, all)) c.read_by.ensures.all

pub returns-clause-others : goal.returns-clause-others
returns-clause-others g c =
    let is = subst (IsPrelude c.args.texts.files.now c.args.prelude) (sym c.as_ref.ensures.value) c.in_ok-block.ensures.prelude in
    IfOk-weaker c.read_by.result _ _ (λ r right. known_by c.args.texts.files.now c.args.prelude c.args.texts.language.now (option_copied c.as_ref.result) r.others.items is right) c.read_by.ensures.others
