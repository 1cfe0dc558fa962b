use Rattle.std.proofs.Common.{rules}
use Rattle.std.proofs.lemmas.Fn.{always_returns_same}
use Rattle.star_store.proofs.GlobalNames.{absent, asked, found}
use Rattle.star_store.proofs.globals.global_among.Goals as goal

pub returns-in-Ok : goal.returns-in-Ok
returns-in-Ok c =
    let r = c.in-Ok.ensures.position (asked c.args.name.now) (always_returns_same _ _ _ (λ a r f h. (search rules, search rules))) in
    found c.args.name.now c.args.globals.now c.in-Ok.at c.index-globals-at.result c.requires r c.in-Ok.ensures.bound

pub returns-in-Err : goal.returns-in-Err
returns-in-Err c =
    let r = c.in-Err.ensures.position (asked c.args.name.now) (always_returns_same _ _ _ (λ a r f h. (search rules, search rules))) in
    absent c.args.name.now c.args.globals.now c.in-Err._place c.requires r
