use Rattle.std.proofs.Common.{◌+◌, ◌∙◌, ap, length, map, refl, subst, sym}
use Rattle.std.specs.Prelude.{All}
use Rattle.std.proofs.lemmas.List.{map_push}
use Rattle.std.proofs.lemmas.List.Elements.{All-push}
use Rattle.star_check.specs.Judged.{IsCheckBelow, IsJudgedBelow, IsVerdictBelow, judged_view}
use Rattle.star_check.specs.declared.verdict.Judged.{Judged}
use Rattle.star_check.proofs.Rows.{check_more, check_on, is_reached, not_reached}
use Rattle.star_check.proofs.judge.push_judged.Goals as goal

pub returns-in_ok-push-in-Some-clause-within : goal.returns-in_ok-push-in-Some-clause-within
returns-in_ok-push-in-Some-clause-within c = λ all.
    let count = length c.args.reads.now.all.items in
    let v = c.in_ok-verdict-in-Some.verdict in
    let j : Judged = record { file = c.args.n; verdict = v } in
    let below : IsVerdictBelow count v = subst (λ k. IsVerdictBelow k v) c.requires.causes c.in_ok-verdict-in-Some.ensures.within in
    subst (All (IsJudgedBelow count)) (sym c.in_ok-push-in-Some.ensures.items) (All-push (IsJudgedBelow count) c.args.all.now.items j all (c.requires.there, below))

pub returns-in_ok-push-in-Some-clause-check : goal.returns-in_ok-push-in-Some-clause-check
returns-in_ok-push-in-Some-clause-check c = λ files plan ps planned is has size are nexts below.
    let row = c.args.reads.now.all.items in
    let n = c.args.n in
    let old = c.args.all.now.items in
    let v = c.in_ok-verdict-in-Some.verdict in
    let j : Judged = record { file = n; verdict = v } in
    let at = c.in-Some.ensures in
    let reached = is_reached files row plan n c.in-Some.read.now planned is at in
    let verdict = c.in_ok-verdict-in-Some.ensures.verdict files plan ps planned is reached at has size are nexts in
    subst (IsCheckBelow plan (n + 1)) (sym (ap (map judged_view) c.in_ok-push-in-Some.ensures.items ∙ map_push judged_view old j)) (check_more plan n (map judged_view old) (judged_view j) refl reached verdict below)

pub returns-in-None-clause-check : goal.returns-in-None-clause-check
returns-in-None-clause-check c = λ files plan ps planned is has size are nexts below.
    check_on plan c.args.n (map judged_view c.args.all.now.items) (not_reached files c.args.reads.now.all.items plan c.args.n planned is c.in-None.ensures) below
