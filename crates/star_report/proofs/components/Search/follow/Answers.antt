use Rattle.std.proofs.Common.{◌≡◌, ◌<◌, length, sym, subst}
use Rattle.std.proofs.lemmas.Result.{on_ok_weaker}
use Rattle.star_report.specs.declared.components.Mark.TheVariants.{New, Open, Closed}
use Rattle.star_report.specs.Components.{mark_at}
use Rattle.star_report.specs.Search.{Enters, Pushes, load_of, went_on}
use Rattle.star_report.proofs.ComponentSteps.{goes_closed, goes_new, goes_open, read_mark}
use Rattle.star_report.proofs.components.Search.follow.Goals as goal

pub returns-in_ok-push-in-New : goal.returns-in_ok-push-in-New
returns-in_ok-push-in-New c =
    let old = c.args.self.now in
    let f = c.args.frame in
    let is = read_mark old.marks.items c.args.to c.index.result.now New c.requires.to c.index.ensures c.in-New.is in
    on_ok_weaker c.enter.result (λ by row was there same. (
    goes_new row f old c.push.new.self c.enter.new.self c.in_ok-push-in-New.ensures (subst (λ n. Enters c.push.new.self n c.enter.new.self) (sym same) by) was there (subst (λ n. mark_at old.marks.items n ≡ New) (sym same) is) (subst (λ n. n < length old.marks.items) (sym same) c.requires.to)
    )) c.enter.ensures

pub returns-in-Open : goal.returns-in-Open
returns-in-Open c =
    let old = c.args.self.now in
    let f = c.args.frame in
    let i = c.in-Open.place in
    let is = read_mark old.marks.items c.args.to c.index.result.now (Open i) c.requires.to c.index.ensures c.in-Open.is in
    on_ok_weaker c.push-in-Open.result (λ by row was there same. (
    goes_open row f old c.push-in-Open.new.self i (subst (λ low. Pushes old (went_on f low) c.push-in-Open.new.self) c.min.ensures by) was there (subst (λ n. mark_at old.marks.items n ≡ Open i) (sym same) is)
    )) c.push-in-Open.ensures

pub returns-in-Closed : goal.returns-in-Closed
returns-in-Closed c =
    let old = c.args.self.now in
    let f = c.args.frame in
    let k = c.in-Closed.field-0 in
    let is = read_mark old.marks.items c.args.to c.index.result.now (Closed k) c.requires.to c.index.ensures c.in-Closed.is in
    on_ok_weaker c.push-in-Closed.result (λ by row was there same. (
    goes_closed row f old c.push-in-Closed.new.self k by was there (subst (λ n. mark_at old.marks.items n ≡ Closed k) (sym same) is)
    )) c.push-in-Closed.ensures
