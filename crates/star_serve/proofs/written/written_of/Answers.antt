use Rattle.std.proofs.Common.{subst, sym}
use Rattle.star_serve.specs.Written.{IsRunOf}
use Rattle.star_serve.proofs.WrittenTexts.{if_ok-map}
use Rattle.star_serve.proofs.written.written_of.Goals as goal

pub returns-in-Global-clause-text : goal.returns-in-Global-clause-text
returns-in-Global-clause-text g c =
    let row = c.args.reads.now.all.items in
    if_ok-map c.globals_written.result (λ w h plan of. rw c.in-Global.is (h row plan (subst (λ roots. IsRunOf c.args.job.now.asked.now.files roots row c.args.run.now plan) (sym c.as_slice-roots.ensures.value) of))) c.globals_written.ensures.text

pub returns-in-Global-clause-said : goal.returns-in-Global-clause-said
returns-in-Global-clause-said g c =
    let row = c.args.reads.now.all.items in
    if_ok-map c.globals_written.result (λ w h plan of. rw c.in-Global.is (h row plan (subst (λ roots. IsRunOf c.args.job.now.asked.now.files roots row c.args.run.now plan) (sym c.as_slice-roots.ensures.value) of))) c.globals_written.ensures.said

pub returns-in-Calls-clause-text : goal.returns-in-Calls-clause-text
returns-in-Calls-clause-text g c =
    let row = c.args.reads.now.all.items in
    if_ok-map c.calls_written.result (λ w h plan of. rw c.in-Calls.is (h row plan (subst (λ roots. IsRunOf c.args.job.now.asked.now.files roots row c.args.run.now plan) (sym c.as_slice-roots.ensures.value) of))) c.calls_written.ensures.text

pub returns-in-Calls-clause-said : goal.returns-in-Calls-clause-said
returns-in-Calls-clause-said g c =
    let row = c.args.reads.now.all.items in
    if_ok-map c.calls_written.result (λ w h plan of. rw c.in-Calls.is (h row plan (subst (λ roots. IsRunOf c.args.job.now.asked.now.files roots row c.args.run.now plan) (sym c.as_slice-roots.ensures.value) of))) c.calls_written.ensures.said

pub returns-in-Graph-clause-text : goal.returns-in-Graph-clause-text
returns-in-Graph-clause-text g c =
    if_ok-map c.graph_written.result (λ w h plan of. rw c.in-Graph.is (h c.args.job.now.asked.now.roots.items plan of)) c.graph_written.ensures.text

pub returns-in-Graph-clause-said : goal.returns-in-Graph-clause-said
returns-in-Graph-clause-said g c =
    if_ok-map c.graph_written.result (λ w h plan of. rw c.in-Graph.is (h plan)) c.graph_written.ensures.said

pub returns-in-Report-clause-said : goal.returns-in-Report-clause-said
returns-in-Report-clause-said g c =
    if_ok-map c.report_written.result (λ w h plan of. rw c.in-Report.is (h plan)) c.report_written.ensures.said

pub returns-in-Check-clause-text : goal.returns-in-Check-clause-text
returns-in-Check-clause-text g c =
    let row = c.args.reads.now.all.items in
    if_ok-map c.check_written.result (λ w h plan of. rw c.in-Check.is (h c.args.run.now plan (subst (λ roots. IsRunOf c.args.job.now.asked.now.files roots row c.args.run.now plan) (sym c.as_slice-roots.ensures.value) of))) c.check_written.ensures.text

pub returns-in-Check-clause-said : goal.returns-in-Check-clause-said
returns-in-Check-clause-said g c =
    if_ok-map c.check_written.result (λ w h plan of. rw c.in-Check.is (h plan)) c.check_written.ensures.said
