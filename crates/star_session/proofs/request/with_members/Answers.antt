use Rattle.std.proofs.Common.{ap, string_bytes, ◌∙◌}
use Rattle.serde_json.specs.View.{view, members_view}
use Rattle.star_session.specs.Requests.{asked_by, with_members}
use Rattle.star_session.proofs.Asked.{members_done, members_next, members_refused, nothing_left}
use Rattle.star_session.proofs.request.with_members.Goals as goal

pub loop-name-preserved : goal.loop-name-preserved
loop-name-preserved c =
    let now = asked_by c.loop-name.request in
    record {
      asked = c.loop-name.invariant.asked
          ∙ ap (λ es. with_members c.args.origin now (members_view es)) c.in-Some.ensures.removal
          ∙ members_next c.args.origin now (asked_by c.take_member.new.request) (string_bytes c.in-Some.name) (view c.in-Some.value) (members_view c.pop_first.new.self.entries) c.in-Ok.ensures.ok;
      range = c.take_member.ensures.steps c.loop-name.invariant.range;
    }

pub returns-in-Err-clause-refused : goal.returns-in-Err-clause-refused
returns-in-Err-clause-refused c =
    let now = asked_by c.loop-name.request in
    members_refused c.args.origin (asked_by c.args.request) now (members_view c.args.members.entries) (string_bytes c.in-Some.name) (view c.in-Some.value) (members_view c.pop_first.new.self.entries) c.in-Err.error
    (c.loop-name.invariant.asked ∙ ap (λ es. with_members c.args.origin now (members_view es)) c.in-Some.ensures.removal) c.in-Err.ensures.refused

pub returns-clause-ok : goal.returns-clause-ok
returns-clause-ok c =
    let now = asked_by c.loop-name.request in
    let empty = nothing_left c.loop-name.members.entries c.in_default.ensures.variant.1 in
    c.loop-name.invariant.asked ∙ ap (λ es. with_members c.args.origin now (members_view es)) empty ∙ members_done c.args.origin now
