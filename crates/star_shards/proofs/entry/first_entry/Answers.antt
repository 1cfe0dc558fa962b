use Rattle.std.proofs.Common.{◌≡◌, ℕ, List, Bor, drop, length, ap, sym, ◌∙◌}
use Rattle.std.specs.Option.{option_map}
use Rattle.star_shards.specs.Entries.{label_front, status_front}
use Rattle.star_shards.proofs.Entries.{is_member, no_entry}
use Rattle.star_shards.proofs.entry.first_entry.Goals as goal

pub returns-in_default-string_at-clause-none : goal.returns-in_default-string_at-clause-none
returns-in_default-string_at-clause-none c =
    let o = c.in-Some.object.text.now in
    let text = c.args.text.now in
    let found = is_member label_front o c.rest_of-members.result.now c.in-Some.object.keys.label (option_map (λ (t : Bor (List ℕ)). t.now) c.string_at.result) c.rest_of-members.ensures.value c.in-Some.ensures.label c.string_at.ensures in
    λ _ t rest it e. no_entry label_front text o (drop (length o) text) t rest c.in-Some.ensures.object c.in-Some.ensures.front it.object e
    (sym found ∙ ap (option_map (λ (s : Bor (List ℕ)). s.now)) c.in_default-string_at.is) it.label

pub returns-in_default-string_at-2-clause-none : goal.returns-in_default-string_at-2-clause-none
returns-in_default-string_at-2-clause-none c =
    let o = c.in-Some.object.text.now in
    let text = c.args.text.now in
    let found = is_member status_front o c.rest_of-members.result.now c.in-Some.object.keys.status (option_map (λ (t : Bor (List ℕ)). t.now) c.string_at-2.result) c.rest_of-members.ensures.value c.in-Some.ensures.status c.string_at-2.ensures in
    λ _ t rest it e. no_entry status_front text o (drop (length o) text) t rest c.in-Some.ensures.object c.in-Some.ensures.front it.object e
    (sym found ∙ ap (option_map (λ (s : Bor (List ℕ)). s.now)) c.in_default-string_at-2.is) it.status
