use Rattle.std.proofs.Common.{◌≡◌, ◌+◌, ◌<◌, ◌^◌, length, drop, take, inl, inr, refl, ap, arith, sym, ◌∙◌, subst}
use Rattle.std.specs.Prelude.{Vec, option_map}
use Rattle.std.specs.declared.alloc.Global.{Global}
use Rattle.std.proofs.lemmas.List.{length-map, take_rest}
use Rattle.star_shards.specs.Read.{AreOfRow, IsKind, texts}
use Rattle.star_shards.specs.declared.entry.Entry.{Entry}
use Rattle.star_shards.proofs.Fronts.{found_bracket, is_report, no_bracket, of_neither}
use Rattle.star_shards.proofs.line.read_line.Goals as goal

pub returns-in_default-clause-none : goal.returns-in_default-clause-none
returns-in_default-clause-none c = λ _ r report. no_bracket c.args.line.now r c.in_default.ensures report

pub returns-in_default-2-clause-none : goal.returns-in_default-2-clause-none
returns-in_default-2-clause-none c =
    let line = c.args.line.now in
    let at = c.in-Some.at in
    let small : length line < 2 ^ 63 = omega arith in
    let rows = subst (λ o. AreOfRow (drop (at + 1) line) (option_map (λ (v : Vec Entry Global). v.items) o)) c.in_default-2.is
    (subst (λ w. AreOfRow w (option_map (λ (v : Vec Entry Global). v.items) c.in_ok-entries.field-0)) (take_rest line (at + 1)) c.in_ok-entries.ensures) in
    λ _ r report. rows r.entries (found_bracket line at r small c.in-Some.ensures report).row

pub returns-in-Run-clause-some : goal.returns-in-Run-clause-some
returns-in-Run-clause-some c =
    let line = c.args.line.now in
    let at = c.in-Some.at in
    let es = c.in-Some-2.entries.items in
    let count = length c.as_slice-row.result.now in
    let rows = subst (λ o. AreOfRow (drop (at + 1) line) (option_map (λ (v : Vec Entry Global). v.items) o)) c.in-Some-2.is
    (subst (λ w. AreOfRow w (option_map (λ (v : Vec Entry Global). v.items) c.in_ok-entries.field-0)) (take_rest line (at + 1)) c.in_ok-entries.ensures) in
    let kind = subst (IsKind (take (at + 1) line) count) c.in-Run.is c.in_ok-kind.ensures in
    let size : count ≡ length (texts es) = ap length c.as_slice-row.ensures.value ∙ sym (length-map es (λ (e : Entry). e.text.now)) in
    (record { begun = count; entries = texts es }, is_report line at count (texts es) rows.0 kind.0 (inl size), refl, rows.1, size, kind.1)

pub returns-in-Check-clause-some : goal.returns-in-Check-clause-some
returns-in-Check-clause-some c =
    let line = c.args.line.now in
    let at = c.in-Some.at in
    let es = c.in-Some-2.entries.items in
    let count = length c.as_slice-row.result.now in
    let rows = subst (λ o. AreOfRow (drop (at + 1) line) (option_map (λ (v : Vec Entry Global). v.items) o)) c.in-Some-2.is
    (subst (λ w. AreOfRow w (option_map (λ (v : Vec Entry Global). v.items) c.in_ok-entries.field-0)) (take_rest line (at + 1)) c.in_ok-entries.ensures) in
    let kind = subst (IsKind (take (at + 1) line) count) c.in-Check.is c.in_ok-kind.ensures in
    let size : count ≡ length (texts es) = ap length c.as_slice-row.ensures.value ∙ sym (length-map es (λ (e : Entry). e.text.now)) in
    (record { begun = 0; entries = texts es }, is_report line at 0 (texts es) rows.0 kind.0 (inr refl), refl, rows.1, λ e. kind.1 (size ∙ sym e), refl)

pub returns-in-Empty-clause-some : goal.returns-in-Empty-clause-some
returns-in-Empty-clause-some c =
    let line = c.args.line.now in
    let at = c.in-Some.at in
    let es = c.in-Some-2.entries.items in
    let count = length c.as_slice-row.result.now in
    let rows = subst (λ o. AreOfRow (drop (at + 1) line) (option_map (λ (v : Vec Entry Global). v.items) o)) c.in-Some-2.is
    (subst (λ w. AreOfRow w (option_map (λ (v : Vec Entry Global). v.items) c.in_ok-entries.field-0)) (take_rest line (at + 1)) c.in_ok-entries.ensures) in
    let kind = subst (IsKind (take (at + 1) line) count) c.in-Empty.is c.in_ok-kind.ensures in
    let size : count ≡ length (texts es) = ap length c.as_slice-row.ensures.value ∙ sym (length-map es (λ (e : Entry). e.text.now)) in
    (record { begun = 0; entries = texts es }, is_report line at 0 (texts es) rows.0 kind.0 (inr refl), refl, rows.1, sym kind.1 ∙ size, refl)

pub returns-clause-none : goal.returns-clause-none
returns-clause-none c =
    let line = c.args.line.now in
    let at = c.in-Some.at in
    let es = c.in-Some-2.entries.items in
    let count = length c.as_slice-row.result.now in
    let small : length line < 2 ^ 63 = omega arith in
    let rows = subst (λ o. AreOfRow (drop (at + 1) line) (option_map (λ (v : Vec Entry Global). v.items) o)) c.in-Some-2.is
    (subst (λ w. AreOfRow w (option_map (λ (v : Vec Entry Global). v.items) c.in_ok-entries.field-0)) (take_rest line (at + 1)) c.in_ok-entries.ensures) in
    let kind = subst (IsKind (take (at + 1) line) count) c.in-Neither.is c.in_ok-kind.ensures in
    let size : count ≡ length (texts es) = ap length c.as_slice-row.ensures.value ∙ sym (length-map es (λ (e : Entry). e.text.now)) in
    λ _ r report. of_neither line at count (texts es) r small c.in-Some.ensures rows.0 size kind.0 kind.1 report
