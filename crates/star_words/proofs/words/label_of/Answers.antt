use Rattle.std.proofs.Common.{◌≡◌, ◌∙◌, ◌&&◌, Some, None, true, false, ap, map, subst, sym, arith}
use Rattle.std.specs.Prelude.{Err, if◌then◌else◌}
use Rattle.std.specs.List.{list_all}
use Rattle.star_bundle.proofs.Members.{nothing_left}
use Rattle.star_label.specs.Label.{is_segment, joined, label_text, parts}
use Rattle.star_words.specs.Words.{Leads, folders_of, label_of_parts, led_by}
use Rattle.star_words.proofs.Paths.{first_out, walked, walked_to_name}
use Rattle.star_words.proofs.words.label_of.Goals as goal

pub returns-then-not-branch-clause-label : goal.returns-then-not-branch-clause-label
returns-then-not-branch-clause-label c =
    let led = subst (λ b. Leads (led_by (folders_of c.new-folders.result.items) (parts c.args.here.now)) b (folders_of c.enter_all.new.folders.items)) c.if-not-branch.true c.in_ok-enter_all.ensures in
    sym (first_out c.args.here.now c.args.path.now (subst (λ fs. led_by (folders_of fs) (parts c.args.here.now) ≡ None) c.new-folders.ensures.items led))

pub returns-then-not-branch-2-clause-label : goal.returns-then-not-branch-2-clause-label
returns-then-not-branch-2-clause-label c =
    let gs = c.enter_all.new.folders.items in
    let two = subst (λ b. Leads (led_by (folders_of gs) (parts c.args.path.now)) b (folders_of c.enter_all-2.new.folders.items)) c.if-not-branch-2.true c.in_ok-enter_all-2.ensures in
    sym (walked c.args.here.now c.args.path.now c.new-folders.result.items gs _ None c.new-folders.ensures.items c.if-not-branch.false c.in_ok-enter_all.ensures two)

pub returns-in_default-clause-label : goal.returns-in_default-clause-label
returns-in_default-clause-label c =
    let gs = c.enter_all.new.folders.items in
    let hs = c.enter_all-2.new.folders.items in
    let two = subst (λ b. Leads (led_by (folders_of gs) (parts c.args.path.now)) b (folders_of hs)) c.if-not-branch-2.false c.in_ok-enter_all-2.ensures in
    let none = nothing_left hs (λ h. absurd (omega (arith, h, c.in_default.ensures.cases.0, c.enter_all-2.new.folders.ok.0))) in
    sym (walked c.args.here.now c.args.path.now c.new-folders.result.items gs _ (Some (folders_of hs)) c.new-folders.ensures.items c.if-not-branch.false c.in_ok-enter_all.ensures two ∙ ap (λ fs. label_of_parts (folders_of fs)) none)

pub returns-in-Ok-clause-label : goal.returns-in-Ok-clause-label
returns-in-Ok-clause-label c =
    let left = c.pop.new.self.items in
    let last = walked_to_name c.args.here.now c.args.path.now c.new-folders.result.items c.enter_all.new.folders.items c.enter_all-2.new.folders.items left c.in-Some.name _ _ c.new-folders.ensures.items
    c.if-not-branch.false c.in_ok-enter_all.ensures c.if-not-branch-2.false c.in_ok-enter_all-2.ensures c.in-Some.ensures.items in
    let slice : map (λ f. f.now) c.as_slice.result.now ≡ folders_of left = ap folders_of c.as_slice.ensures.value in
    let yes : (list_all is_segment (folders_of left) && is_segment c.in-Some.name.now) ≡ true = subst (λ fs. (list_all is_segment fs && is_segment c.in-Some.name.now) ≡ true) slice c.in-Ok.ensures.segments in
    sym (last ∙ ap (λ b. if b then Some (label_text (joined (folders_of left)) c.in-Some.name.now) else None) yes
    ∙ ap Some (sym (c.in-Ok.ensures.label ∙ ap (λ fs. label_text (joined fs) c.in-Some.name.now) slice)))

pub returns-in-Err-BadLabel-clause-label : goal.returns-in-Err-BadLabel-clause-label
returns-in-Err-BadLabel-clause-label c =
    let left = c.pop.new.self.items in
    let last = walked_to_name c.args.here.now c.args.path.now c.new-folders.result.items c.enter_all.new.folders.items c.enter_all-2.new.folders.items left c.in-Some.name _ _ c.new-folders.ensures.items
    c.if-not-branch.false c.in_ok-enter_all.ensures c.if-not-branch-2.false c.in_ok-enter_all-2.ensures c.in-Some.ensures.items in
    let slice : map (λ f. f.now) c.as_slice.result.now ≡ folders_of left = ap folders_of c.as_slice.ensures.value in
    let no : (list_all is_segment (folders_of left) && is_segment c.in-Some.name.now) ≡ false =
    subst (λ fs. (list_all is_segment fs && is_segment c.in-Some.name.now) ≡ false) slice (c.in-Err-BadLabel.ensures.none (ap (λ e. Err e) c.in-Err-BadLabel.field-0-is)) in
    sym (last ∙ ap (λ b. if b then Some (label_text (joined (folders_of left)) c.in-Some.name.now) else None) no)
