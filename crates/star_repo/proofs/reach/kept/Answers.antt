use Rattle.std.proofs.Common.{[], inl, inr, subst, sym}
use Rattle.std.specs.Map.{keys_of}
use Rattle.star_bundle.proofs.Members.{nothing_left}
use Rattle.star_repo.proofs.Kept.{AreKept, after_kept, kept_first, kept_more}
use Rattle.star_repo.proofs.Labels.{below_keys}
use Rattle.star_repo.proofs.reach.kept.Goals as goal

pub loop-label-init : goal.loop-label-init
loop-label-init c =
    subst (λ ts. AreKept c.args.looked.entries ts c.new-parses.result.items c.args.looked.entries) (sym c.new-texts.ensures.empty)
    (subst (λ ps. AreKept c.args.looked.entries [] ps c.args.looked.entries) (sym c.new-parses.ensures.items) (kept_first c.args.looked.entries))

pub loop-label-preserved : goal.loop-label-preserved
loop-label-preserved c =
    let first = c.args.looked.entries in
    let texts = c.loop-label.texts.entries in
    let parses = c.loop-label.parses.items in
    let left = c.pop_first.new.self.entries in
    let now = subst (AreKept first texts parses) c.in-Some.ensures.removal c.loop-label.invariant in
    kept_more first texts c.keep.new.texts.entries parses c.keep.new.parses.items c.in-Some.label c.in-Some.read left now
    (below_keys c.in-Some.label (keys_of left) c.in-Some.ensures.all_above) (c.in_ok-keep.ensures (after_kept first texts parses c.in-Some.label c.in-Some.read left now))

pub returns-clause-files : goal.returns-clause-files
returns-clause-files c =
    let none = nothing_left c.loop-label.looked.entries (λ h. c.in_default.ensures.variant.1 h) in
    let inv = subst (AreKept c.args.looked.entries c.loop-label.texts.entries c.loop-label.parses.items) none c.loop-label.invariant in
    λ l t. ((λ h. (inv.files l t).1 (inl h)), (λ h. elim ((inv.files l t).0 h) [ inl i ↦ i | inr i ↦ absurd i ]))
