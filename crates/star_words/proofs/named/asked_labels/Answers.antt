use Rattle.std.proofs.Common.{◌∙◌, List, ℕ, Some, Bor, String, Global, subst, sym, string_bytes}
use Rattle.std.specs.Prelude.{option_map}
use Rattle.star_words.specs.Named.{AreAsked, labels_of, texts_of}
use Rattle.star_words.proofs.Labels.{with_prelude, without_prelude}
use Rattle.star_words.proofs.named.asked_labels.Goals as goal

abbrev bytes : Bor (String Global) → List ℕ
bytes p = string_bytes p.now

pub returns-in_default-prelude-clause-asked : goal.returns-in_default-prelude-clause-asked
returns-in_default-prelude-clause-asked c =
    let roots = rw c.in-Some.is at c.in_ok-labels.ensures in
    subst (λ o. AreAsked (texts_of c.args.roots.now) (option_map bytes o) (labels_of c.in-Some.labels.keys)) (sym c.in_default-prelude.is)
    (without_prelude (texts_of c.args.roots.now) (labels_of c.in-Some.labels.keys) roots.0 roots.1)

pub returns-clause-asked : goal.returns-clause-asked
returns-clause-asked c =
    let roots = rw c.in-Some.is at c.in_ok-labels.ensures in
    let text = string_bytes c.in-Some-prelude.prelude.now in
    let is = c.in_ok-add_label.ensures.is ∙ c.if-not-branch.false in
    let added = c.in_ok-add_label.ensures.added c.if-not-branch.false in
    let whole = with_prelude (texts_of c.args.roots.now) (labels_of c.in-Some.labels.keys) (labels_of c.add_label.new.labels.keys) c.as_str.result.now roots.0 is roots.1 added in
    subst (λ o. AreAsked (texts_of c.args.roots.now) (option_map bytes o) (labels_of c.add_label.new.labels.keys)) (sym c.in-Some-prelude.is)
    (subst (λ t. AreAsked (texts_of c.args.roots.now) (Some t) (labels_of c.add_label.new.labels.keys)) c.as_str.ensures.value whole)
