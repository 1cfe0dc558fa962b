use Rattle.std.proofs.Common.{◌≡◌, ◌∙◌, ◌⊎◌, List, ℕ, false, true, ap, subst, string_bytes, arith}
use Rattle.std.specs.Prelude.{◌↔◌}
use Rattle.std.proofs.lemmas.List.{take_all}
use Rattle.star_bundle.specs.Bundle.{is_label}
use Rattle.star_words.specs.Named.{AllLabels, labels_of, texts_of}
use Rattle.star_words.specs.Rows.{IsIn}
use Rattle.star_words.proofs.Labels.{all_next, are_next}
use Rattle.star_words.proofs.Members.{in_map, item_in}
use Rattle.star_words.proofs.named.root_labels.Goals as goal

pub returns-then-not-branch : goal.returns-then-not-branch
returns-then-not-branch c =
    let text = string_bytes c.root-item.result in
    let no : is_label text ≡ false = subst (λ t. is_label t ≡ false) c.as_str.ensures.value (c.in_ok-add_label.ensures.is ∙ c.if-not-branch.true) in
    (text, in_map string_bytes c.args.roots.now c.root-item.result (item_in c.args.roots.now c.loop-root.root-index c.root-item.result c.loop-root-test.true c.root-item.is), no)

pub loop-root-preserved : goal.loop-root-preserved
loop-root-preserved c =
    let item = c.root-item.result in
    let is : is_label (string_bytes item) ≡ true = subst (λ t. is_label t ≡ true) c.as_str.ensures.value (c.in_ok-add_label.ensures.is ∙ c.if-not-branch.false) in
    let added = subst (λ t. (m : List ℕ) → IsIn m (labels_of c.add_label.new.labels.keys) ↔ (IsIn m (labels_of c.loop-root.labels.keys) ⊎ (m ≡ t))) c.as_str.ensures.value (c.in_ok-add_label.ensures.added c.if-not-branch.false) in
    record {
      all = all_next c.args.roots.now c.loop-root.root-index item c.loop-root-test.true c.root-item.is c.loop-root.invariant.all is;
      are = are_next c.args.roots.now c.loop-root.root-index item c.loop-root-test.true c.root-item.is (labels_of c.loop-root.labels.keys) (labels_of c.add_label.new.labels.keys) c.loop-root.invariant.are added;
    }

pub returns : goal.returns
returns c =
    let all = ap texts_of (take_all c.loop-root.root-index c.args.roots.now (omega (arith, c.loop-root-test.false))) in
    (subst AllLabels all c.loop-root.invariant.all, λ l. subst (λ ts. IsIn l (labels_of c.loop-root.labels.keys) ↔ IsIn l ts) all (c.loop-root.invariant.are l))
