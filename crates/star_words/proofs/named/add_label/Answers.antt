use Rattle.std.proofs.Common.{inl, inr, refl, sym, subst, ◌∙◌}
use Rattle.star_words.specs.Named.{labels_of}
use Rattle.star_words.specs.Rows.{IsIn}
use Rattle.star_bundle.proofs.Labels.{is_some_label}
use Rattle.star_words.proofs.Members.{key_from, key_to}
use Rattle.star_words.proofs.named.add_label.Goals as goal

pub returns-clause-added : goal.returns-clause-added
returns-clause-added c = λ _ m.
    let label = c.in-Some.label in
    let is = is_some_label c.args.text.now c.args.text.now c.in_ok-label.field-0 label c.in_ok-label.ensures c.in-Some.is refl in
    let keys = c.in_ok-insert.ensures.keys in (
      (λ i. elim (key_from c.args.labels.now.keys label m (subst (λ ks. IsIn m (labels_of ks)) keys i)) [
        | inl j ↦ inl j
        | inr e ↦ inr (sym e ∙ is.1)
      ]),
      (λ i. subst (λ ks. IsIn m (labels_of ks)) (sym keys) (key_to c.args.labels.now.keys label m (elim i [
        | inl j ↦ inl j
        | inr e ↦ inr (is.1 ∙ sym e)
      ]))),
    )
