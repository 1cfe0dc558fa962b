use Rattle.std.proofs.Common.{◌≡◌, ◌∙◌, [], ◌∷◌, inl, inr, ap, refl, subst, sym}
use Rattle.star_tree.specs.declared.tree.Form.{out-Form}
use Rattle.star_tree.specs.declared.tree.Statement.{out-Statement}
use Rattle.star_label.specs.Label.{Reads, name_of, package_of}
use Rattle.star_label.specs.View.{text_of}
use Rattle.star_scope.specs.Loads.{Written, load_in, written_in}
use Rattle.star_scope.proofs.LoadStatements.{is_load}
use Rattle.star_words.specs.Rows.{IsIn}
use Rattle.star_repo.specs.Views.{labels_of}
use Rattle.star_repo.proofs.Labels.{key_from, key_to}
use Rattle.star_repo.proofs.Loads.{one_label}
use Rattle.star_repo.proofs.round.add_load.Goals as goal

pub returns-in_ok-insert-in-Ok : goal.returns-in_ok-insert-in-Ok
returns-in_ok-insert-in-Ok c =
    let here = c.args.package.now in
    let label = c.in-Ok.label in
    let w : Written = record { position = (out-Statement c.args.statement.now).position; module_string = c.in-Load.module_string; names = c.in-Load.names } in
    let whole : written_in c.args.statement.now ≡ w ∷ [] =
    ap (λ f. load_in (out-Statement c.args.statement.now).position (out-Form f)) c.in-Load.is ∙ is_load _ c.in-Load.module_string c.in-Load.names in
    let reads : Reads here w.module_string.text (package_of (text_of label)) (name_of (text_of label)) =
    subst (λ t. Reads here t (package_of (text_of label)) (name_of (text_of label))) c.as_str.ensures c.in-Ok.ensures.label in
    λ m. (
      (λ i. elim (key_from c.args.waiting.now.keys label m (subst (λ ks. IsIn m (labels_of ks)) c.in_ok-insert-in-Ok.ensures.keys i)) [
        | inl j ↦ inl j
        | inr e ↦ inr (w, subst (λ ws. IsIn w ws) (sym whole) (inl refl), package_of (text_of label), name_of (text_of label), reads, sym e ∙ c.in-Ok.ensures.normal)
      ]),
      (λ i. subst (λ ks. IsIn m (labels_of ks)) (sym c.in_ok-insert-in-Ok.ensures.keys) (key_to c.args.waiting.now.keys label m (elim i [
        | inl j ↦ inl j
        | inr (v, j, p, n, r, m_is) ↦ inr (elim (subst (λ ws. IsIn v ws) whole j) [
          | inl e ↦ c.in-Ok.ensures.normal ∙ one_label here w.module_string.text _ _ p n reads (subst (λ (u : Written). Reads here u.module_string.text p n) (sym e) r) ∙ sym m_is
          | inr k ↦ absurd k
        ])
      ]))),
    )
