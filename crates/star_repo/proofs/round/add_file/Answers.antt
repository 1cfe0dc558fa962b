use Rattle.std.proofs.Common.{List, ℕ, inl, inr, subst, sym}
use Rattle.star_scope.specs.Loads.{written}
use Rattle.star_reading.specs.Parsed.{IsParsed}
use Rattle.star_repo.specs.Views.{IsNamed}
use Rattle.star_label.specs.Label.{package_of}
use Rattle.star_label.specs.View.{text_of}
use Rattle.star_repo.proofs.Loads.{loads_of_tree, no_loads}
use Rattle.star_repo.proofs.Settled.{on_ok}
use Rattle.star_repo.proofs.round.add_file.Goals as goal

pub returns-in-Ok : goal.returns-in-Ok
returns-in-Ok c =
    let tree = c.in-Ok.tree.now in
    let here = package_of (text_of c.args.label.now) in
    let to : (m : List ℕ) → IsNamed c.package.result.now (written c.as_slice.result.now) m → IsNamed here (written tree.statements) m =
    λ m h. subst (λ ss. IsNamed here (written ss) m) c.as_slice.ensures (subst (λ p. IsNamed p (written c.as_slice.result.now) m) c.package.ensures.value h) in
    let from : (m : List ℕ) → IsNamed here (written tree.statements) m → IsNamed c.package.result.now (written c.as_slice.result.now) m =
    λ m h. subst (λ p. IsNamed p (written c.as_slice.result.now) m) (sym c.package.ensures.value) (subst (λ ss. IsNamed here (written ss) m) (sym c.as_slice.ensures) h) in
    on_ok _ _ c.add_loads.result c.add_loads.ensures (λ h text is m.
    let parses = subst (IsParsed text) c.in-Ok.is is in
    let same = loads_of_tree here text tree m parses in (
      (λ i. elim ((h m).0 i) [ inl j ↦ inl j | inr j ↦ inr (same.0 (to m j)) ]),
      (λ i. (h m).1 (elim i [ inl j ↦ inl j | inr j ↦ inr (from m (same.1 j)) ])),
    ))

pub returns-in-Err : goal.returns-in-Err
returns-in-Err c = λ text is m.
    let parsed = subst (IsParsed text) c.in-Err.is is in
    ((λ i. inl i), (λ i. elim i [ inl j ↦ j | inr h ↦ absurd (no_loads _ text _ m parsed.0 parsed.1 h) ]))
