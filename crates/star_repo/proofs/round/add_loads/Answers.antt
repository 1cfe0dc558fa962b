use Rattle.std.proofs.Common.{◌⊎◌, arith, inl, inr, subst, sym, take}
use Rattle.std.specs.Prelude.{◌↔◌}
use Rattle.std.proofs.lemmas.List.{take_all}
use Rattle.star_scope.specs.Loads.{written, written_in}
use Rattle.star_scope.proofs.LoadStatements.{written_more}
use Rattle.star_words.specs.Rows.{IsIn}
use Rattle.star_repo.specs.Views.{IsNamed, labels_of}
use Rattle.star_repo.proofs.Loads.{named_back, named_either, named_front}
use Rattle.star_repo.proofs.round.add_loads.Goals as goal

pub loop-statement-init : goal.loop-statement-init
loop-statement-init c = λ m. ((λ i. inl i), (λ i. elim i [ inl j ↦ j | inr h ↦ absurd h.1 ]))

pub loop-statement-preserved : goal.loop-statement-preserved
loop-statement-preserved c =
    let here = c.args.package.now in
    let before = written (take c.loop-statement.statement-index c.args.statements.now) in
    let own = written_in c.statement-item.result in
    let more = written_more c.args.statements.now c.loop-statement.statement-index c.statement-item.result c.loop-statement-test.true c.statement-item.is in
    λ m. (
      (λ i. elim ((c.in_ok-add_load.ensures m).0 i) [
        | inl j ↦ elim ((c.loop-statement.invariant m).0 j) [
          | inl k ↦ inl k
          | inr k ↦ inr (subst (λ ws. IsNamed here ws m) (sym more) (named_front here before own m k))
        ]
        | inr k ↦ inr (subst (λ ws. IsNamed here ws m) (sym more) (named_back here before own m k))
      ]),
      (λ i. (c.in_ok-add_load.ensures m).1 (elim i [
        | inl k ↦ inl ((c.loop-statement.invariant m).1 (inl k))
        | inr k ↦ elim (named_either here before own m (subst (λ ws. IsNamed here ws m) more k)) [
          | inl j ↦ inl ((c.loop-statement.invariant m).1 (inr j))
          | inr j ↦ inr j
        ]
      ])),
    )

pub returns : goal.returns
returns c =
    let all = take_all c.loop-statement.statement-index c.args.statements.now (omega (arith, c.loop-statement-test.false)) in
    λ m. subst (λ ss. IsIn m (labels_of c.loop-statement.waiting.keys) ↔ (IsIn m (labels_of c.args.waiting.now.keys) ⊎ IsNamed c.args.package.now (written ss) m)) all (c.loop-statement.invariant m)
