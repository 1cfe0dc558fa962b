use Rattle.std.proofs.Common.{ap, arith, not, refl, sym, ◌∙◌, ◌≡◌, length}
use Rattle.std.proofs.lemmas.Bool.Decides.{Decides-eqb}
use Rattle.std.proofs.lemmas.Slice.Eq.{slice_eq-Decides}
use Rattle.star_needs.proofs.Moves.{label_same}
use Rattle.star_memo.proofs.Staying.{labels_to}
use Rattle.star_memo.proofs.compared.have_labels.Goals as goal

pub returns-clause-labels : goal.returns-clause-labels
returns-clause-labels c = λ _.
    let size : length c.args.before.now ≡ length c.args.files.now = sym c.len.ensures.len ∙ c.if-len.false ∙ c.len-2.ensures.len in
    labels_to c.args.before.now c.args.files.now size
    (λ n less. c.loop-n.invariant n (omega (arith, less, size, c.len-n-end.ensures.len, c.loop-n-test.false)))

pub returns-then-ne-clause-same : goal.returns-then-ne-clause-same
returns-then-ne-clause-same c = λ same.
    let label = label_same c.args.before.now c.args.files.now same c.loop-n.n in
    let text : c.text.result.now ≡ c.text-in-loop-n.result.now = cc (c.text.ensures, c.label.ensures, label, c.label-in-loop-n.ensures, c.text-in-loop-n.ensures) in
    sym (c.ne.ensures ∙ ap not ((slice_eq-Decides Decides-eqb _ _ _ refl).1 text)) ∙ c.if-ne.true
