use Rattle.std.proofs.Common.{◌≡◌, true, false, ap, arith, sym, ◌∙◌}
use Rattle.std.specs.Prelude.{codes}
use Rattle.std.specs.Str.{bytes_eq}
use Rattle.std.proofs.lemmas.Slice.Eq.{bytes_eq-Decides}
use Rattle.star_shards.specs.Lines.{front}
use Rattle.star_shards.proofs.Fronts.{check_front}
use Rattle.star_shards.proofs.Bools.{apart}
use Rattle.star_shards.proofs.line.kind_of.Goals as goal

pub returns-then-count-eq0 : goal.returns-then-count-eq0
returns-then-count-eq0 c =
    ((bytes_eq-Decides c.args.bytes.now (codes "{\"begun\":0,\"modules\":[")).0 (sym c.eq.ensures ∙ c.if-eq.true) ∙ sym check_front, omega (arith, c.if-count-eq0.true))

pub returns-then-eq : goal.returns-then-eq
returns-then-eq c =
    ((bytes_eq-Decides c.args.bytes.now (codes "{\"begun\":0,\"modules\":[")).0 (sym c.eq.ensures ∙ c.if-eq.true) ∙ sym check_front, λ e. absurd (omega (arith, e, c.if-count-eq0.false)))

pub returns-then-eq-2 : goal.returns-then-eq-2
returns-then-eq-2 c =
    let bytes = c.args.bytes.now in
    let check = codes "{\"begun\":0,\"modules\":[" in
    let same : bytes ≡ front c.args.count = (bytes_eq-Decides bytes c.as_slice.result.now).0 (sym c.eq-2.ensures ∙ c.if-eq-2.true) ∙ c.as_slice.ensures.value ∙ c.in_ok-front.ensures in
    (same, λ e. apart (bytes_eq bytes check) ((bytes_eq-Decides bytes check).1 (same ∙ ap front e ∙ check_front)) (sym c.eq.ensures ∙ c.if-eq.false))

pub returns : goal.returns
returns c =
    let bytes = c.args.bytes.now in
    let check = codes "{\"begun\":0,\"modules\":[" in (
      λ e. apart (bytes_eq bytes c.as_slice.result.now) ((bytes_eq-Decides bytes c.as_slice.result.now).1 (e ∙ sym (c.as_slice.ensures.value ∙ c.in_ok-front.ensures))) (sym c.eq-2.ensures ∙ c.if-eq-2.false),
      λ e. apart (bytes_eq bytes check) ((bytes_eq-Decides bytes check).1 (e ∙ check_front)) (sym c.eq.ensures ∙ c.if-eq.false),
    )
