use Rattle.std.proofs.Common.{◌+◌, ◌-◌, ◌++◌, string_bytes, ap, sym, ◌∙◌}
use Rattle.std.proofs.lemmas.List.{append_assoc}
use Rattle.star_store.specs.Json.{times}
use Rattle.star_visit.proofs.Sheets.{times_next}
use Rattle.star_visit.proofs.line.put_line.Goals as goal

pub loop-i-preserved : goal.loop-i-preserved
loop-i-preserved c =
    let i = c.loop-i._i in
    let rest = times (c.args.depth - (i + 1)) c.args.indent.now in
    ap (λ o. o ++ rest) c.in_ok-push_str-2.ensures.bytes ∙ append_assoc (string_bytes c.loop-i.out) c.args.indent.now rest
    ∙ ap (λ k. string_bytes c.loop-i.out ++ k) (sym (times_next c.args.depth i c.args.indent.now c.loop-i-test.true))
    ∙ c.loop-i.invariant
