use Rattle.std.proofs.Common.{ap, sym, ◌∙◌, arith}
use Rattle.std.specs.Ordering.{is_lt, nat_cmp}
use Rattle.std.specs.Cmp.Lexicographic.{slice_cmp}
use Rattle.star_store.proofs.GlobalNames.{before_none, before_some}
use Rattle.star_store.proofs.globals.is_before.Goals as goal

pub returns-in-empty : goal.returns-in-empty
returns-in-empty c = λ t s. before_none c.args.name.now c.args.others.now (omega (arith, c.in-empty.len_below))

pub returns-in-len1-up : goal.returns-in-len1-up
returns-in-len1-up c = λ t s.
    before_some c.args.name.now c.args.others.now c.next-item.result (omega (arith, c.in-len1-up.len_at_least)) c.next-item.is
    (sym (ap (λ k. is_lt (slice_cmp nat_cmp c.args.name.now k)) c.as_str.ensures.value) ∙ sym c.lt.ensures ∙ t) s
