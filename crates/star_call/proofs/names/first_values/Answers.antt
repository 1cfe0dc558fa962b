use Rattle.std.proofs.Common.{◌≡◌, ℕ, ◌+◌, List, drop, true, false, ap, sym, ◌∙◌}
use Rattle.std.specs.Option.{is_some}
use Rattle.star_meaning.specs.Binding.{else_default, value_named}
use Rattle.star_call.specs.Found.{value_in}
use Rattle.star_call.proofs.Found.{one_kept, one_put}
use Rattle.star_call.proofs.Seen.{drop_next}
use Rattle.star_call.proofs.names.first_values.Goals as goal
use Rattle.star_call.proofs.names.first_values.Goals.{then-not-contains_key+in_ok-insert, else-not-contains_key}

pub loop-value-preserved : goal.loop-value-preserved
loop-value-preserved c =
    let i = c.loop-value.value-index in
    let n = c.value-item.result in
    let name = c.as_str-name.result in
    let old = c.loop-value.first in
    let rest = drop (i + 1) c.args.named.now in
    let more = drop_next c.args.named.now i n c.loop-value-test.true c.value-item.is in
    let before = λ (q : List ℕ). ap (λ ns. else_default (value_in old q) (value_named q ns)) (sym more) ∙ c.loop-value.invariant q in
    elim c.if-not-contains_key.branch [
      | then-not-contains_key+in_ok-insert w ↦
          let absent : is_some (value_in old name.now) ≡ false = sym c.contains_key.ensures ∙ w.if-not-contains_key.true in
          λ q. ap (λ m. else_default (value_in m q) (value_named q rest)) w.first-is ∙ one_put old w.insert.new.self name n rest c.as_str-name.ensures absent w.in_ok-insert.ensures.updates q ∙ before q
      | else-not-contains_key w ↦
          let there : is_some (value_in old name.now) ≡ true = sym c.contains_key.ensures ∙ w.if-not-contains_key.false in
          λ q. ap (λ m. else_default (value_in m q) (value_named q rest)) w.first-is ∙ one_kept old name n rest c.as_str-name.ensures there q ∙ before q
    ]
