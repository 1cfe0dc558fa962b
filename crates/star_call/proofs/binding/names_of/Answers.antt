use Rattle.std.proofs.Common.{ℕ, ◌+◌, ◌||◌, List, drop, ap, sym, ◌∙◌}
use Rattle.std.specs.List.{list_any}
use Rattle.star_outline.specs.Names.{same_name}
use Rattle.star_outline.specs.Syntax.{parameter}
use Rattle.star_meaning.specs.Binding.{keyword_of, keywords_of}
use Rattle.star_call.specs.Seen.{has}
use Rattle.star_call.proofs.Found.{no_name, one_name}
use Rattle.star_call.proofs.Seen.{drop_next}
use Rattle.star_call.proofs.binding.names_of.Goals as goal
use Rattle.star_call.proofs.binding.names_of.Goals.{in-Some+in_ok-insert, in_default}

pub loop-parameter-preserved : goal.loop-parameter-preserved
loop-parameter-preserved c =
    let ps = c.args.parameters.now in
    let i = c.loop-parameter.parameter-index in
    let p = c.parameter-item.result in
    let old = c.loop-parameter.names in
    let rest = keywords_of (drop (i + 1) ps) in
    let more = drop_next ps i p c.loop-parameter-test.true c.parameter-item.is in
    let before = λ (q : List ℕ). ap (λ l. has old q || list_any (same_name q) (keywords_of l)) (sym more) ∙ c.loop-parameter.invariant q in
    elim c.match-keyword_of.branch [
      | in-Some+in_ok-insert w ↦ λ q. ap (λ m. has m q || list_any (same_name q) rest) w.names-is
          ∙ one_name old w.insert.new.self w.in-Some.name (keyword_of (parameter p)) rest w.in-Some.ensures w.in_ok-insert.ensures.updates q ∙ before q
      | in_default w ↦ λ q. ap (λ m. has m q || list_any (same_name q) rest) w.names-is ∙ no_name old (keyword_of (parameter p)) rest w.in_default.ensures q ∙ before q
    ]
