use Rattle.std.proofs.Common.{◌||◌, ap, sym, ◌∙◌, rules}
use Rattle.std.specs.List.{list_any}
use Rattle.star_outline.specs.Names.{same_name}
use Rattle.star_meaning.specs.Texts.{characters}
use Rattle.star_method.specs.Sets.{has}
use Rattle.star_method.proofs.Found.{one_found}
use Rattle.star_method.proofs.characters.characters_of.Goals as goal

pub loop-first-preserved : goal.loop-first-preserved
loop-first-preserved c =
    let old = c.loop-first.found in
    record {
      rest = λ q. one_found old c.insert.new.self c.in-Some.first (characters c.in-Some.more.now) c.in_ok-insert.ensures.updates q
          ∙ ap (λ cs. has old q || list_any (same_name q) cs) (sym c.in-Some.ensures.0) ∙ c.loop-first.invariant.rest q;
      text = search rules;
    }
