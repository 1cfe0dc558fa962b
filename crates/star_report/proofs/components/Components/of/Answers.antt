use Rattle.std.proofs.Common.{arith, rules, ◌≡◌, ◌<◌, [], length, replicate, sym, subst, ap, ◌∙◌}
use Rattle.star_report.specs.declared.components.Mark.TheVariants.{New}
use Rattle.star_report.specs.Search.{IsSearch}
use Rattle.star_report.proofs.ComponentsAll.{are_components, begins}
use Rattle.star_report.proofs.components.Components.of.Goals as goal

pub loop-n-init : goal.loop-n-init
loop-n-init c =
    let row = c.args.reads.now.all.items in
    let marks : c.in_ok-search.search.marks.items ≡ replicate (length row) New = search rules in
    record {
      search = subst (λ m. IsSearch row m [] [] c.in_ok-search.search.count) (sym marks) (subst (IsSearch row (replicate (length row) New) [] []) (sym c.in_ok-search.ensures.count) (begins row));
      stack = c.in_ok-search.ensures.stack;
      path = c.in_ok-search.ensures.path;
      found = λ k less. absurd (let no : ⊥ = omega (arith, less) in no);
    }

pub returns : goal.returns
returns c =
    let row = c.args.reads.now.all.items in
    let end = c.loop-n-test.false in
    are_components row c.loop-n.search.marks.items c.loop-n.search.count c.loop-n.invariant.search (λ n less new. c.loop-n.invariant.found n (omega (arith, less, end)) new)
