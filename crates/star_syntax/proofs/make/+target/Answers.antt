use Rattle.std.proofs.Common.{rules, ◌≡◌, [], ◌∷◌, ◌++◌, Some, None, ap, sym, ◌∙◌}
use Rattle.star_syntax.specs.Keeps.{target_of, targets_of, tuple_target, list_target}
use Rattle.star_syntax.proofs.Targets.{joined, last_some_of, no_deeper, target-Name, target-Index, target-Tuple, target-List}
use Rattle.star_syntax.proofs.make.+target.Goals as goal

pub target_of-returns-in-Name : goal.target_of-returns-in-Name
target_of-returns-in-Name t c = sym (ap target_of c.in-Name.is ∙ target-Name _)

pub target_of-returns-in-Index : goal.target_of-returns-in-Index
target_of-returns-in-Index t c = sym (ap target_of c.in-Index.is ∙ target-Index _ _)

pub target_of-returns-in-Some : goal.target_of-returns-in-Some
target_of-returns-in-Some t c =
    let e : targets_of c.in-Tuple.parts ≡ Some c.in-Some.targets = search rules in
    sym (ap target_of c.in-Tuple.is ∙ target-Tuple _ ∙ ap tuple_target e)

pub target_of-returns-in-None : goal.target_of-returns-in-None
target_of-returns-in-None t c =
    let e : targets_of c.in-Tuple.parts ≡ None = search rules in
    sym (ap target_of c.in-Tuple.is ∙ target-Tuple _ ∙ ap tuple_target e)

pub target_of-returns-in-Some-2 : goal.target_of-returns-in-Some-2
target_of-returns-in-Some-2 t c =
    let e : targets_of c.in-List.parts ≡ Some c.in-Some-2.targets = search rules in
    sym (ap target_of c.in-List.is ∙ target-List _ ∙ ap list_target e)

pub target_of-returns-in-None-2 : goal.target_of-returns-in-None-2
target_of-returns-in-None-2 t c =
    let e : targets_of c.in-List.parts ≡ None = search rules in
    sym (ap target_of c.in-List.is ∙ target-List _ ∙ ap list_target e)

pub targets_of-loop-part-preserved : goal.targets_of-loop-part-preserved
targets_of-loop-part-preserved t c =
    let popped : c.loop-part.parts ≡ c.pop.new.self ++ c.in-Some.part ∷ [] = search rules in
    let made : target_of c.in-Some.part ≡ Some c.in-Some-2.target = search rules in
    let pushed : c.push.new.self ≡ c.loop-part.found ++ c.in-Some-2.target ∷ [] = search rules in
    record {
      deep = no_deeper _ c.loop-part.parts c.pop.new.self c.in-Some.part _ popped c.loop-part.invariant.deep;
      same = c.loop-part.invariant.same ∙ ap (λ ps. joined (targets_of ps) c.loop-part.found) popped
          ∙ last_some_of c.pop.new.self c.in-Some.part c.in-Some-2.target c.loop-part.found made
          ∙ ap (λ fs. joined (targets_of c.pop.new.self) fs) (sym pushed);
    }
