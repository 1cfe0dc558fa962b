use Rattle.std.proofs.Common.{rules, ◌≡◌, ◌∙◌, ◌++◌, ◌∷◌, [], ap, append_assoc, false, sym, true}
use Rattle.json.specs.Print.{quoted}
use Rattle.serde_json.specs.Written.{comma_if}
use Rattle.star_report.specs.Texts.{joined_members}
use Rattle.star_report.proofs.Members.{one_on}
use Rattle.star_report.proofs.more.with_object.Goals as goal

pub loop-name-init : goal.loop-name-init
loop-name-init c =
    let es = c.args.members.now.entries in
    let all : c.into_iter-name-iterator.result ≡ es = search rules in
    let was : c.push.new.self.items ≡ c.args.text.items ++ 123 ∷ [] = search rules in
    ap (λ left. c.push.new.self.items ++ joined_members false left) all ∙ (ap (λ t. t ++ joined_members false es) was ∙ append_assoc c.args.text.items (123 ∷ []) (joined_members false es))

pub loop-name-preserved : goal.loop-name-preserved
loop-name-preserved c =
    let left = c.next.new.self in
    let now : c.in_ok-text.text.items ≡ c.loop-name.text.items ++ (comma_if c.loop-name.later ++ (quoted c.in-Some.name.now.now ++ 58 ∷ c.in-Some.json.now.items)) = search rules in
    one_on c.loop-name.text.items (comma_if c.loop-name.later) (quoted c.in-Some.name.now.now) c.in-Some.json.now.items (joined_members true left) c.in_ok-text.text.items now
    ∙ (ap (λ es. c.loop-name.text.items ++ joined_members c.loop-name.later es) (sym c.in-Some.ensures.steps) ∙ c.loop-name.invariant)

pub returns : goal.returns
returns c =
    let ends : c.push-2.new.self.items ≡ c.loop-name.text.items ++ 125 ∷ [] = search rules in
    ends ∙ (ap (λ es. c.loop-name.text.items ++ joined_members c.loop-name.later es) (sym c.in-None.ensures.steps.0) ∙ c.loop-name.invariant)
