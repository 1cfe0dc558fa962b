use Rattle.std.proofs.Common.{rules, ◌≡◌, ◌∙◌, ◌++◌, ◌∷◌, [], List, ℕ, ap, false}
use Rattle.std.specs.Prelude.{MatchOption}
use Rattle.json.specs.Print.{quoted}
use Rattle.serde_json.specs.Data.{object}
use Rattle.serde_json.specs.View.{view}
use Rattle.star_report.specs.Texts.{joined_members}
use Rattle.star_report.proofs.Members.{joined_are, last_pieces, last_text}
use Rattle.star_report.proofs.more.with_last.Goals as goal

pub returns : goal.returns
returns c = λ none ms are.
    let old : List ℕ = c.in_ok-text.text.items in
    let cut : List ℕ = c.pop.new.self.items in
    let es = c.args.members.now.entries in
    let q : List ℕ = quoted c.args.name.now in
    let popped : MatchOption c.pop.result (old ≡ []) (λ n. old ≡ cut ++ n ∷ []) = search rules in
    let comma : c.push.new.self.items ≡ cut ++ 44 ∷ [] = search rules in
    let end : c.push-2.new.self.items ≡ c.in_ok-text-3.text.items ++ 125 ∷ [] = search rules in
    let pieces = last_pieces cut q (joined_members false es) c.push.new.self.items c.in_ok-text-2.text.items c.in_ok-text-3.text.items c.push-2.new.self.items comma c.in_ok-text-2.ensures c.in_ok-text-3.ensures end in
    last_text c.args.name.now (view c.args.shown.now) (object ms) c.requires c.pop.result old cut c.push-2.new.self.items (c.in_ok-text.ensures.text none) popped
    (pieces ∙ ap (λ t. cut ++ 44 ∷ (q ++ 58 ∷ ((123 ∷ t) ++ 125 ∷ []))) (joined_are false es ms are))
