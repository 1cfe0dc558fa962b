use Rattle.std.proofs.Common.{rules, ◌≡◌, ◌∙◌, ◌++◌, [], List, ap, false, length, subst, take, true}
use Rattle.json.specs.Print.{print}
use Rattle.json.specs.Token.{Token}
use Rattle.star_store.specs.Store.{look}
use Rattle.star_data.specs.Data.{data_of}
use Rattle.star_data.specs.Texts.{Sends}
use Rattle.star_data.proofs.Sent.{front, no_text, text_is}
use Rattle.star_data.proofs.data.write_data.Goals.{else-not-is_data, then-not-is_data}
use Rattle.star_data.proofs.data.write_data.Goals as goal

pub returns : goal.returns
returns c =
    let o = data_of (look c.args.arena.now c.args.homes.now) c.args.levels c.args.value in
    let old = c.args.text.items in
    let tokens : List Token = c.write_value.new.out.tokens in
    let sent : Sends o c.in_ok-is_data.is_data [] tokens = subst (λ ts. Sends o c.in_ok-is_data.is_data ts tokens) c.new-out.ensures.tokens c.in_ok-is_data.ensures.data in
    let all : c.into_inner-text.result.items ≡ old ++ print tokens = c.into_inner-text.ensures.items ∙ ap (λ b. b ++ print tokens) (c.write_value.ensures.before ∙ c.new-out.ensures.before) in
    elim c.if-not-is_data.branch [
      | then-not-is_data w ↦
          let no_data : c.in_ok-is_data.is_data ≡ false = search rules in
          let len : c.len-before.result ≡ length old = search rules in
          let cut : w.truncate.new.self.items ≡ old = w.truncate.ensures.items ∙ (ap (λ xs. take c.len-before.result xs) all ∙ front old (print tokens) c.len-before.result len) in
          rw (w.text-is, no_data) (no_text o c.in_ok-is_data.is_data old w.truncate.new.self.items tokens sent no_data cut)
      | else-not-is_data w ↦
          let is_data : c.in_ok-is_data.is_data ≡ true = search rules in
          rw (w.text-is, is_data) (text_is o c.in_ok-is_data.is_data old c.into_inner-text.result.items tokens sent is_data all)
    ]
