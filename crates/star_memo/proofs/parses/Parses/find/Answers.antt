use Rattle.std.proofs.Common.{◌≡◌, ◌<◌, ℕ, Some, arith, length, subst, sym, ◌∙◌}
use Rattle.star_label.specs.Files.{text_at}
use Rattle.star_memo.proofs.Kept.{has_within}
use Rattle.star_memo.proofs.parses.Parses.find.Goals as goal
use Rattle.star_memo.proofs.parses.Parses.find.Goals.{else-m-len-via-then-m-len+else-has_text_of, else-m-len-via-else-m-len}

some_same : (m n : ℕ) → Some m ≡ Some n → n ≡ m
some_same m n e = cc

pub returns-clause-each : goal.returns-clause-each
returns-clause-each c = λ m s h.
    let before = c.args.compared.now.before in
    let at : m ≡ c.in_ok-m.m = some_same c.in_ok-m.m m (c.in_ok-m.ensures.each m s.there s.label) in
    let text : text_at before c.in_ok-m.m ≡ text_at c.args.compared.now.files c.args.n = subst (λ i. text_at before i ≡ text_at c.args.compared.now.files c.args.n) at s.text in
    let within : c.in_ok-m.m < length c.args.self.now.all.items = subst (λ i. i < length c.args.self.now.all.items) at (has_within c.args.self.now.all.items m h) in
    elim c.else-m-len.branch [
      | else-m-len-via-then-m-len+else-has_text_of w ↦ sym w.if-has_text_of.false ∙ w.has_text_of.ensures.same text
      | else-m-len-via-else-m-len w ↦ absurd (let no : ⊥ = omega (arith, within, w.if-m-len.false) in no)
    ]
