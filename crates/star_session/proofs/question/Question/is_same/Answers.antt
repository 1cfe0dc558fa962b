use Rattle.std.proofs.Common.{◌≡◌, true, ap, sym, ◌∙◌, map, string_bytes}
use Rattle.star_session.proofs.Same.{same_question, same_wanted}
use Rattle.star_session.proofs.question.Question.is_same.Goals as goal

pub returns : goal.returns
returns c = λ is. same_question c.args.self.now c.args.other.now
    (ap (map string_bytes) (sym c.as_slice.ensures.value) ∙ c.are_same.ensures is ∙ ap (map string_bytes) c.as_slice-2.ensures.value)
    (c.is_same_text.ensures c.if-not-is_same_text.false)
    (c.is_same.ensures.equal c.if-not-is_same.false)
    (same_wanted c.args.self.now.wanted c.args.other.now.wanted (sym c.ne.ensures ∙ c.if-ne.false))
