use Rattle.std.proofs.Common.{◌≡◌, ◌<◌, ◌∙◌, length, sym, true, rules}
use Rattle.star_strings.specs.Texts.{may_cut}
use Rattle.star_strings.proofs.Runs.{none, no_word_back, one_word_back}
use Rattle.star_strings.proofs.words.last_word.Goals as goal

pub returns-then-is_empty : goal.returns-then-is_empty
returns-then-is_empty c =
    let e : length c.without_end-rest.result.now ≡ 0 = search rules in
    no_word_back c.args.left c.args.text.now (sym c.without_end-rest.ensures ∙ none c.without_end-rest.result.now e)

pub returns : goal.returns
returns c =
    let l : 0 < length c.without_end-rest.result.now = search rules in
    let m : may_cut c.args.left ≡ true = search rules in
    one_word_back c.args.left c.args.text.now c.word_last.result.0.now c.word_last.result.1.now (rw c.without_end-rest.ensures at l) m c.word_last.ensures.inside c.word_last.ensures.before (c.word_last.ensures.whole ∙ c.without_end-rest.ensures)
