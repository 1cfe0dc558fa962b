use Rattle.std.proofs.Common.{◌≡◌, ◌<◌, ◌∙◌, length, sym, true, rules}
use Rattle.star_strings.specs.Texts.{may_cut}
use Rattle.star_strings.proofs.Runs.{none, no_word, one_word}
use Rattle.star_strings.proofs.words.next_word.Goals as goal

pub returns-then-is_empty : goal.returns-then-is_empty
returns-then-is_empty c =
    let e : length c.without_front-rest.result.now ≡ 0 = search rules in
    no_word c.args.left c.args.text.now (sym c.without_front-rest.ensures ∙ none c.without_front-rest.result.now e)

pub returns : goal.returns
returns c =
    let l : 0 < length c.without_front-rest.result.now = search rules in
    let m : may_cut c.args.left ≡ true = search rules in
    one_word c.args.left c.args.text.now c.word_first.result.0.now c.word_first.result.1.now (rw c.without_front-rest.ensures at l) m c.word_first.ensures.inside c.word_first.ensures.after (c.word_first.ensures.whole ∙ c.without_front-rest.ensures)
