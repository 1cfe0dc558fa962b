use Rattle.std.proofs.Common.{◌≡◌, ◌∙◌, ◌∷◌, ◌++◌, ◌+◌, [], Some, None, ap, subst, sym, string_bytes, take}
use Rattle.std.specs.Prelude.{option_map}
use Rattle.std.proofs.lemmas.List.{map-append}
use Rattle.star_label.specs.View.{text_of}
use Rattle.star_words.specs.Named.{AreNamed, Names, texts_of}
use Rattle.star_words.proofs.Labels.{named_more}
use Rattle.star_words.proofs.Members.{in_map, item_in, texts_more}
use Rattle.star_words.proofs.words.labels_of_words.Goals as goal

pub returns-in_default-clause-labels : goal.returns-in_default-clause-labels
returns-in_default-clause-labels c =
    let text = string_bytes c.word-item.result in
    let names : Names c.args.here.now c.as_str.result.now None = subst (λ o. Names c.args.here.now c.as_str.result.now (option_map text_of o)) c.in_default.is c.in_ok-label.ensures.label in
    (text, in_map string_bytes c.args.words.now c.word-item.result (item_in c.args.words.now c.loop-word.word-index c.word-item.result c.loop-word-test.true c.word-item.is), subst (λ t. Names c.args.here.now t None) c.as_str.ensures.value names)

pub loop-word-preserved : goal.loop-word-preserved
loop-word-preserved c =
    let here = c.args.here.now in
    let i = c.loop-word.word-index in
    let words = c.args.words.now in
    let item = c.word-item.result in
    let text = string_bytes item in
    let before = texts_of (take i words) in
    let cut : texts_of (take (i + 1) words) ≡ before ++ text ∷ [] = texts_more words i item c.loop-word-test.true c.word-item.is in
    let label = text_of c.in-Some.label in
    let names : Names here text (Some label) = subst (λ t. Names here t (Some label)) c.as_str.ensures.value (subst (λ o. Names here c.as_str.result.now (option_map text_of o)) c.in-Some.is c.in_ok-label.ensures.label) in
    let made = string_bytes c.in_ok-from_str.field-0 in
    let copied : label ≡ made = search (c.text.ensures, c.in_ok-from_str.ensures) in
    let pushed : texts_of c.push.new.self.items ≡ texts_of c.loop-word.labels.items ++ made ∷ [] = ap texts_of c.in_ok-push.ensures.items ∙ map-append string_bytes c.loop-word.labels.items (c.in_ok-from_str.field-0 ∷ []) in
    subst (λ ws. AreNamed here ws (texts_of c.push.new.self.items)) (sym cut) (subst (AreNamed here (before ++ text ∷ [])) (sym pushed)
    (named_more here before (texts_of c.loop-word.labels.items) text made c.loop-word.invariant (subst (λ l. Names here text (Some l)) copied names)))
