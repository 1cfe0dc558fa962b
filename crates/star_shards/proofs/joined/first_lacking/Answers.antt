use Rattle.std.proofs.Common.{◌≡◌, ◌<◌, ◌≤◌, true, String, Global, length, ap, sym, ◌∙◌, subst, arith}
use Rattle.std.specs.Prelude.{All, string_bytes}
use Rattle.std.proofs.lemmas.List.{take_all}
use Rattle.std.proofs.lemmas.List.Elements.{All-more}
use Rattle.star_shards.specs.Read.{has}
use Rattle.star_shards.proofs.joined.first_lacking.Goals as goal

pub loop-word-preserved : goal.loop-word-preserved
loop-word-preserved c =
    let words = c.args.words.now in
    let i = c.loop-word.word-index in
    let x = c.word-item.result in
    let lt : i < length words = omega arith in
    let P : String Global → Type 0 = λ w. has c.args.known.now (string_bytes w) ≡ true in
    let on : c.contains_key.result ≡ true = grind (arith, c.if-not-contains_key.false) in
    let here : P x = ap (has c.args.known.now) (sym c.as_bytes.ensures.value) ∙ sym c.contains_key.ensures ∙ on in
    All-more P words i x lt c.loop-word.invariant (subst P c.word-item.is here)

pub returns-clause-none : goal.returns-clause-none
returns-clause-none c =
    let words = c.args.words.now in
    let le : length words ≤ c.loop-word.word-index = omega arith in
    let P : String Global → Type 0 = λ w. has c.args.known.now (string_bytes w) ≡ true in
    λ _. subst (All P) (take_all c.loop-word.word-index words le) c.loop-word.invariant
