use Rattle.std.proofs.Common.{List, ℕ, string_bytes}
use Rattle.std.specs.Prelude.{option_map}
use Rattle.star_label.specs.View.{text_of}
use Rattle.star_words.specs.Named.{texts_of}
use Rattle.star_repo.specs.Asked.{words_for}
use Rattle.star_repo.specs.Views.{words_of}
use Rattle.star_repo.proofs.SameWords.{asked_words, same_files, same_refusal}
use Rattle.star_repo.proofs.asked.read_asked.Goals as goal

pub returns-in-Ok-read_reached-clause-files : goal.returns-in-Ok-read_reached-clause-files
returns-in-Ok-read_reached-clause-files g c =
    let roots = texts_of c.args.roots.now in
    let prelude = option_map (λ p. string_bytes p.now) c.args.prelude in
    let keys = c.in-Ok.labels.keys in
    let h = c.in-Ok-read_reached.ensures.files in (
      h.0,
      h.1,
      same_files h.0 (words_of keys) (words_for roots prelude) (asked_words roots prelude keys c.in-Ok.ensures.asked) c.in-Ok-read_reached.reached.files h.2,
      h.3,
    )

pub returns-in-Err-Refused-clause-refused : goal.returns-in-Err-Refused-clause-refused
returns-in-Err-Refused-clause-refused g c =
    let roots = texts_of c.args.roots.now in
    let prelude = option_map (λ p. string_bytes p.now) c.args.prelude in
    let keys = c.in-Ok.labels.keys in
    let h = rw c.in-Err-Refused.field-0-is at c.in-Err-Refused.ensures.refused in
    (h.0, h.1, same_refusal h.0 (words_of keys) (words_for roots prelude) (asked_words roots prelude keys c.in-Ok.ensures.asked) (text_of c.in-Err-Refused.label) c.in-Err-Refused.error h.2)
