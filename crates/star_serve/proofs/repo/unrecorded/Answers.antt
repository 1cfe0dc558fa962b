use Rattle.std.proofs.Common.{map, string_bytes, subst, sym}
use Rattle.std.specs.Option.{option_map}
use Rattle.star_words.specs.Named.{AreLabels, IsMisnamed}
use Rattle.star_serve.specs.Serve.{prelude_word, root_words}
use Rattle.star_serve.proofs.Recording.{misnamed_so}
use Rattle.star_serve.proofs.Spoken.{words_of}
use Rattle.star_serve.proofs.repo.unrecorded.Goals as goal

pub returns : goal.returns
returns c =
    let options = c.args.options.now in
    let prelude = option_map (λ p. string_bytes p.now) c.as_ref.result in
    subst (AreLabels (root_words options)) (sym (words_of c.as_ref.result options.prelude c.as_ref.ensures.value))
    (subst (λ rs. AreLabels (map string_bytes rs) prelude) c.as_slice.ensures.value c.in-Ok.ensures.asked.are)

pub returns-in-Err : goal.returns-in-Err
returns-in-Err c =
    let options = c.args.options.now in
    let prelude = option_map (λ p. string_bytes p.now) c.as_ref.result in
    misnamed_so (root_words options) (prelude_word options) c.in-Err.error
    (subst (λ p. IsMisnamed (root_words options) p c.in-Err.error) (sym (words_of c.as_ref.result options.prelude c.as_ref.ensures.value))
    (subst (λ rs. IsMisnamed (map string_bytes rs) prelude c.in-Err.error) c.as_slice.ensures.value c.in-Err.ensures.refused))
