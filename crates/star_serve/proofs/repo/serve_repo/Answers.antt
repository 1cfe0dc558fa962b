use Rattle.std.proofs.Common.{arith, ◌≡◌, ◌∙◌, false, ap, map, refl, string_bytes, subst, sym}
use Rattle.std.specs.Option.{option_map}
use Rattle.star_words.specs.Named.{AreLabels}
use Rattle.star_serve.specs.Serve.{may_record, prelude_word, root_words}
use Rattle.star_serve.proofs.Recording.{unrecorded_refused, unrecorded_writes}
use Rattle.star_serve.proofs.RepoRefusals.{read_refused}
use Rattle.star_serve.proofs.Spoken.{files_by_words, words_of}
use Rattle.star_serve.proofs.Zipped.{parses_of}
use Rattle.star_serve.proofs.repo.serve_repo.Goals as goal

pub reported_of-outcome-requires-clause-parsed : goal.reported_of-outcome-requires-clause-parsed
reported_of-outcome-requires-clause-parsed g c κs within = parses_of _ _ c.in-Ok-read_asked.ensures.parsed

pub returns-in-Err-outcome-clause-refused : goal.returns-in-Err-outcome-clause-refused
returns-in-Err-outcome-clause-refused g c =
    let said = g.F.Repo.says c.args.folder.now in
    let options = c.args.options.now in
    let files = c.in-Ok-read_asked.reached.files in
    let same = c.as_slice.ensures.value in
    let given = words_of c.as_ref.result options.prelude c.as_ref.ensures.value in
    let are = files_by_words said options c.as_slice.result.now c.as_ref.result files same c.as_ref.ensures.value c.in-Ok-read_asked.ensures.files in
    let prelude = option_map (λ p. string_bytes p.now) c.as_ref.result in
    let labels : AreLabels (root_words options) (prelude_word options) = subst (AreLabels (root_words options)) (sym given) (subst (λ rs. AreLabels (map string_bytes rs) prelude) same c.in-Ok-read_asked.ensures.labels) in
    read_refused said (root_words options) (prelude_word options) files (may_record options) _ c.in-Err-outcome.error are labels c.in-Err-outcome.ensures.refused

pub returns-in-Ok-outcome-clause-ok : goal.returns-in-Ok-outcome-clause-ok
returns-in-Ok-outcome-clause-ok g c =
    let files = c.in-Ok-read_asked.reached.files in
    let are = files_by_words (g.F.Repo.says c.args.folder.now) c.args.options.now c.as_slice.result.now c.as_ref.result files c.as_slice.ensures.value c.as_ref.ensures.value c.in-Ok-read_asked.ensures.files in
    let h = c.in-Ok-outcome.ensures.ok in
    (h.0, (files, are, h.1), h.2, h.3)

pub returns-then-not-may_record-clause-refused : goal.returns-then-not-may_record-clause-refused
returns-then-not-may_record-clause-refused g c =
    let options = c.args.options.now in
    let may : may_record options ≡ false = sym c.may_record.ensures ∙ c.if-not-may_record.true in
    unrecorded_refused (g.F.Repo.says c.args.folder.now) (root_words options) (prelude_word options) (may_record options) _ c.unrecorded.result c.unrecorded.ensures may refl

pub returns-then-not-may_record-clause-writes : goal.returns-then-not-may_record-clause-writes
returns-then-not-may_record-clause-writes g c =
    omega (arith, unrecorded_writes (root_words c.args.options.now) (prelude_word c.args.options.now) c.unrecorded.result c.unrecorded.ensures)
