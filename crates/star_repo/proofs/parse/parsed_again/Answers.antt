use Rattle.std.proofs.Common.{◌∙◌, ◌∷◌, ◌++◌, [], ap, subst, sym, string_bytes, take}
use Rattle.std.proofs.lemmas.List.{take_more}
use Rattle.star_repo.specs.Parsed.{AreParsed}
use Rattle.star_reading.specs.Parsed.{IsParsed, ParsedView}
use Rattle.star_repo.proofs.Settled.{zip_push}
use Rattle.star_repo.proofs.Steps.{Fresh}
use Rattle.star_repo.proofs.parse.parsed_again.Goals as goal

pub loop-file-preserved : goal.loop-file-preserved
loop-file-preserved g c =
    let files = c.args.files.now in
    let i = c.loop-file.file-index in
    let cut = take_more files i c.file-item.result c.loop-file-test.true ∙ ap (λ (f : Fresh). take i files ++ f ∷ []) (sym c.file-item.is) in
    subst (λ fs. AreParsed fs c.push.new.self.items) (sym cut) (subst (AreParsed (take i files ++ c.file-item.result ∷ [])) (sym c.in_ok-push.ensures.items)
    (zip_push (λ (f : Fresh) (p : ParsedView). IsParsed (string_bytes f.1) p) (take i files) c.file-item.result c.loop-file.parses.items c.in_ok-parse_of.field-0 c.loop-file.invariant c.in_ok-parse_of.ensures))
