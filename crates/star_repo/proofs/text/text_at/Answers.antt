use Rattle.std.proofs.Common.{string_bytes, subst}
use Rattle.std.specs.Prelude.{option_map}
use Rattle.star_label.specs.View.{text_of}
use Rattle.star_repo.specs.Held.{TellsFront}
use Rattle.star_repo.proofs.Steps.{no_file_told}
use Rattle.star_repo.proofs.Texts.{fit_front, unfit_front}
use Rattle.star_repo.proofs.text.text_at.Goals as goal

pub returns-in-Ok-clause-text : goal.returns-in-Ok-clause-text
returns-in-Ok-clause-text g c =
    let said = g.F.Repo.says c.args.folder.now (text_of c.args.label.now) in
    let told = subst (λ o. TellsFront said (option_map (λ b. b.items) o)) c.in-Ok-Some.field-0-is c.in-Ok-Some.ensures.tells in
    fit_front said c.in-Ok-Some.bytes.items (string_bytes c.in-Ok.text) c.in-Ok.ensures.text told c.in-Ok.ensures.short c.in-Ok.ensures.is_text

pub returns-in-Err-clause-refused : goal.returns-in-Err-clause-refused
returns-in-Err-clause-refused g c =
    let said = g.F.Repo.says c.args.folder.now (text_of c.args.label.now) in
    let told = subst (λ o. TellsFront said (option_map (λ b. b.items) o)) c.in-Ok-Some.field-0-is c.in-Ok-Some.ensures.tells in
    unfit_front said c.in-Ok-Some.bytes.items c.in-Err.error told c.in-Err.ensures.refused

pub returns-in-Ok-None-clause-text : goal.returns-in-Ok-None-clause-text
returns-in-Ok-None-clause-text g c =
    let said = g.F.Repo.says c.args.folder.now (text_of c.args.label.now) in
    let told = subst (λ o. TellsFront said (option_map (λ b. b.items) o)) c.in-Ok-None.field-0-is c.in-Ok-None.ensures.tells in
    (no_file_told said told, tt)
