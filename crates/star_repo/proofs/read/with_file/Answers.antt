use Rattle.std.proofs.Common.{◌≡◌, arith, ◌≤◌, ◌+◌, ◌++◌, ◌∷◌, [], length, map, subst, sym, string_bytes}
use Rattle.std.specs.Prelude.{Some}
use Rattle.std.specs.Str.{IsUtf8}
use Rattle.star_label.specs.Files.{file_of}
use Rattle.star_label.specs.View.{text_of}
use Rattle.star_repo.specs.Held.{Tells}
use Rattle.star_repo.specs.Views.{answers_in}
use Rattle.star_repo.specs.Way.{IsWay}
use Rattle.star_repo.proofs.Steps.{met, none_failed, refused_so, whole_told}
use Rattle.star_repo.proofs.read.with_file.Goals as goal

pub returns-in-Err-clause-refused : goal.returns-in-Err-clause-refused
returns-in-Err-clause-refused c = λ said words d rest new below told way.
    let found = c.args.found in
    refused_so said words d found.fresh.items found.looked.entries rest found.count found.size c.args.label new below way c.args.bytes.items c.in-Err.error told c.in-Err.ensures.refused

pub returns-in-Err-clause-no_read_failed : goal.returns-in-Err-clause-no_read_failed
returns-in-Err-clause-no_read_failed c = none_failed c.args.label c.in-Err.error c.in-Err.ensures.read

pub returns-clause-on_way : goal.returns-clause-on_way
returns-clause-on_way c = λ said words d rest new below told way.
    let found = c.args.found in
    let label = c.args.label in
    let looked = found.looked.entries in
    let text = c.in-Ok.text in
    let is = c.in-Ok.ensures.text in
    let len_is : c.len-bytes.result ≡ length (string_bytes text) = omega (arith, c.len-bytes.ensures, text.bytes.ok.0) in
    let step = met said words d found.fresh.items looked rest found.count found.size label new below way text
    (subst (λ b. Tells (said (text_of label)) (Some b)) (sym is) (whole_told (said (text_of label)) c.args.bytes.items told c.in-Ok.ensures.short))
    c.in-Ok.ensures.few (subst (λ b. length b ≤ 1048576) (sym is) c.in-Ok.ensures.short) (subst IsUtf8 (sym is) c.in-Ok.ensures.is_text)
    (subst (λ b. found.size + length b ≤ 268435456) (sym is) c.in-Ok.ensures.small) in
    let full = subst (λ n. IsWay said words d (answers_in (found.fresh.items ++ (label, text) ∷ []) looked) (map file_of (found.fresh.items ++ (label, text) ∷ [])) rest (found.count + 1) (found.size + n)) (sym len_is) step in
    subst (λ fs. IsWay said words d (answers_in fs looked) (map file_of fs) rest (found.count + 1) (found.size + c.len-bytes.result)) (sym c.in_ok-push.ensures.items) full
