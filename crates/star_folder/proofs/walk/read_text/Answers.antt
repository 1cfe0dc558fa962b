use Rattle.std.proofs.Common.{arith, sym, subst, ◌∙◌, length, ◌≤◌}
use Rattle.std.specs.Str.{IsUtf8}
use Rattle.star_folder.specs.Folder.{Says}
use Rattle.star_label.specs.View.{text_of}
use Rattle.star_folder.proofs.Names.{front, long_front, whole_front}
use Rattle.star_folder.proofs.walk.read_text.Goals as goal

pub returns-then-len-gt-BYTES-clause-stops : goal.returns-then-len-gt-BYTES-clause-stops
returns-then-len-gt-BYTES-clause-stops g c =
    let told = front _ c.in-Ok.bytes.items c.in-Ok.ensures.tells in
    (told.0, told.1, long_front told.0 c.in-Ok.bytes.items told.2 (omega (arith, c.len.ensures, c.in-Ok.bytes.ok.0)))

pub returns-in-Ok-from_utf8-clause-tells : goal.returns-in-Ok-from_utf8-clause-tells
returns-in-Ok-from_utf8-clause-tells g c =
    let told = front _ c.in-Ok.bytes.items c.in-Ok.ensures.tells in
    let whole = whole_front told.0 c.in-Ok.bytes.items told.2 (omega (arith, c.len.ensures, c.in-Ok.bytes.ok.0)) in
    let same = c.in_ok-from_str-in-Ok-from_utf8.ensures.ok ∙ c.in-Ok-from_utf8.ensures.cases.0 ∙ c.as_slice.ensures.value ∙ whole in
    subst (Says ((g.F.Folder.holds c.args.folder.now).bytes (text_of c.args.label.now))) (sym same) told.1

pub returns-clause-stops : goal.returns-clause-stops
returns-clause-stops g c =
    let told = front _ c.in-Ok.bytes.items c.in-Ok.ensures.tells in
    let whole = whole_front told.0 c.in-Ok.bytes.items told.2 (omega (arith, c.len.ensures, c.in-Ok.bytes.ok.0)) in
    let short : length c.in-Ok.bytes.items ≤ 1048576 = omega (arith, c.len.ensures, c.in-Ok.bytes.ok.0) in
    (told.0, told.1, subst (λ bytes. length bytes ≤ 1048576) whole short, λ text. c.in-Err.ensures.cases.0 (subst IsUtf8 (sym (c.as_slice.ensures.value ∙ whole)) text))
