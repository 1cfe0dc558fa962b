use Rattle.std.proofs.Common.{arith, ap, map, refl, ◌∙◌, string_bytes}
use Rattle.star_bundle.proofs.ByLabel.{inserted}
use Rattle.star_bundle.specs.Bundle.{with_files}
use Rattle.star_label.specs.Files.{file_of}
use Rattle.star_label.specs.View.{text_of}
use Rattle.star_folder.specs.Walk.{Read}
use Rattle.star_folder.proofs.walk.after_file.Goals as goal

pub returns-clause-goes : goal.returns-clause-goes
unfolding with_files
returns-clause-goes g c =
    let text = c.in_ok-text.text in (
      Read (text_of c.args.label) (string_bytes text),
      record {
        is_of = refl;
        tells = c.in_ok-text.ensures.tells;
        passes = (omega (arith, c.if-count-eq-FILES.false, c.args.walk.few_files), c.in_ok-text.ensures.short, c.in_ok-text.ensures.is_text, omega (arith, c.if-bytes-size.false, c.len-bytes.ensures, c.args.walk.few_bytes, text.bytes.ok.0));
        left = refl;
        found = ap (map file_of) c.in_ok-insert.ensures.entries ∙ inserted c.args.walk.found.entries c.args.label text;
        listed = omega arith;
        count = omega arith;
        size = omega (arith, c.len-bytes.ensures, text.bytes.ok.0);
      },
    )
