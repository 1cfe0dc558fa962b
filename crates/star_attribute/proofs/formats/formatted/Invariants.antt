use Rattle.std.proofs.Common.{◌≡◌, [], length}
use denote.Shadow.{shadow}
use denote.Text.{Utf8}
use Rattle.star_meaning.specs.Format.{Outside}
use Rattle.star_attribute.specs.declared.fields.Numbering.TheVariants.{Unused}
use Rattle.star_attribute.specs.Formats.{formatting}
use Rattle.star_attribute.proofs.formats.formatted.Given as goal

abbrev pub invariant-loop-before : goal.invariant-loop-before
invariant-loop-before l = record {
  rest : formatting l.call l.rest Outside l.numbering l.out l.machine ≡ formatting l.call l.format Outside Unused [] l.fn.machine;
  text : shadow (Utf8 l.rest);
}

abbrev pub decreases-loop-before : goal.decreases-loop-before
decreases-loop-before l = length l.rest
