-- The environment of a run, with other outlines.
use Rattle.std.specs.Prelude.{List, Option}
use Rattle.star_outline.specs.Outlines.{Outline}
use Rattle.star_meaning.specs.Program.{Setting}

-- a setting with these outlines in place of its own
abbrev pub with_outlines : List (Option Outline) → Setting → Setting
with_outlines os w = record w { outlines = os }
