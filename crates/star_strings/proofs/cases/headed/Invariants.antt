use Rattle.std.proofs.Common.{◌≡◌, false, string_bytes}
use Rattle.std.specs.Str.{encode_utf8_all}
use Rattle.star_strings.specs.Strings.{headed_after}
use Rattle.star_strings.proofs.Titles.{ends_small}
use Rattle.star_strings.proofs.cases.headed.Given as goal

abbrev pub invariant-loop-c : goal.invariant-loop-c
invariant-loop-c l =
    (string_bytes l.made ≡ encode_utf8_all (headed_after l.heads false l.yielded)) × (l.small ≡ ends_small l.heads false l.yielded)
