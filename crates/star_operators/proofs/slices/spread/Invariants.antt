use Rattle.std.proofs.Common.{◌≡◌, ◌++◌, ◌-◌, true, string_bytes, nat_lt, ℕ}
use Rattle.std.specs.List.{list_all}
use Rattle.star_store.specs.Range.{range_length}
use Rattle.star_operators.specs.Slices.{as_range}
use Rattle.star_meaning.specs.Subscript.{picked, places_of, places_from}
use Rattle.star_operators.proofs.slices.spread.Given as goal

abbrev pub invariant-loop-i : goal.invariant-loop-i
invariant-loop-i l =
    let r = as_range l.span in
    record {
      rest : string_bytes l.made ++ picked l.text (places_from r (range_length r - l.i) l.i) ≡ picked l.text (places_of r);
      ascii : list_all (λ (b : ℕ). nat_lt b 128) (string_bytes l.made) ≡ true;
    }
