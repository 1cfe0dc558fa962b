use Rattle.std.proofs.Common.{◌≡◌, drop, false}
use Rattle.std.specs.List.{list_any}
use Rattle.std.specs.Prelude.{IfSome}
use Rattle.star_machine.specs.Kinds.{bytes_of}
use Rattle.star_meaning.specs.Values.{content}
use Rattle.star_method.specs.Ends.{at_edge, bytes_each}
use Rattle.star_method.proofs.texts.one_at_edge.Given as goal

abbrev pub invariant-loop-part : goal.invariant-loop-part
invariant-loop-part l =
    let test = at_edge l.edge (bytes_of (content l.setting l.machine l.text)) in
    record {
      rest : list_any test (bytes_each l.setting l.machine (drop l.part-index l.parts)) ≡ list_any test (bytes_each l.setting l.machine l.parts);
      before : IfSome l.before (λ v. test (bytes_of (content l.setting l.machine v)) ≡ false);
    }
