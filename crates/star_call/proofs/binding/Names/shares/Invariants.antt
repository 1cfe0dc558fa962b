use Rattle.std.proofs.Common.{◌≡◌, drop}
use Rattle.star_meaning.specs.Binding.{also, shares}
use Rattle.star_call.specs.BoundArguments.{all_named, all_shown}
use Rattle.star_call.specs.Steps.{progress_of}
use Rattle.star_call.proofs.binding.Names.shares.Given as goal

abbrev pub invariant-loop-parameter : goal.invariant-loop-parameter
invariant-loop-parameter l =
    let left = all_named l.self.left.items in
    let f = shares l.self.all left in
    also (all_shown left l.shares.items) (f (drop l.parameter-index l.parameters) (progress_of l.progress)) ≡ f l.parameters (progress_of l.fn.progress)
