use Rattle.std.proofs.Common.{◌≡◌, ◌<◌, ◌++◌, ◌∷◌, [], length, subst, sym, ◌∙◌}
use Rattle.std.proofs.lemmas.List.{length-map}
use Rattle.std.specs.Prelude.{All}
use Rattle.std.specs.Option.{option_map}
use Rattle.star_sound.specs.Sound.{rows_of}
use Rattle.star_sound.specs.Waiting.{AreWaiting, lists}
use Rattle.star_sound.proofs.Steps.{drop_aside}
use Rattle.star_sound.proofs.sound.Waits.release.Goals as goal

pub go_on-requires-clause-its : goal.go_on-requires-clause-its
go_on-requires-clause-its c =
    let its = c.in-Some-needs_of.its.now in
    let size : length (rows_of c.args.needs.now) ≡ length c.loop-n.self.sound.items = length-map c.args.needs.now (option_map (λ v. v.items)) ∙ sym c.loop-n.invariant.sized.sound in
    subst (λ k. All (λ m. m < k) its) size (c.requires.within c.in-Some.n its c.in-Some-needs_of.ensures)

pub loop-n-preserved : goal.loop-n-preserved
loop-n-preserved c =
    let w = c.loop-n.self in
    let rows = rows_of c.args.needs.now in
    let popped : c.loop-n.files.items ≡ c.pop.new.self.items ++ c.in-Some.n ∷ [] = c.in-Some.ensures.items in
    record {
      sized = c.loop-n.invariant.sized;
      left = c.loop-n.invariant.left;
      waiting = λ was. drop_aside rows w.sound.items w.passed.items (lists w) w.todo.items c.pop.new.self.items c.in-Some.n c.in_default-needs_of.ensures
          (subst (AreWaiting rows w) popped (c.loop-n.invariant.waiting was));
    }
