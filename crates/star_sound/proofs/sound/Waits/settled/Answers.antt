use Rattle.std.proofs.Common.{◌≡◌, ◌<◌, ◌++◌, ◌∷◌, [], length, length-set, ap, subst, sym, ◌∙◌}
use Rattle.std.proofs.lemmas.List.{length-map}
use Rattle.std.specs.Prelude.{All, slice_set}
use Rattle.std.specs.Option.{option_map}
use Rattle.std.proofs.lemmas.List.Elements.{Contains-push, All-contains}
use Rattle.star_sound.specs.Sound.{rows_of}
use Rattle.star_sound.specs.Waiting.{AreWaiting, AreWaitingBy, list_of, lists}
use Rattle.star_sound.proofs.Steps.{all_aside, front_all, same_waiting, take_aside}
use Rattle.star_sound.proofs.sound.Waits.settled.Goals as goal

pub loop-m-init : goal.loop-m-init
loop-m-init c =
    let w = c.in_ok-waits.waits in
    let rows = rows_of c.args.needs.now in
    let fresh = c.in_ok-waits.ensures.fresh in
    let size : length rows ≡ length c.args.needs.now = length-map c.args.needs.now (option_map (λ v. v.items)) in
    record {
      sized = c.in_ok-release.ensures.sized;
      waiting = c.in_ok-release.ensures.waiting (all_aside rows w.sound.items w.passed.items (lists w) w.todo.items c.in_ok-all.all.items fresh.sound fresh.passed
          (λ n less. c.in_ok-all.ensures n (subst (λ k. n < k) size less)));
    }

pub take-files-requires : goal.take-files-requires
take-files-requires c =
    let sized = c.loop-m.invariant.sized in
    let count = length c.args.needs.now in
    let m = c.in-Some.m in
    let rest = c.pop.new.self.items in
    let inside : m < count = All-contains (λ k. k < count) (rest ++ m ∷ []) m (subst (All (λ k. k < count)) c.in-Some.ensures.items sized.todo) (Contains-push rest m) in
    subst (λ k. m < k) (sym sized.waiting) inside

sized_after : goal.release-requires-in-Some-clause-sized
sized_after c =
    let sized = c.loop-m.invariant.sized in
    let t = c.take-files.ensures in
    let s = c.take-files.new.self in
    let w = c.loop-m.waits in
    let m = c.in-Some.m in
    let rest = c.pop.new.self.items in
    let count = length c.args.needs.now in
    let long : length (lists s) ≡ length w.waiting.items = ap length t.lists ∙ (length-set (lists w) m [] ∙ length-map w.waiting.items (λ v. v.items)) in
    record {
      sound = ap (λ v. length v.items) t.sound ∙ sized.sound;
      passed = ap (λ v. length v.items) t.passed ∙ sized.passed;
      waiting = sym (length-map s.waiting.items (λ v. v.items)) ∙ (long ∙ sized.waiting);
      todo = subst (All (λ k. k < count)) (sym (ap (λ v. v.items) t.todo)) (front_all (λ k. k < count) rest m (subst (All (λ k. k < count)) c.in-Some.ensures.items sized.todo));
    }

pub release-requires-in-Some-clause-sized : goal.release-requires-in-Some-clause-sized
release-requires-in-Some-clause-sized c = sized_after c

pub loop-m-preserved : goal.loop-m-preserved
loop-m-preserved c =
    let rows = rows_of c.args.needs.now in
    let w = c.loop-m.waits in
    let t = c.take-files.ensures in
    let s = c.take-files.new.self in
    let m = c.in-Some.m in
    let rest = c.pop.new.self.items in
    let count = length c.args.needs.now in
    let sized = c.loop-m.invariant.sized in
    let inside : m < count = All-contains (λ k. k < count) (rest ++ m ∷ []) m (subst (All (λ k. k < count)) c.in-Some.ensures.items sized.todo) (Contains-push rest m) in
    let there : m < length (lists w) = subst (λ k. m < k) (sym (length-map w.waiting.items (λ v. v.items) ∙ sized.waiting)) inside in
    let was : AreWaitingBy rows w.sound.items w.passed.items (lists w) (rest ++ m ∷ []) [] = subst (λ todo. AreWaitingBy rows w.sound.items w.passed.items (lists w) todo []) c.in-Some.ensures.items c.loop-m.invariant.waiting in
    let aside = take_aside rows w.sound.items w.passed.items (lists w) rest m there was in
    let after : AreWaiting rows s c.take-files.result.items = subst (AreWaiting rows s) (sym t.taken)
    (same_waiting rows w.sound.items s.sound.items w.passed.items s.passed.items (slice_set (lists w) m []) (lists s) rest s.todo.items (list_of (lists w) m)
    (ap (λ v. v.items) t.sound) (ap (λ v. v.items) t.passed) t.lists (ap (λ v. v.items) t.todo) aside) in
    record {
      sized = c.in_ok-release-2.ensures.sized;
      waiting = c.in_ok-release-2.ensures.waiting after;
    }
