use Rattle.std.proofs.Common.{◌≡◌, ◌<◌, ◌++◌, ◌∷◌, [], None, Some, length, map, refl, ap, subst, sym, ◌∙◌}
use Rattle.std.specs.Prelude.{slice_get, slice_set}
use Rattle.std.proofs.lemmas.List.{length-map}
use Rattle.star_sound.specs.Waiting.{IsMarked, list_of, lists}
use Rattle.star_sound.proofs.Steps.{go_mark, go_wait, got_none, got_some, need_inside, on_ok, passes_read, same_waiting}
use Rattle.star_sound.proofs.sound.Waits.go_on.Goals as goal

pub returns-in-Some-clause-waiting : goal.returns-in-Some-clause-waiting
returns-in-Some-clause-waiting c =
    let w = c.args.self.now in
    let s = c.wait.new.self in
    let n = c.args.n in
    let m = c.in-Some.m.now in
    let its = c.args.its.now in
    let place = c.first_from-place.result in
    let sl = c.as_slice.ensures.value in
    let inside : n < length w.passed.items = subst (λ k. n < k) (sym c.requires.sized.passed) c.requires.file in
    let passes = passes_read w.sound.items c.as_slice.result.now its w.passed.items n c.index.result.now place sl inside c.index.ensures c.first_from-place.ensures.passed in
    let at : slice_get its place ≡ Some m = got_some its place c.get.result c.in-Some.m c.get.ensures.lookup.3 c.in-Some.is in
    let clear : IsMarked w.sound.items m → ⊥ = λ h. c.first_from-place.ensures.stops m at (subst (λ ms. IsMarked ms m) (sym sl) h) in
    let there : m < length (lists w) = subst (λ k. m < k) (sym c.requires.sized.waiting ∙ sym (length-map w.waiting.items (λ v. v.items))) (need_inside its (length w.sound.items) place m c.requires.its at) in
    on_ok c.wait.result (λ ls needs aside has was.
    same_waiting needs w.sound.items s.sound.items (slice_set w.passed.items n place) s.passed.items (slice_set (lists w) m (list_of (lists w) m ++ n ∷ [])) (lists s) w.todo.items s.todo.items aside
    (ap (λ v. v.items) c.wait.ensures.sound) (ap (λ v. v.items) c.wait.ensures.passed) ls (ap (λ v. v.items) c.wait.ensures.todo)
    (go_wait needs w.sound.items w.passed.items (lists w) w.todo.items aside n place its inside has passes was m there at clear))
    c.wait.ensures.lists

pub returns-in-None-clause-waiting : goal.returns-in-None-clause-waiting
returns-in-None-clause-waiting c =
    let w = c.args.self.now in
    let s = c.mark.new.self in
    let its = c.args.its.now in
    let place = c.first_from-place.result in
    let inside : c.args.n < length w.passed.items = subst (λ k. c.args.n < k) (sym c.requires.sized.passed) c.requires.file in
    let passes = passes_read w.sound.items c.as_slice.result.now its w.passed.items c.args.n c.index.result.now place c.as_slice.ensures.value inside c.index.ensures c.first_from-place.ensures.passed in
    let end : slice_get its place ≡ None = got_none its place c.get.result c.get.ensures.lookup.3 c.in-None.is in
    on_ok c.mark.result (λ more needs aside has was.
    same_waiting needs s.sound.items s.sound.items (slice_set w.passed.items c.args.n place) s.passed.items (lists w) (lists s) s.todo.items s.todo.items aside
    refl (ap (λ v. v.items) c.mark.ensures.passed) (ap (λ v. map (λ x. x.items) v.items) c.mark.ensures.waiting) refl
    (go_mark needs w.sound.items w.passed.items (lists w) w.todo.items aside c.args.n place its inside has passes was s.sound.items s.todo.items end more))
    c.mark.ensures.more
