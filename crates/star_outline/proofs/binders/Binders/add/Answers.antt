use Rattle.std.proofs.Common.{rules, ◌≡◌, ◌≤◌, ℕ, true, false, Some, None, ap, sym, ◌∙◌, subst, length}
use Rattle.std.specs.BTreeMap.{get_by}
use Rattle.std.specs.Cmp.Lexicographic.{slice_cmp}
use Rattle.std.specs.Ordering.{nat_cmp}
use Rattle.star_outline.specs.Binders.{noted_at}
use Rattle.star_outline.proofs.Noted.{kept_new, noted_past}
use Rattle.star_outline.proofs.binders.Binders.add.Goals as goal
use Rattle.star_outline.proofs.binders.Binders.add.Goals.{in-Some+else-id-len, in_default}

pub returns-clause-kept : goal.returns-clause-kept
returns-clause-kept c =
    let old = c.args.self.now in
    let sets = old.numbers.items in
    let none : (k : ℕ) → noted_at sets (get_by (λ x. slice_cmp nat_cmp c.args.name.now x.now) old.ids) k ≡ false =
    elim c.match-copied.branch [
      | in-Some+else-id-len w ↦
          let is : get_by (λ x. slice_cmp nat_cmp c.args.name.now x.now) old.ids ≡ Some w.in-Some.id = search rules in
          let past : length sets ≤ w.in-Some.id = search rules in
          λ k. ap (λ o. noted_at sets o k) is ∙ noted_past sets w.in-Some.id k past
      | in_default w ↦
          let is : get_by (λ x. slice_cmp nat_cmp c.args.name.now x.now) old.ids ≡ None = search rules in
          λ k. ap (λ o. noted_at sets o k) is
    ] in
    λ n k h.
    subst (λ xs. noted_at xs (get_by (λ x. slice_cmp nat_cmp n x.now) c.insert-3.new.self) k ≡ true) (sym c.in_ok-push.ensures.items)
    (kept_new sets c.insert-2.new.self old.ids c.insert-3.new.self c.args.name c.len-id.result none c.in_ok-insert-3.ensures.updates n k h)
