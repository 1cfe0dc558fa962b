use Rattle.std.proofs.Common.{arith, rules, ◌≡◌, ◌<◌, ◌∙◌, ◌∷◌, ◌++◌, ◌+◌, [], ℕ, List, Some, ap, suc, sym, subst, length, slice_index_or}
use denote.Ref.{Bor}
use Rattle.std.specs.Prelude.{slice_get}
use Rattle.std.specs.List.{insert}
use Rattle.star_store.specs.declared.values.Value.{Value}
use Rattle.star_data.proofs.Builds.{at_place}
use Rattle.star_data.proofs.Rows.{After, after_more, put_before, put_last, put_never}
use Rattle.star_data.proofs.Sent.{Row}
use Rattle.star_data.proofs.data.put_new.Goals as goal

-- the entry at a place of a row that is as it was
entry_at : (row es : Row) (i : ℕ) (e : Bor (List ℕ) × Value) → i < length es → row ≡ es → e ≡ slice_index_or row i e → slice_get es i ≡ Some e
entry_at row es i e less same is = at_place es i e less ∙ ap Some (sym (is ∙ ap (λ xs. slice_index_or xs i e) same))

pub returns-in-Less : goal.returns-in-Less
returns-in-Less c =
    let es = c.args.row.now.items in
    let i = c.loop-i.i in
    let e = c.index.result.now in
    let less : i < length es = search rules in
    let at = entry_at c.loop-i.row.items es i e less c.loop-i.invariant.row c.index.ensures in
    let new : c.insert.new.self.items ≡ insert es i (c.args.key, c.args.value) = c.in_ok-insert-in-Less.ensures.items ∙ ap (λ xs. insert xs i (c.args.key, c.args.value)) c.loop-i.invariant.row in
    ap Some new ∙ sym (put_before c.args.key c.args.value es i e c.loop-i.invariant.after at (sym c.cmp.ensures ∙ c.in-Less.is))

pub returns-in-Equal : goal.returns-in-Equal
returns-in-Equal c =
    let at = entry_at c.loop-i.row.items c.args.row.now.items c.loop-i.i c.index.result.now (search rules) c.loop-i.invariant.row c.index.ensures in
    sym (put_never c.args.key c.args.value c.args.row.now.items c.loop-i.i c.index.result.now c.loop-i.invariant.after at (sym c.cmp.ensures ∙ c.in-Equal.is))

pub loop-i-preserved : goal.loop-i-preserved
loop-i-preserved c =
    let es = c.args.row.now.items in
    let i = c.loop-i.i in
    let e = c.index.result.now in
    let at = entry_at c.loop-i.row.items es i e (search rules) c.loop-i.invariant.row c.index.ensures in
    let next : suc i ≡ i + 1 = omega arith in
    record {
      row = c.loop-i.invariant.row;
      after = subst (After c.args.key.now es) next (after_more c.args.key c.args.value es i e c.loop-i.invariant.after at (sym c.cmp.ensures ∙ c.in-Greater.is));
    }

pub returns : goal.returns
returns c =
    let es = c.args.row.now.items in
    let last : c.loop-i.i ≡ length es = search rules in
    let new : c.push.new.self.items ≡ es ++ (c.args.key, c.args.value) ∷ [] = search rules in
    ap Some new ∙ sym (put_last c.args.key c.args.value es c.loop-i.i c.loop-i.invariant.after last)
