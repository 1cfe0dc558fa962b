use Rattle.std.proofs.Common.{arith, rules, ◌≡◌, ◌<◌, ◌∙◌, ◌∷◌, ◌++◌, ◌+◌, [], ℕ, List, Some, ap, suc, sym, subst, length, slice_index_or}
use denote.Ref.{Bor}
use Rattle.std.specs.Prelude.{slice_get}
use Rattle.std.specs.List.{insert}
use Rattle.star_attribute.specs.Attributes.{shown_names}
use Rattle.star_attribute.proofs.Once.{After, after_more, at_place, put_before, put_last, put_there}
use Rattle.star_attribute.proofs.attributes.put_name.Goals as goal

-- the name at a place of a row that is as it was
name_at : (row es : List (Bor (List ℕ))) (i : ℕ) (e : Bor (List ℕ)) → i < length es → row ≡ es → e ≡ slice_index_or row i e → slice_get es i ≡ Some e
name_at row es i e less same is = at_place es i e less ∙ ap Some (sym (is ∙ ap (λ xs. slice_index_or xs i e) same))

pub returns-in-Less : goal.returns-in-Less
returns-in-Less c =
    let es = c.args.names.now.items in
    let i = c.loop-i.i in
    let e = c.index.result.now in
    let at = name_at c.loop-i.names.items es i e (search rules) c.loop-i.invariant.names c.index.ensures in
    let new : c.insert.new.self.items ≡ insert es i c.args.name = c.in_ok-insert-in-Less.ensures.items ∙ ap (λ xs. insert xs i c.args.name) c.loop-i.invariant.names in
    ap shown_names new ∙ put_before c.args.name es i e c.loop-i.invariant.after at (sym c.cmp.ensures ∙ c.in-Less.is)

pub returns-in-Equal : goal.returns-in-Equal
returns-in-Equal c =
    let es = c.args.names.now.items in
    let at = name_at c.loop-i.names.items es c.loop-i.i c.index.result.now (search rules) c.loop-i.invariant.names c.index.ensures in
    ap shown_names c.loop-i.invariant.names ∙ put_there c.args.name es c.loop-i.i c.index.result.now c.loop-i.invariant.after at (sym c.cmp.ensures ∙ c.in-Equal.is)

pub loop-i-preserved : goal.loop-i-preserved
loop-i-preserved c =
    let es = c.args.names.now.items in
    let i = c.loop-i.i in
    let e = c.index.result.now in
    let at = name_at c.loop-i.names.items es i e (search rules) c.loop-i.invariant.names c.index.ensures in
    let next : suc i ≡ i + 1 = omega arith in
    record {
      names = c.loop-i.invariant.names;
      after = subst (After c.args.name.now es) next (after_more c.args.name es i e c.loop-i.invariant.after at (sym c.cmp.ensures ∙ c.in-Greater.is));
    }

pub returns : goal.returns
returns c =
    let es = c.args.names.now.items in
    let last : c.loop-i.i ≡ length es = search rules in
    let new : c.push.new.self.items ≡ es ++ c.args.name ∷ [] = search rules in
    ap shown_names new ∙ put_last c.args.name es c.loop-i.i c.loop-i.invariant.after last
