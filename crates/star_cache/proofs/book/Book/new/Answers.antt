use Rattle.std.proofs.Common.{◌∙◌, None, arith}
use Rattle.star_cache.specs.declared.entry.Entry.TheVariants.{Fresh}
use Rattle.star_cache.proofs.New.{StandsFor-new, replicate-push, begun-new}
use Rattle.star_cache.proofs.RowsLemmas.{StandsFor-is, IsKept-from, no_row}
use Rattle.star_cache.proofs.book.Book.new.Goals as goal

pub loop-i-preserved : goal.loop-i-preserved
loop-i-preserved g c = record {
  entries = c.in_ok-push.ensures.items ∙ replicate-push c.loop-i._i Fresh c.loop-i.entries.items c.loop-i.invariant.entries;
  parents = c.in_ok-push-2.ensures.items ∙ replicate-push c.loop-i._i None c.loop-i.parents.items c.loop-i.invariant.parents;
  owners = c.in_ok-push-3.ensures.items ∙ replicate-push c.loop-i._i 0 c.loop-i.owners.items c.loop-i.invariant.owners;
}

pub loop-s-preserved : goal.loop-s-preserved
loop-s-preserved g c = c.in_ok-push-4.ensures.items ∙ replicate-push c.loop-s._s no_row c.loop-s.rows.items c.loop-s.invariant

pub invariant_of-result : goal.invariant_of-result
invariant_of-result g c = (
  IsKept-from _ _ _ _ _ _ _ _ _
      (StandsFor-new g.P.Product.loads g.P.Product.IsReached g.P.Product.IsRight g.P.Product.files c.args.files c.args.loaders c.loop-i._i c.loop-s._s _ _ _ _ c.requires.files c.requires.few c.requires.loaders.1 (omega arith) (omega arith)
      c.loop-i.invariant.entries c.loop-i.invariant.parents c.loop-i.invariant.owners c.loop-s.invariant),
  begun-new _ _ c.loop-i.invariant.entries,
)

pub returns : goal.returns
returns g c =
    StandsFor-is _ _ _ _ _ _ _ _ _
    (StandsFor-new g.P.Product.loads g.P.Product.IsReached g.P.Product.IsRight g.P.Product.files c.args.files c.args.loaders c.loop-i._i c.loop-s._s _ _ _ _ c.requires.files c.requires.few c.requires.loaders.1 (omega arith) (omega arith)
    c.loop-i.invariant.entries c.loop-i.invariant.parents c.loop-i.invariant.owners c.loop-s.invariant)
