-- Ends that are known before a run.
use Rattle.std.proofs.Common.{◌≡◌, ℕ, List, [], Option, Some, None, Result, Ok, Err, sym, subst}
use Rattle.std.specs.Arc.{arc_value}
use Rattle.std.specs.Prelude.{IfOk, IfSome, slice_get}
use Rattle.std.specs.declared.alloc.AllocError.{AllocError}
use Rattle.std.specs.declared.alloc.Global.{Global}
use Rattle.std.specs.declared.sync.Arc.{Arc}
use Rattle.star_dialect.specs.declared.Mode.{Mode}
use Rattle.star_label.specs.Files.{File}
use Rattle.star_plan.specs.Plan.{Plan}
use Rattle.star_plan.specs.Reached.{IsReached}
use Rattle.star_outcome.specs.GoodEnds.{AreGoodEndsOf}
use Rattle.star_outcome.specs.Views.{IsBody, IsEnd}
use Rattle.star_outcome.proofs.GoodEnds.{fresh_body}
use Rattle.star_outcome.specs.declared.module.Body.{Body}
use Rattle.star_outcome.specs.declared.module.Ended.TheVariants.{Good}
use Rattle.star_host.specs.Worlds.{HasBody, IsContext}
use Rattle.star_host.specs.declared.common.LoadContext.{LoadContext}

-- none is known
pub no_ends : (files : List File) (roots : List ℕ) (prelude : Option ℕ) (mode : Mode) → AreGoodEndsOf files roots prelude mode []
no_ends files roots prelude mode plan planned of_roots of_prelude of_mode n e at reached = absurd (let no : ⊥ = cc in no)

-- a body that is known is the end of its file
pub known_end : (files : List File) (plan : Plan) (shelf : List ℕ) (c : LoadContext) (n : ℕ) (o : Option (Arc Body Global)) (b : Arc Body Global) → IsContext files plan shelf c → IsReached plan n → o ≡ Some b → IfSome o (HasBody c n) → IsEnd plan n (Good b)
known_end files plan shelf c n o b world reached is known =
    let has : HasBody c n b = subst (λ x. IfSome x (HasBody c n)) is known in
    subst (IsBody plan n) (sym has.3) (fresh_body plan n has.0 (world.ends_are n has.0 has.1 reached) has.2)
