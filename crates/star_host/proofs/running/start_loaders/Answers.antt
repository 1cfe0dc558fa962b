use denote.Exit.{no}
use denote.Param.{param}
use denote.Param.Send.{param_sync, arg_sync}
use Rattle.star_host.proofs.Sharing.{loader_sync}
use Rattle.star_host.proofs.running.start_loaders.Goals as goal

pub for_each_mut-requires-sync-F : goal.for_each_mut-requires-sync-F
for_each_mut-requires-sync-F g c κs within =
    let all = loader_sync (param 0 g.row.J) g.J.RunId g.J.Ledger (param 1 g.row.R) (param 2 g.row.G) _ _ _ _ _ _ _ _ _ _ c.type_bounds.sync-R c.type_bounds.sync-G _ in
    param_sync 2 _ (arg_sync _ no _ all)
