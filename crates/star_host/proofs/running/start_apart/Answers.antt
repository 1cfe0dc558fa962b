use denote.Exit.{no}
use denote.Param.{param}
use denote.Param.Send.{arg_send, param_send}
use Rattle.star_host.proofs.Sharing.{apart_send}
use Rattle.star_host.proofs.running.start_apart.Goals as goal

pub join_mut-requires-send-F : goal.join_mut-requires-send-F
join_mut-requires-send-F g c κs within =
    let all = apart_send (param 0 g.row.J) g.J.RunId g.J.Ledger (param 1 g.row.R) (param 2 g.row.G) _ _ _ _ _ _ _ _ _ _ c.type_bounds.sync-R c.type_bounds.sync-G _ _ _ in
    param_send 1 _ (arg_send _ no _ all)
