use denote.Exit.{no}
use denote.Param.Send.{param_send, param_sync, arg_send, arg_sync}
use Rattle.star_memo.proofs.Moving.{share_send, parsers_sync}
use Rattle.star_memo.proofs.ahead.Parser.parse_shares.Goals as goal

pub map_indices-requires-send-X : goal.map_indices-requires-send-X
map_indices-requires-send-X g c κs within = param_send 1 _ (arg_send _ no _ share_send)

pub map_indices-requires-sync-F : goal.map_indices-requires-sync-F
map_indices-requires-sync-F g c κs within = param_sync 3 _ (arg_sync _ no _ (parsers_sync _ _ _ _ _ _ _ c.type_bounds.sync-R _))
