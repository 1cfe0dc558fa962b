use denote.Exit.{no}
use denote.Param.Send.{param_send, param_sync, arg_send, arg_sync}
use Rattle.star_reading.proofs.Moving.{share_send, readers_sync}
use Rattle.star_reading.proofs.reading.Reader.read_shares.Goals as goal

pub map_indices-requires-send-X : goal.map_indices-requires-send-X
map_indices-requires-send-X g c κs within = param_send 1 _ (arg_send _ no _ (share_send _))

pub map_indices-requires-sync-F : goal.map_indices-requires-sync-F
map_indices-requires-sync-F g c κs within = param_sync 3 _ (arg_sync _ no _ (readers_sync _ _ _ _ _ _ c.type_bounds.sync-R _))
