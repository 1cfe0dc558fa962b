use denote.Exit.{no}
use denote.Param.Send.{param_send, arg_send}
use Rattle.star_memo.proofs.Moving.{readings_send}
use Rattle.star_memo.proofs.readings.Readings.free_apart.Goals as goal

pub free_apart-requires-send-T : goal.free_apart-requires-send-T
free_apart-requires-send-T g c κs within = param_send 0 _ (arg_send _ no _ (readings_send _))
