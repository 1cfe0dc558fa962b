use Rattle.std.proofs.Common.{◌≡◌, Some, drop}
use Rattle.star_memo.specs.Lasting.{file_at}
use Rattle.star_memo.proofs.lasting.leads_to.Given as goal

abbrev pub invariant-loop-load : goal.invariant-loop-load
invariant-loop-load l = file_at l.loads l.token ≡ Some l.file → file_at (drop l.load-index l.loads) l.token ≡ Some l.file
