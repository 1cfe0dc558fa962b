use Rattle.star_serve.proofs.Shown.{is_line}
use Rattle.star_serve.proofs.progress.Notes.line.Goals as goal

pub returns : goal.returns
returns c = is_line c.progress_line.result _ _ _ c.progress_line.ensures
