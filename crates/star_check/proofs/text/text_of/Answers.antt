use Rattle.std.proofs.Common.{subst, sym, map}
use Rattle.serde_json.specs.View.{view}
use Rattle.star_reading.specs.Found.{AreMarked}
use Rattle.star_check.proofs.Shown.{text_is}
use Rattle.star_check.proofs.text.text_of.Goals as goal

pub returns : goal.returns
returns c =
    let roots = c.args.roots.now in
    let marked : AreMarked roots c.as_slice-marked.result.now = subst (AreMarked roots) (sym c.as_slice-marked.ensures.value) c.in_ok-marks.ensures.marks in
    text_is c.args.files.now c.args.only_roots c.args.calls roots c.args.judged.now (view c.in_ok-value.value) (map view c.in_ok-modules.modules.items) c.in_ok-text.text.items c.push.new.self.items
    c.in_ok-value.ensures (c.in_ok-modules.ensures roots marked) c.in_ok-text.ensures.text c.in_ok-push.ensures.items
