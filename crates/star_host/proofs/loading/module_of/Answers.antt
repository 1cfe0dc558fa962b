use Rattle.std.proofs.Common.{map, refl, ap, sym, ◌∙◌}
use Rattle.star_reading.proofs.Rows.{loads_are}
use Rattle.star_host.proofs.loading.module_of.Goals as goal

pub returns : goal.returns
returns g c = record {
  number = refl;
  loads = c.in_ok-loads.ensures ∙ ap (map (λ l. l.file)) c.loads.ensures ∙ ap (map (λ l. l.file)) (sym (loads_are g.J.RunId.plan c.args.common.now.reads.now c.args.n c.requires.row));
  ended = c.requires.end;
}
