use Rattle.std.proofs.Common.{false}
use Rattle.star_meaning.specs.Arguments.{key_for}
use Rattle.star_meaning.proofs.KeepsArguments.{keeps-key_for}
use Rattle.star_machine.proofs.Gathering.{still_gathered}
use Rattle.star_builtin.proofs.dicts.put_named.Goals as goal

pub put-requires : goal.put-requires
put-requires c = still_gathered c.args.setting.now c.args.machine.now c.key_for.new.self c.args.gathered.now (key_for c.args.line c.args.named.now) c.in_ok-key.key ((keeps-key_for {q = false} c.args.line c.args.named.now).stays) c.in_ok-key.ensures c.requires
