use Rattle.std.proofs.Common.{rules, ◌≡◌, ◌++◌}
use Rattle.json.specs.Print.{quoted}
use Rattle.serde_json.specs.Written.{comma_if}
use Rattle.star_report.proofs.Members.{one_text}
use Rattle.star_report.proofs.more.with_text.Goals as goal

pub returns : goal.returns
returns c =
    let last : c.extend_from_slice.new.self.items ≡ c.in_ok-text-2.text.items ++ c.args.json.now = search rules in
    one_text c.args.text.items (comma_if c.args.later) (quoted c.args.name.now) c.args.json.now c.extend_from_slice.new.self.items c.in_ok-text.text.items c.in_ok-text-2.text.items c.in_ok-text.ensures c.in_ok-text-2.ensures last
