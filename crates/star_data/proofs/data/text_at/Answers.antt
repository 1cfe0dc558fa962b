use Rattle.std.proofs.Common.{rules, ◌≡◌, Some, sym}
use Rattle.star_data.specs.Stores.{look_in}
use Rattle.star_data.specs.Data.{cell_of, text_in}
use Rattle.star_data.proofs.Strings.{text_key}
use Rattle.star_data.proofs.data.text_at.Goals as goal

pub returns-in-Some-Text : goal.returns-in-Some-Text
returns-in-Some-Text c =
    let there : text_in (cell_of (look_in c.args.stores.now) c.args.value) ≡ Some c.as_str.result.now = search rules in
    sym (text_key _ c.as_str.result.now there c.as_str.utf8)
