use Rattle.std.proofs.Common.{◌≡◌, ◌∙◌, true, ap, map, sym, rules}
use Rattle.std.specs.List.{list_any}
use Rattle.star_label.specs.Files.{is_too_long, shared_file}
use Rattle.star_label.proofs.Numbers.{long_found}
use Rattle.star_label.proofs.files.Files.has_long_text.Goals as goal

pub returns-then-len-gt-BYTES : goal.returns-then-len-gt-BYTES
returns-then-len-gt-BYTES c =
    let long : is_too_long (shared_file c.entry-item.result) ≡ true = search rules in
    let found = sym (long_found c.deref-entry-items.result.now c.loop-entry.entry-index c.entry-item.result c.entry-item.result c.loop-entry-test.true c.entry-item.is long) in
    found ∙ ap (list_any is_too_long) (ap (map shared_file) c.deref-entry-items.ensures.value ∙ c.self.view_is)
