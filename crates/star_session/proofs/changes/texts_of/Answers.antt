use Rattle.std.proofs.Common.{map, take, ap, ◌∙◌, string_bytes, rules, arith, ◌≡◌, ◌+◌, suc}
use Rattle.std.specs.BTreeMap.{insert_entry}
use Rattle.star_label.specs.Files.{file_of, label_at, text_at}
use Rattle.star_session.proofs.FilesAfter.{R, inserted, next_file}
use Rattle.star_session.proofs.changes.texts_of.Goals as goal

pub loop-n-preserved : goal.loop-n-preserved
loop-n-preserved c =
    let files = c.args.files.now in
    let es = c.loop-n.texts.entries in
    let label = c.in_ok-copied.ensures ∙ c.label.ensures in
    let text = c.in_ok-text.ensures.ok ∙ c.text.ensures in
    ap (map file_of) c.in_ok-insert.ensures.entries
    ∙ inserted es c.in_ok-copied.field-0 c.in_ok-text.text
    ∙ ap (λ l. insert_entry R (map file_of es) l (string_bytes c.in_ok-text.text)) label
    ∙ ap (λ t. insert_entry R (map file_of es) (label_at files c.loop-n.n) t) text
    ∙ ap (λ fs. insert_entry R fs (label_at files c.loop-n.n) (text_at files c.loop-n.n)) c.loop-n.invariant
    ∙ next_file files c.loop-n.n c.len-n-end.ensures.ordered (search rules)
    ∙ ap (λ n. take n files) (let next : suc c.loop-n.n ≡ c.loop-n.n + 1 = omega arith in next)
