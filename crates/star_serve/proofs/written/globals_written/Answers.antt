use Rattle.std.proofs.Common.{string_bytes, subst}
use Rattle.star_report.specs.Gets.{GotFor}
use Rattle.star_serve.proofs.GotWritten.{global_said, global_output, lack_below}
use Rattle.star_serve.proofs.WrittenTexts.{if_ok-map}
use Rattle.star_serve.proofs.written.globals_written.Goals as goal

pub got_written-requires : goal.got_written-requires
got_written-requires c = lack_below _ c.args.roots.now c.in_ok-got.got c.requires.roots c.in_ok-got.ensures.among

pub returns-clause-text : goal.returns-clause-text
returns-clause-text c =
    let files = c.args.files.now in
    if_ok-map c.got_written.result
    (λ w h row plan of. global_output files plan c.args.name.now c.in_ok-got.got w.text.items (string_bytes w.said) w.all_ok
    (subst (λ n. GotFor plan n c.in_ok-got.got) c.as_str.ensures.value (c.in_ok-got.ensures.got plan of.planned of.roots_are of.modules)) h)
    c.got_written.ensures

pub returns-clause-said : goal.returns-clause-said
returns-clause-said c =
    let files = c.args.files.now in
    if_ok-map c.got_written.result
    (λ w h row plan of. global_said files plan c.args.name.now c.in_ok-got.got w.text.items (string_bytes w.said) w.all_ok
    (subst (λ n. GotFor plan n c.in_ok-got.got) c.as_str.ensures.value (c.in_ok-got.ensures.got plan of.planned of.roots_are of.modules)) h)
    c.got_written.ensures
