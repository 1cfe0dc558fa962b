use Rattle.std.proofs.Common.{rules, ◌≡◌, ◌∷◌, [], length, map, refl, sym, ap, ◌∙◌, string_bytes, false, String}
use Rattle.std.specs.declared.alloc.Global.{Global}
use Rattle.std.specs.Prelude.{vec_len}
use Rattle.std.specs.BTreeMap.{insert_entry}
use Rattle.std.specs.Cmp.Lexicographic.{slice_cmp}
use Rattle.std.specs.Ordering.{nat_cmp}
use Rattle.std.specs.List.{list_all}
use Rattle.std.proofs.lemmas.List.{map-append}
use Rattle.std.proofs.lemmas.List.Folds.{list_all-map}
use Rattle.std.proofs.lemmas.Iterator.Adapters.{YieldsList-from_vec}
use Rattle.std.proofs.lemmas.Iterator.Consumers.{YieldsList-turn}
use Rattle.star_label.specs.Files.{file_of}
use Rattle.star_label.specs.View.{text_of}
use Rattle.star_bundle.specs.Bundle.{is_label, labelled, with_files}
use Rattle.star_bundle.specs.View.{member_view}
use Rattle.star_bundle.proofs.ByLabel.{all_more, inserted, none_of_all, one_more}
use Rattle.star_bundle.proofs.Labels.{is_no_label, is_some_label}
use Rattle.star_bundle.proofs.bundle.labelled.Goals as goal

pub loop-key-init : goal.loop-key-init
unfolding with_files
loop-key-init c = (tt, tt, refl, ap (map file_of) c.new-files.ensures.empty)

pub returns-in_default : goal.returns-in_default
unfolding labelled
returns-in_default c =
    let v = c.into_iter-key-iterator.ensures.into_iter_gives in
    let size : vec_len c.args.texts ≡ length c.args.texts.items = search rules in
    let turn = YieldsList-turn (YieldsList-from_vec {s = c.into_iter-key-iterator.result} c.args.texts.items v.0 (v.1 ∙ size)) c.loop-key.yielded c.loop-key.key-iterator c.loop-key.yielded_by c.next.result c.next.new.self (c.in-Some.key, c.in-Some.text) c.in-Some.is c.next.ensures.steps in
    let no : is_label (string_bytes c.in-Some.key) ≡ false = is_no_label _ _ c.in_ok-label.field-0 c.in_ok-label.ensures c.in_default.is c.as_str.ensures.value in
    let all : list_all (λ m. is_label (member_view m).0) c.args.texts.items ≡ false = none_of_all (λ m. is_label (member_view m).0) c.args.texts.items (length c.loop-key.yielded) (c.in-Some.key, c.in-Some.text) turn.0 turn.1 no in
    rw (list_all-map (λ f. is_label f.0) member_view c.args.texts.items, all) refl

pub loop-key-preserved : goal.loop-key-preserved
loop-key-preserved c =
    let some = is_some_label _ _ c.in_ok-label.field-0 c.in-Some-2.label c.in_ok-label.ensures c.in-Some-2.is c.as_str.ensures.value in
    let item : String Global × String Global = (c.in-Some.key, c.in-Some.text) in
    let front = map member_view c.loop-key.yielded in
    let named : text_of c.in-Some-2.label ≡ string_bytes c.in-Some.key = some.1 in
    let added : map file_of c.insert.new.self.entries ≡ insert_entry (slice_cmp nat_cmp) (map file_of c.loop-key.files.entries) (string_bytes c.in-Some.key) (string_bytes c.in-Some.text) =
    ap (map file_of) c.in_ok-insert.ensures.entries ∙ inserted c.loop-key.files.entries c.in-Some-2.label c.in-Some.text
    ∙ ap (λ k. insert_entry (slice_cmp nat_cmp) (map file_of c.loop-key.files.entries) k (string_bytes c.in-Some.text)) named in
    let kept : map file_of c.loop-key.files.entries ≡ with_files [] front = c.loop-key.invariant.3 in
    let longer = map-append member_view c.loop-key.yielded (item ∷ []) in (
      tt,
      tt,
      ap (list_all (λ f. is_label f.0)) longer ∙ all_more (λ f. is_label f.0) front (member_view item) c.loop-key.invariant.2 some.0,
      added ∙ ap (λ es. insert_entry (slice_cmp nat_cmp) es (string_bytes c.in-Some.key) (string_bytes c.in-Some.text)) kept ∙ sym (one_more [] front (member_view item)) ∙ ap (with_files []) (sym longer),
    )
