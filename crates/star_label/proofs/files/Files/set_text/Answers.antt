use Rattle.std.proofs.Common.{arith, ap, length, map, subst, sym, ◌≡◌, ◌≤◌, ◌<◌, ◌∙◌, List, String}
use Rattle.std.specs.Arc.{arc_value}
use Rattle.std.specs.declared.alloc.Global.{Global}
use Rattle.std.specs.Prelude.{string_bytes}
use Rattle.std.proofs.lemmas.List.{length-map, length-set}
use Rattle.std.specs.Cmp.Lexicographic.{slice_cmp}
use Rattle.std.specs.List.Sorted.{IsStrictlySortedBy}
use Rattle.std.specs.Ordering.{nat_cmp}
use Rattle.star_label.specs.Files.{File, IsOrdered, label_at, shared_file, with_text}
use Rattle.star_label.proofs.Texts.{labels_kept, set_shared}
use Rattle.star_label.proofs.files.Files.set_text.Goals as goal

pub invariant_of-self : goal.invariant_of-self
invariant_of-self c =
    let es = c.self.inside.entries.items in
    let fs : List File = map shared_file es in
    let n = c.args.n in
    let text = string_bytes (arc_value c.in_ok-text.text) in
    let width = length-map es shared_file in
    let count : length (map shared_file es) ≡ length c.args.self.now = ap length c.self.view_is in
    let asked = c.requires in
    let room : n < length es = omega (arith, width, count, asked) in
    let set = set_shared es n c.index_mut.result.now c.in_ok-text.text room c.index_mut.ensures.value in
    let long : length (with_text fs n text) ≡ length fs = length-set fs n (label_at fs n, text) in
    let few = c.self.invariant.1 in
    subst (λ (gs : List File). IsOrdered gs × (length gs ≤ 10000)) (sym set)
    (subst (IsStrictlySortedBy (slice_cmp nat_cmp)) (sym (labels_kept fs n text)) c.self.invariant.0, omega (arith, long, few))

pub returns-clause-set : goal.returns-clause-set
returns-clause-set c =
    let es = c.self.inside.entries.items in
    let n = c.args.n in
    let width = length-map es shared_file in
    let count : length (map shared_file es) ≡ length c.args.self.now = ap length c.self.view_is in
    let asked = c.requires in
    let room : n < length es = omega (arith, width, count, asked) in
    set_shared es n c.index_mut.result.now c.in_ok-text.text room c.index_mut.ensures.value
    ∙ (ap (λ (s : String Global). with_text (map shared_file es) n (string_bytes s)) c.in_ok-text.ensures.ok ∙ ap (λ (fs : List File). with_text fs n (string_bytes c.args.text)) c.self.view_is)
