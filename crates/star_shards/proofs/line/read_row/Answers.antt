use Rattle.std.proofs.Common.{◌≡◌, true, false, ◌∷◌, ◌++◌, [], ap, arith, sym, ◌∙◌, subst}
use Rattle.std.specs.Prelude.{All, codes}
use Rattle.std.specs.Str.{bytes_eq}
use Rattle.std.proofs.lemmas.Bool.Decides.{nat_tests}
use Rattle.std.proofs.lemmas.List.{map_push}
use Rattle.std.proofs.lemmas.List.Elements.{All-nil, All-push}
use Rattle.std.proofs.lemmas.Slice.Eq.{bytes_eq-Decides}
use Rattle.star_shards.specs.Read.{IsRead, IsRow, texts}
use Rattle.star_shards.specs.declared.entry.Entry.{Entry}
use Rattle.star_shards.proofs.Bools.{apart}
use Rattle.star_shards.proofs.Rows.{Goes, empty_row, first_goes, last_entry, no_more, no_row, one_goes}
use Rattle.star_shards.proofs.line.read_row.Goals as goal

pub returns-then-eq : goal.returns-then-eq
returns-then-eq c =
    let content = c.args.content.now in
    let none = c.new-entries.ensures.items in
    let end : content ≡ codes "]}" = (bytes_eq-Decides content (codes "]}")).0 (sym c.eq.ensures ∙ c.if-eq.true) in
    (subst (λ es. IsRow content (texts es)) (sym none) (empty_row content end), subst (All IsRead) (sym none) (All-nil IsRead))

pub loop-entry-init : goal.loop-entry-init
loop-entry-init c =
    let content = c.args.content.now in
    let none = c.new-entries.ensures.items in
    let off : bytes_eq content (codes "]}") ≡ false = sym c.eq.ensures ∙ c.if-eq.false in
    record {
      goes = subst (λ es. Goes content (texts es) content) (sym none) (first_goes content (λ e. apart (bytes_eq content (codes "]}")) ((bytes_eq-Decides content (codes "]}")).1 e) off));
      read = subst (All IsRead) (sym none) (All-nil IsRead);
    }

pub returns-then-ne : goal.returns-then-ne
returns-then-ne c =
    let rest = c.loop-entry.rest.now in
    let e = c.in-Some.entry.text.now in
    let after = c.rest_of-after.result.now in
    let front : rest ≡ e ++ after = c.in-Some.ensures.front ∙ ap (λ w. e ++ w) (sym c.rest_of-after.ensures.value) in
    let off : bytes_eq after (codes "]}") ≡ false = grind (arith, c.ne.ensures, c.if-ne.true) in
    λ ts row. no_more c.args.content.now rest e after (texts c.loop-entry.entries.items) ts c.loop-entry.invariant.goes c.in-Some.ensures.entry front
    (λ q. apart (bytes_eq after (codes "]}")) ((bytes_eq-Decides after (codes "]}")).1 q) off) c.in_default-after_comma.ensures row

pub returns-in_default-after_comma : goal.returns-in_default-after_comma
returns-in_default-after_comma c =
    let rest = c.loop-entry.rest.now in
    let es = c.loop-entry.entries.items in
    let entry = c.in-Some.entry in
    let e = entry.text.now in
    let after = c.rest_of-after.result.now in
    let front : rest ≡ e ++ after = c.in-Some.ensures.front ∙ ap (λ w. e ++ w) (sym c.rest_of-after.ensures.value) in
    let on : bytes_eq after (codes "]}") ≡ true = grind (arith, c.ne.ensures, c.if-ne.false) in
    let pushed : c.push.new.self.items ≡ es ++ entry ∷ [] = c.in_ok-push.ensures.items in
    let all : texts c.push.new.self.items ≡ texts es ++ e ∷ [] = ap texts pushed ∙ map_push (λ (x : Entry). x.text.now) es entry in (
      subst (IsRow c.args.content.now) (sym all) (last_entry c.args.content.now rest e after (texts es) c.loop-entry.invariant.goes c.in-Some.ensures.entry front ((bytes_eq-Decides after (codes "]}")).0 on)),
      subst (All IsRead) (sym pushed) (All-push IsRead es entry c.loop-entry.invariant.read c.in-Some.ensures.read),
    )

pub loop-entry-preserved : goal.loop-entry-preserved
loop-entry-preserved c =
    let content = c.args.content.now in
    let rest = c.loop-entry.rest.now in
    let es = c.loop-entry.entries.items in
    let entry = c.in-Some.entry in
    let e = entry.text.now in
    let after = c.rest_of-after.result.now in
    let next = c.in-Some-after_comma.more.now in
    let front : rest ≡ e ++ after = c.in-Some.ensures.front ∙ ap (λ w. e ++ w) (sym c.rest_of-after.ensures.value) in
    let pushed : c.push.new.self.items ≡ es ++ entry ∷ [] = c.in_ok-push.ensures.items in
    let all : texts c.push.new.self.items ≡ texts es ++ e ∷ [] = ap texts pushed ∙ map_push (λ (x : Entry). x.text.now) es entry in
    record {
      goes = subst (λ ts. Goes content ts next) (sym all) (one_goes content rest e after next (texts es) c.loop-entry.invariant.goes c.in-Some.ensures.entry front c.in-Some-after_comma.ensures);
      read = subst (All IsRead) (sym pushed) (All-push IsRead es entry c.loop-entry.invariant.read c.in-Some.ensures.read);
    }

pub returns : goal.returns
returns c =
    λ ts row. no_row c.args.content.now c.loop-entry.rest.now (texts c.loop-entry.entries.items) ts c.loop-entry.invariant.goes (c.first_entry.ensures.none c.in_default.is) row
