use Rattle.std.proofs.Common.{◌≡◌, ◌++◌, ap, sym, ◌∙◌, false, string_bytes, rules}
use Rattle.std.specs.Char.{encode_utf8}
use Rattle.std.specs.Str.{chars, encode_utf8_all}
use Rattle.std.proofs.lemmas.Iterator.{YieldsList-from_chars}
use Rattle.std.proofs.lemmas.Iterator.Consumers.{YieldsList-end}
use Rattle.star_strings.specs.Strings.{cased, headed_after}
use Rattle.star_strings.proofs.Titles.{ends_small, ends_more, map_self, headed_more}
use Rattle.star_strings.proofs.cases.headed.Goals as goal

pub loop-c-preserved : goal.loop-c-preserved
loop-c-preserved c =
    let before = c.loop-c.yielded in
    let ch = c.in-Some.c in
    let same : c.cased.result ≡ cased (ends_small c.args.heads false before) ch = c.cased.ensures ∙ ap (λ b. cased b ch) c.loop-c.invariant.1 in (
      c.in_ok-push.ensures.bytes ∙ ap (λ z. z ++ encode_utf8 c.cased.result) c.loop-c.invariant.0 ∙ ap (λ x. encode_utf8_all (headed_after c.args.heads false before) ++ encode_utf8 x) same ∙ sym (headed_more c.args.heads false before ch),
      c.small_after-small.ensures ∙ sym (ends_more c.args.heads false before ch),
    )

pub returns : goal.returns
returns c =
    let t = YieldsList-end (YieldsList-from_chars c.args.text.now c.utf8.text cc) c.loop-c.yielded _ c.loop-c.yielded_by _ _ c.in-None.is c.next.ensures.steps in
    let same : c.loop-c.yielded ≡ chars c.args.text.now = sym (map_self c.loop-c.yielded) ∙ t.0 in
    let whole : string_bytes c.loop-c.made ≡ encode_utf8_all (headed_after c.args.heads false (chars c.args.text.now)) = c.loop-c.invariant.0 ∙ ap (λ cs. encode_utf8_all (headed_after c.args.heads false cs)) same in
    search (rules, whole)
