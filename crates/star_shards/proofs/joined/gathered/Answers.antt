use Rattle.std.proofs.Common.{◌≡◌, ◌<◌, ◌≤◌, true, false, length, get_or, ap, refl, sym, ◌∙◌, subst, arith}
use Rattle.std.specs.BTreeMap.{is_at}
use Rattle.std.specs.Map.{lookup}
use Rattle.std.specs.Str.{bytes_eq}
use Rattle.std.proofs.lemmas.List.{get_or_default}
use Rattle.std.proofs.lemmas.Slice.Eq.{bytes_eq-Decides}
use Rattle.star_shards.specs.Joined.{is_among}
use Rattle.star_shards.specs.Read.{IsRead, by_bytes}
use Rattle.star_shards.proofs.Gathering.{Keyed, Repeats, all_read, among_more, blank, differ, is_join, kept, keyed_insert, none_keyed, repeats_none, repeats_some}
use Rattle.star_shards.proofs.Bools.{apart}
use Rattle.star_shards.proofs.joined.gathered.Goals as goal
use Rattle.star_shards.proofs.joined.gathered.Goals.{in-Some+else-ne, in_default}

pub loop-entry-init : goal.loop-entry-init
loop-entry-init c = record {
  keyed = none_keyed c.new-known.result.entries c.new-known.ensures.empty;
  all = λ t. ap (λ es. is_among (kept es) t) c.new-known.ensures.empty;
}

pub returns-then-ne-clause-differ : goal.returns-then-ne-clause-differ
returns-then-ne-clause-differ c =
    let xs = c.args.entries.now in
    let i = c.loop-entry.entry-index in
    let lt : i < length xs = omega arith in
    let x = get_or xs i blank in
    let w = c.in-Some.other in
    let off : bytes_eq w.text.now x.text.now ≡ false = grind (arith, c.ne.ensures, c.if-ne.true) in
    differ xs i x w c.loop-entry.known.entries x.label lt (get_or_default xs i blank x lt) c.loop-entry.invariant.keyed (c.requires i blank lt) refl c.loop-entry.invariant.all
    (sym c.in_ok-other.ensures.old ∙ c.in-Some.is) (λ q. apart (bytes_eq w.text.now x.text.now) ((bytes_eq-Decides w.text.now x.text.now).1 q) off)

pub loop-entry-preserved : goal.loop-entry-preserved
loop-entry-preserved c =
    let xs = c.args.entries.now in
    let i = c.loop-entry.entry-index in
    let lt : i < length xs = omega arith in
    let x = get_or xs i blank in
    let is : x ≡ get_or xs i x = get_or_default xs i blank x lt in
    let es = c.loop-entry.known.entries in
    let read : IsRead x = c.requires i blank lt in
    let old = c.in_ok-other.ensures.old in
    let repeats : Repeats (lookup (is_at (by_bytes x.label)) es) x.text.now = elim c.match-branch-2.branch [
      | in-Some+else-ne w ↦ (let on : bytes_eq w.in-Some.other.text.now x.text.now ≡ true = grind (arith, w.ne.ensures, w.if-ne.false) in
          repeats_some (lookup (is_at (by_bytes x.label)) es) w.in-Some.other x.text.now (sym old ∙ w.in-Some.is) ((bytes_eq-Decides w.in-Some.other.text.now x.text.now).0 on))
      | in_default w ↦ repeats_none (lookup (is_at (by_bytes x.label)) es) x.text.now (sym old ∙ w.in_default.is)
    ] in
    record {
      keyed = subst Keyed (sym c.in_ok-other.ensures.entries) (keyed_insert es x.label x c.loop-entry.invariant.keyed (record { key = sym read.label; read = read }));
      all = λ t. ap (λ fs. is_among (kept fs) t) c.in_ok-other.ensures.entries ∙ among_more t xs i x es x.label lt is repeats (c.loop-entry.invariant.all t);
    }

pub returns-clause-join : goal.returns-clause-join
returns-clause-join c =
    let xs = c.args.entries.now in
    let le : length xs ≤ c.loop-entry.entry-index = omega arith in
    is_join xs c.in_ok-in_order.field-0.items c.loop-entry.entry-index c.loop-entry.known.entries le c.in_ok-in_order.ensures.items c.loop-entry.invariant.keyed c.in_ok-in_order.ensures.order c.loop-entry.invariant.all

pub returns-clause-read : goal.returns-clause-read
returns-clause-read c = all_read c.loop-entry.known.entries c.in_ok-in_order.field-0.items c.in_ok-in_order.ensures.items c.loop-entry.invariant.keyed
