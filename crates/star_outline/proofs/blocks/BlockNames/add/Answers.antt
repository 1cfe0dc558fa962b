use Rattle.std.proofs.Common.{rules, ◌≡◌, ◌∷◌, ◌++◌, [], true, false, Some, ap, sym, subst, ◌∙◌, map, length, if◌then◌else◌}
use Rattle.std.specs.BTreeMap.{Updates}
use Rattle.std.proofs.lemmas.List.{map-append, length-map}
use Rattle.std.specs.Cmp.Lexicographic.{slice_cmp}
use Rattle.std.specs.Ordering.{nat_cmp}
use Rattle.star_outline.specs.Names.{Names, has_name, with_name}
use Rattle.star_outline.specs.Index.{HaveSlots}
use Rattle.star_outline.proofs.Numbers.{has_slot, slots_pushed}
use Rattle.star_outline.proofs.blocks.BlockNames.add.Goals as goal

pub returns-then-contains_key : goal.returns-then-contains_key
returns-then-contains_key c =
    let there : has_name c.args.self.now c.args.name.now ≡ true =
    ap (λ ns. has_name ns c.args.name.now) (sym c.self.view_is) ∙ sym (has_slot _ c.self.inside.slots c.args.name.now c.self.invariant) ∙ sym c.contains_key.ensures ∙ c.if-contains_key.true in
    sym (ap (λ b. if b then c.args.self.now else c.args.self.now ++ c.args.name.now ∷ []) there)

pub invariant_of-self-in-Ok : goal.invariant_of-self-in-Ok
invariant_of-self-in-Ok c =
    let items = c.self.inside.names.items in
    let names : Names = map (λ n. n.now) items in
    let absent : has_name names c.args.name.now ≡ false =
    sym (has_slot names c.self.inside.slots c.args.name.now c.self.invariant) ∙ sym c.contains_key.ensures ∙ c.if-contains_key.false in
    let more : map (λ n. n.now) c.push.new.self.items ≡ names ++ c.args.name.now ∷ [] =
    ap (λ ns. map (λ n. n.now) ns) c.in_ok-push.ensures.items ∙ map-append (λ n. n.now) items (c.args.name ∷ []) in
    let slot : c.len-slot.result ≡ length names = search (rules, length-map) in
    subst (λ ns. HaveSlots ns c.insert.new.self) (sym more)
    (slots_pushed names c.args.name c.self.inside.slots c.insert.new.self c.self.invariant absent
    (subst (λ l. Updates (λ x y. slice_cmp nat_cmp x.now y.now) c.self.inside.slots c.insert.new.self c.args.name (Some l)) slot c.in-Ok.ensures.updates))

pub returns-in-Ok : goal.returns-in-Ok
returns-in-Ok c =
    let items = c.self.inside.names.items in
    let names : Names = map (λ n. n.now) items in
    let absent : has_name names c.args.name.now ≡ false =
    sym (has_slot names c.self.inside.slots c.args.name.now c.self.invariant) ∙ sym c.contains_key.ensures ∙ c.if-contains_key.false in
    ap (λ ns. map (λ n. n.now) ns) c.in_ok-push.ensures.items ∙ map-append (λ n. n.now) items (c.args.name ∷ [])
    ∙ sym (ap (λ b. if b then names else names ++ c.args.name.now ∷ []) absent)
    ∙ ap (λ ns. with_name ns c.args.name.now) c.self.view_is
