use Rattle.std.proofs.Common.{◌≡◌, ◌≤◌, [], None, drop, length, take, true, ap, sym, subst, ◌∙◌, arith}
use Rattle.std.specs.List.{list_all}
use Rattle.star_store.specs.Slots.{default_at, row}
use Rattle.star_enter.specs.Ordered.{AreTaken, bound_row, is_set, placed, extra_in_order, unplaced, with_named, with_plain}
use Rattle.star_enter.proofs.OrderedRows.{bound_slots, fits}
use Rattle.star_enter.proofs.ordered.bind_in_order.Goals as goal

pub returns : goal.returns
returns c =
    let l = c.args.order.now.layout.now in
    let names = c.args.order.now.names.now in
    let ds = c.args.defaults.now in
    let g = c.args.given.now in
    let some : c.split_plain.result.0.now ≡ placed l g = c.split_plain.ensures.placed ∙ ap (λ n. take n c.as_slice.result.now) c.positional.ensures ∙ ap (take l.positional) c.as_slice.ensures in
    let more : c.split_plain.result.1.now ≡ unplaced l g = c.split_plain.ensures.left ∙ ap (λ n. drop n c.as_slice.result.now) c.positional.ensures ∙ ap (drop l.positional) c.as_slice.ensures in
    let given = c.as_slice-named.ensures in
    let all : c.set_plain.new.slots ≡ bound_row l names ds g =
    c.in_ok-set_plain.ensures
    ∙ ap (λ vs. with_plain 0 vs c.set_named.new.slots) some
    ∙ ap (λ s. with_plain 0 (placed l g) s) (c.in_ok-set_named.ensures.set c.if-not-branch.false)
    ∙ ap (λ ns. with_plain 0 (placed l g) (with_named l names ns c.in_ok-slots.slots)) given
    ∙ ap (λ s. with_plain 0 (placed l g) (with_named l names g.named s)) c.in_ok-slots.ensures
    ∙ ap (λ rs. with_plain 0 (placed l g) (with_named l names g.named (row (default_at rs c.in_ok-share.field-0) c.len-2.result))) c.in_ok-ranks.ensures
    ∙ ap (λ es. with_plain 0 (placed l g) (with_named l names g.named (row (default_at l.ranks es) c.len-2.result))) c.in_ok-share.ensures
    ∙ ap (λ n. with_plain 0 (placed l g) (with_named l names g.named (row (default_at l.ranks ds) n))) c.len-2.ensures
    ∙ bound_slots l names ds g in
    let few : l.rest ≡ None → unplaced l g ≡ [] = λ e. sym more ∙ c.are_all_placed.ensures c.if-not-are_all_placed.false e in
    let between = c.in_ok-set_named.ensures.taken c.if-not-branch.false in
    let taken : AreTaken l names (length (placed l g)) g.named =
    subst (λ ns. AreTaken l names (length (placed l g)) ns) given (subst (λ n. AreTaken l names n c.as_slice-named.result.now) (ap length some) between) in
    let enough : l.defaults ≤ length ds = omega (arith, c.if-len-defaults.false, c.len.ensures, c.defaults.ensures) in
    let set : list_all (is_set (bound_row l names ds g)) l.needed ≡ true =
    sym (ap (λ s. list_all (is_set s) l.needed) all) ∙ sym (ap (λ is. list_all (is_set c.set_plain.new.slots) is) c.needed.ensures) ∙ sym c.are_set.ensures ∙ c.if-not-are_set.false in
    record {
      fits = fits l names ds g few taken enough set;
      slots = all;
      rest = c.rest.ensures;
      more = more;
      others = c.names.ensures;
      left = c.in_ok-left_of.ensures (length c.split_plain.result.0.now) between ∙ ap (extra_in_order l names) given;
    }
