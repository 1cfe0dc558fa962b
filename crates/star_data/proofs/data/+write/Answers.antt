use Rattle.std.proofs.Common.{arith, rules, ◌≡◌, ◌<◌, ◌-◌, ◌+◌, ◌∙◌, ◌∷◌, ◌++◌, [], ℕ, List, Bor, Some, None, IsUtf8, ap, sym, subst, true, length, map, suc, take, drop, get_or, refl}
use Rattle.std.specs.Option.{IfSome, option_copied, option_map}
use Rattle.std.proofs.lemmas.List.{drop_all, drop_more, map-append, take_all, take_more}
use Rattle.std.specs.Result.{IfOk}
use Rattle.std.proofs.lemmas.Result.{IfOk-weaker}
use Rattle.serde_json.specs.Data.{array, object}
use Rattle.star_store.specs.declared.values.Value.{Value}
use Rattle.star_store.specs.declared.values.Value.TheVariants.{NoneValue}
use Rattle.star_store.specs.declared.values.Cell.TheVariants as cell
use Rattle.std.specs.Prelude.{slice_get}
use Rattle.star_store.specs.Fields.{names_of, rises}
use Rattle.star_data.specs.Stores.{look_in}
use Rattle.star_data.specs.Data.{cell_data, cell_of, data_of, entries_data, int_data, key_in, value_data}
use Rattle.star_data.specs.Paths.{AllStandInEach, StandsInEach}
use Rattle.star_data.specs.Rows.{IsRowOf}
use Rattle.star_data.specs.Texts.{Sends, row_data}
use Rattle.star_data.proofs.Builds.{at_place, by_ref, data_at, data_at_none, entry_no_key, in_a_dict, in_a_list, in_a_set, in_a_struct, in_a_tuple, is_none, item_none, mapped_at, no_cell_data, one_back, rest_none}
use Rattle.star_data.proofs.Fields.{fields_begin, fields_end, fields_more, fields_none, from_place, rise_from}
use Rattle.star_data.proofs.Sent.{HidesData, LeftMembers, SentItems, entry_hides_none, entry_more, found_stands, items_begin, items_end, items_more, members_begin, members_end, members_more, members_none, none_sent, says_none, says_some, sends_none, sends_some, sent_as, some_sent, stand_insert}
use Rattle.star_data.proofs.data.+write.Goals as goal

pub is_data-write_value-requires : goal.is_data-write_value-requires
is_data-write_value-requires t c = (omega arith, c.requires)

pub write_cell-write_items-requires : goal.write_cell-write_items-requires
write_cell-write_items-requires t c =
    let see = look_in c.args.stores.now in
    let xs = c.as_slice.result.now in
    let is : cell_of see c.args.value ≡ Some (cell.Tuple xs) = search rules in
    (omega arith, in_a_tuple see c.args.path.now.items c.args.value xs is c.requires.path)

pub write_cell-write_set-requires : goal.write_cell-write_set-requires
write_cell-write_set-requires t c =
    let see = look_in c.args.stores.now in
    let es = c.as_slice-in-Some-Set.result.now in
    let is : cell_of see c.args.value ≡ Some (cell.Set es) = search rules in
    (omega arith, in_a_set see c.args.path.now.items c.args.value es is c.requires.path)

pub write_cell-write_struct-requires : goal.write_cell-write_struct-requires
write_cell-write_struct-requires t c =
    let see = look_in c.args.stores.now in
    let fs = c.get.result.now in
    let is : cell_of see c.args.value ≡ Some (cell.Struct fs) = search rules in
    (omega arith, in_a_struct see c.args.path.now.items c.args.value fs is c.requires.path)

pub write_list-returns-then-is_within-clause-data : goal.write_list-returns-then-is_within-clause-data
write_list-returns-then-is_within-clause-data t c =
    let see = look_in c.args.stores.now in
    sends_none _ _ _ (no_cell_data see c.args.levels c.args.path.now.items c.args.value (cell.List c.args.items.now) c.requires.cell c.requires.path (cc (c.deref.ensures.value, c.is_within.ensures, c.if-is_within.true)))

pub write_list-write_items-requires : goal.write_list-write_items-requires
write_list-write_items-requires t c =
    let see = look_in c.args.stores.now in
    let xs = c.args.items.now in
    (omega arith, subst (λ p. AllStandInEach see p xs) (sym c.in_ok-push.ensures.items) (in_a_list see c.args.path.now.items c.args.value xs c.requires.cell c.requires.path))

pub write_dict-returns-then-is_within-clause-data : goal.write_dict-returns-then-is_within-clause-data
write_dict-returns-then-is_within-clause-data t c =
    let see = look_in c.args.stores.now in
    sends_none _ _ _ (no_cell_data see c.args.levels c.args.path.now.items c.args.value (cell.Dict c.args.entries.now) c.requires.cell c.requires.path (cc (c.deref.ensures.value, c.is_within.ensures, c.if-is_within.true)))

pub write_dict-write_entries-requires : goal.write_dict-write_entries-requires
write_dict-write_entries-requires t c =
    let see = look_in c.args.stores.now in
    let es = c.args.entries.now in
    (omega arith, subst (λ p. AllStandInEach see p (map (λ e. e.1) es)) (sym c.in_ok-push.ensures.items) (in_a_dict see c.args.path.now.items c.args.value es c.requires.cell c.requires.path))

-- ---- items

pub write_items-loop-item-init : goal.write_items-loop-item-init
write_items-loop-item-init t c =
    let f = data_of (look_in c.args.stores.now) c.args.levels in
    record {
      path = search rules;
      before = search rules;
      sent = items_begin f c.args.out.now.tokens c.begin_array.new.self.tokens (search rules);
    }

pub write_items-write_value-requires : goal.write_items-write_value-requires
write_items-write_value-requires t c =
    let see = look_in c.args.stores.now in
    let xs = c.args.items.now in
    let i = c.loop-item.item-index in
    let less : i < length xs = omega (arith, c.loop-item-test.true, c.loop-item.auto.item-index-end) in
    (omega arith, subst (λ p. StandsInEach see p (get_or xs i NoneValue)) (sym c.loop-item.invariant.path) (c.requires.all i (get_or xs i NoneValue) (at_place xs i NoneValue less)))

pub write_items-returns-then-not-branch-clause-data : goal.write_items-returns-then-not-branch-clause-data
write_items-returns-then-not-branch-clause-data t c =
    let see = look_in c.args.stores.now in
    let f = data_of see c.args.levels in
    let xs = c.args.items.now in
    let i = c.loop-item.item-index in
    let less : i < length xs = omega (arith, c.loop-item-test.true, c.loop-item.auto.item-index-end) in
    let none : f (get_or xs i NoneValue) ≡ None = none_sent _ _ _ _ c.in_ok-write_value.ensures.data (search rules) in
    sends_none _ _ _ (ap (option_map array) (item_none f xs i (get_or xs i NoneValue) (at_place xs i NoneValue less) none))

pub write_items-loop-item-preserved : goal.write_items-loop-item-preserved
write_items-loop-item-preserved t c =
    let see = look_in c.args.stores.now in
    let f = data_of see c.args.levels in
    let xs = c.args.items.now in
    let i = c.loop-item.item-index in
    let x = get_or xs i NoneValue in
    let less : i < length xs = omega (arith, c.loop-item-test.true, c.loop-item.auto.item-index-end) in
    let some = some_sent (f x) _ _ _ c.in_ok-write_value.ensures.data (search rules) in
    record {
      path = c.in_ok-write_value.ensures.path ∙ c.loop-item.invariant.path;
      before = c.write_value.ensures.before ∙ c.loop-item.invariant.before;
      sent = subst (λ ys. SentItems f ys c.args.out.now.tokens c.write_value.new.out.tokens) (sym (take_more xs i NoneValue less))
          (items_more f (take i xs) x some.0 c.args.out.now.tokens c.loop-item.out.tokens c.write_value.new.out.tokens c.loop-item.invariant.sent some.1 some.2);
    }

pub write_items-returns-clause-data : goal.write_items-returns-clause-data
write_items-returns-clause-data t c =
    let f = data_of (look_in c.args.stores.now) c.args.levels in
    let xs = c.args.items.now in
    let i = c.loop-item.item-index in
    let whole : take i xs ≡ xs = take_all i xs (omega (arith, c.loop-item-test.false, c.loop-item.auto.item-index-end)) in
    let sent : SentItems f xs c.args.out.now.tokens c.loop-item.out.tokens = subst (λ ys. SentItems f ys c.args.out.now.tokens c.loop-item.out.tokens) whole c.loop-item.invariant.sent in
    items_end f xs c.args.out.now.tokens c.loop-item.out.tokens c.end_array.new.self.tokens sent (search rules)

-- ---- elements of a set

-- the element at a place past the end
abbrev no_element : Value × Value
no_element = (NoneValue, NoneValue)

pub write_set-loop-element-init : goal.write_set-loop-element-init
write_set-loop-element-init t c =
    let f = data_of (look_in c.args.stores.now) c.args.levels in
    record {
      path = search rules;
      before = search rules;
      sent = items_begin f c.args.out.now.tokens c.begin_array.new.self.tokens (search rules);
    }

pub write_set-write_value-requires : goal.write_set-write_value-requires
write_set-write_value-requires t c =
    let see = look_in c.args.stores.now in
    let es = c.args.elements.now in
    let i = c.loop-element.element-index in
    let e = get_or es i no_element in
    let less : i < length es = omega (arith, c.loop-element-test.true, c.loop-element.auto.element-index-end) in
    (omega arith, subst (λ p. StandsInEach see p e.0) (sym c.loop-element.invariant.path) (c.requires.all i e.0 (mapped_at (λ e. e.0) es i e (at_place es i no_element less))))

pub write_set-returns-then-not-branch-clause-data : goal.write_set-returns-then-not-branch-clause-data
write_set-returns-then-not-branch-clause-data t c =
    let see = look_in c.args.stores.now in
    let f = data_of see c.args.levels in
    let es = c.args.elements.now in
    let i = c.loop-element.element-index in
    let e = get_or es i no_element in
    let less : i < length es = omega (arith, c.loop-element-test.true, c.loop-element.auto.element-index-end) in
    let none : f e.0 ≡ None = none_sent _ _ _ _ c.in_ok-write_value.ensures.data (search rules) in
    sends_none _ _ _ (ap (option_map array) (item_none f (map (λ e. e.0) es) i e.0 (mapped_at (λ e. e.0) es i e (at_place es i no_element less)) none))

pub write_set-loop-element-preserved : goal.write_set-loop-element-preserved
write_set-loop-element-preserved t c =
    let see = look_in c.args.stores.now in
    let f = data_of see c.args.levels in
    let es = c.args.elements.now in
    let i = c.loop-element.element-index in
    let e = get_or es i no_element in
    let less : i < length es = omega (arith, c.loop-element-test.true, c.loop-element.auto.element-index-end) in
    let some = some_sent (f e.0) _ _ _ c.in_ok-write_value.ensures.data (search rules) in
    let sofar : map (λ (e : Value × Value). e.0) (take (i + 1) es) ≡ map (λ (e : Value × Value). e.0) (take i es) ++ e.0 ∷ [] = ap (map (λ (e : Value × Value). e.0)) (take_more es i no_element less) ∙ map-append (λ (e : Value × Value). e.0) (take i es) (e ∷ []) in
    record {
      path = c.in_ok-write_value.ensures.path ∙ c.loop-element.invariant.path;
      before = c.write_value.ensures.before ∙ c.loop-element.invariant.before;
      sent = subst (λ ys. SentItems f ys c.args.out.now.tokens c.write_value.new.out.tokens) (sym sofar)
          (items_more f (map (λ (e : Value × Value). e.0) (take i es)) e.0 some.0 c.args.out.now.tokens c.loop-element.out.tokens c.write_value.new.out.tokens c.loop-element.invariant.sent some.1 some.2);
    }

pub write_set-returns-clause-data : goal.write_set-returns-clause-data
write_set-returns-clause-data t c =
    let f = data_of (look_in c.args.stores.now) c.args.levels in
    let es = c.args.elements.now in
    let i = c.loop-element.element-index in
    let whole : take i es ≡ es = take_all i es (omega (arith, c.loop-element-test.false, c.loop-element.auto.element-index-end)) in
    let sent : SentItems f (map (λ (e : Value × Value). e.0) es) c.args.out.now.tokens c.loop-element.out.tokens = subst (λ ys. SentItems f (map (λ (e : Value × Value). e.0) ys) c.args.out.now.tokens c.loop-element.out.tokens) whole c.loop-element.invariant.sent in
    items_end f (map (λ (e : Value × Value). e.0) es) c.args.out.now.tokens c.loop-element.out.tokens c.end_array.new.self.tokens sent (search rules)

-- ---- entries

pub write_entries-write_row-requires : goal.write_entries-write_row-requires
write_entries-write_row-requires t c =
    let see = look_in c.args.stores.now in
    let es = c.args.entries.now in
    let row : IsRowOf see es c.in-Some.row.items = subst (λ o. IfSome o (λ row. IsRowOf see es row.items)) c.in-Some.is c.in_ok-row.ensures in
    (omega arith, subst (λ ms. AllStandInEach see c.args.path.now.items (map (λ e. e.1) ms)) (sym c.deref.ensures.value) (row.stand c.args.path.now.items c.requires))

pub write_entries-returns-in-Some-clause-data : goal.write_entries-returns-in-Some-clause-data
write_entries-returns-in-Some-clause-data t c =
    let see = look_in c.args.stores.now in
    let f = data_of see c.args.levels in
    let es = c.args.entries.now in
    let row : IsRowOf see es c.in-Some.row.items = subst (λ o. IfSome o (λ row. IsRowOf see es row.items)) c.in-Some.is c.in_ok-row.ensures in
    let same : row_data f c.deref.result.now ≡ entries_data see f es = ap (row_data f) c.deref.ensures.value ∙ sym (row.data_as f) in
    IfOk-weaker c.write_row.result _ _ (λ b h. sent_as _ _ b c.args.out.now.tokens c.write_row.new.out.tokens (ap (option_map object) same) h) c.write_row.ensures.data

pub write_many-loop-i-init : goal.write_many-loop-i-init
write_many-loop-i-init t c =
    let see = look_in c.args.stores.now in
    let f = data_of see c.args.levels in
    let es = c.args.entries.now in
    let blank : c.new-members.result.entries ≡ [] = c.new-members.ensures.empty in
    record {
      path = search rules;
      out = search rules;
      row = ap (entries_data see f) (drop_all (length es) es (omega arith)) ∙ ap (row_data f) (sym blank);
      stand = subst (λ ms. AllStandInEach see c.args.path.now.items (map (λ e. e.1) ms)) (sym blank) (record { all = λ i x at. absurd (let no : ⊥ = cc in no) });
    }

pub write_many-returns-in_default-clause-data : goal.write_many-returns-in_default-clause-data
write_many-returns-in_default-clause-data t c =
    let see = look_in c.args.stores.now in
    let f = data_of see c.args.levels in
    let es = c.args.entries.now in
    let i = c.loop-i.i - 1 in
    let e = get_or es i (NoneValue, NoneValue) in
    let less : i < length es = omega (arith, c.loop-i-test.true, c.loop-i.auto.i) in
    let none : key_in (cell_of see e.0) ≡ None = sym c.text_at.ensures ∙ ap option_copied (is_none c.text_at.result c.in_default.not-Some) in
    sends_none _ _ _ (ap (option_map object) (entry_no_key see f es i e (at_place es i (NoneValue, NoneValue) less) none))

pub write_many-is_data-requires : goal.write_many-is_data-requires
write_many-is_data-requires t c =
    let see = look_in c.args.stores.now in
    let there = sym c.in_ok-hidden.ensures.old ∙ c.in-Some-hidden.is in
    (omega arith, subst (λ p. StandsInEach see p c.in-Some-hidden.hidden) (sym c.loop-i.invariant.path) (found_stands see c.args.path.now.items c.in-Some.key c.loop-i.members.entries c.in-Some-hidden.hidden there c.loop-i.invariant.stand))

pub write_many-returns-then-not-branch-clause-data : goal.write_many-returns-then-not-branch-clause-data
write_many-returns-then-not-branch-clause-data t c =
    let see = look_in c.args.stores.now in
    let f = data_of see c.args.levels in
    let es = c.args.entries.now in
    let there = sym c.in_ok-hidden.ensures.old ∙ c.in-Some-hidden.is in
    let none : f c.in-Some-hidden.hidden ≡ None = says_none _ _ c.in_ok-is_data.ensures.data (search rules) in
    let row : row_data f c.loop-i.members.entries ≡ None = entry_hides_none f c.in-Some.key c.loop-i.members.entries c.in-Some-hidden.hidden there none in
    sends_none _ _ _ (ap (option_map object) (rest_none see f es c.loop-i.i (c.loop-i.invariant.row ∙ row)))

pub write_many-loop-i-preserved-else-not-branch : goal.write_many-loop-i-preserved-else-not-branch
write_many-loop-i-preserved-else-not-branch t c =
    let see = look_in c.args.stores.now in
    let f = data_of see c.args.levels in
    let es = c.args.entries.now in
    let i = c.loop-i.i - 1 in
    let e = get_or es i (NoneValue, NoneValue) in
    let less : i < length es = omega (arith, c.loop-i-test.true, c.loop-i.auto.i) in
    let old = c.in_ok-hidden.ensures.old in
    let some = says_some _ _ c.in_ok-is_data.ensures.data (search rules) in
    let hides : HidesData f c.in_ok-hidden.hidden = subst (HidesData f) (sym c.in-Some-hidden.is) some in
    let text : key_in (cell_of see e.0) ≡ Some c.in-Some.key.now = sym c.text_at.ensures ∙ ap option_copied c.in-Some.is in
    let stands = c.requires.all i e.1 (mapped_at (λ e. e.1) es i e (at_place es i (NoneValue, NoneValue) less)) in
    record {
      path = c.in_ok-is_data.ensures.path ∙ c.loop-i.invariant.path;
      out = search rules;
      row = entry_more see f (drop i es) (drop c.loop-i.i es) e c.in-Some.key c.loop-i.members.entries c.insert.new.self.entries (one_back es c.loop-i.i (omega (arith, c.loop-i-test.true)) less) text c.loop-i.invariant.row (subst (HidesData f) old hides) c.in_ok-hidden.ensures.entries;
      stand = subst (λ ms. AllStandInEach see c.args.path.now.items (map (λ e. e.1) ms)) (sym c.in_ok-hidden.ensures.entries) (stand_insert see c.args.path.now.items c.loop-i.members.entries c.in-Some.key e.1 c.loop-i.invariant.stand stands);
    }

pub write_many-loop-i-preserved : goal.write_many-loop-i-preserved
write_many-loop-i-preserved t c =
    let see = look_in c.args.stores.now in
    let f = data_of see c.args.levels in
    let es = c.args.entries.now in
    let i = c.loop-i.i - 1 in
    let e = get_or es i (NoneValue, NoneValue) in
    let less : i < length es = omega (arith, c.loop-i-test.true, c.loop-i.auto.i) in
    let old = c.in_ok-hidden.ensures.old in
    let hides : HidesData f c.in_ok-hidden.hidden = subst (HidesData f) (sym (is_none c.in_ok-hidden.hidden c.in_default-hidden.not-Some)) tt in
    let text : key_in (cell_of see e.0) ≡ Some c.in-Some.key.now = sym c.text_at.ensures ∙ ap option_copied c.in-Some.is in
    let stands = c.requires.all i e.1 (mapped_at (λ e. e.1) es i e (at_place es i (NoneValue, NoneValue) less)) in
    record {
      path = c.loop-i.invariant.path;
      out = search rules;
      row = entry_more see f (drop i es) (drop c.loop-i.i es) e c.in-Some.key c.loop-i.members.entries c.insert.new.self.entries (one_back es c.loop-i.i (omega (arith, c.loop-i-test.true)) less) text c.loop-i.invariant.row (subst (HidesData f) old hides) c.in_ok-hidden.ensures.entries;
      stand = subst (λ ms. AllStandInEach see c.args.path.now.items (map (λ e. e.1) ms)) (sym c.in_ok-hidden.ensures.entries) (stand_insert see c.args.path.now.items c.loop-i.members.entries c.in-Some.key e.1 c.loop-i.invariant.stand stands);
    }

pub write_many-write_members-requires : goal.write_many-write_members-requires
write_many-write_members-requires t c =
    let see = look_in c.args.stores.now in
    (omega arith, subst (λ p. AllStandInEach see p (map (λ e. e.1) c.loop-i.members.entries)) (sym c.loop-i.invariant.path) c.loop-i.invariant.stand)

pub write_many-returns-clause-data : goal.write_many-returns-clause-data
write_many-returns-clause-data t c =
    let see = look_in c.args.stores.now in
    let f = data_of see c.args.levels in
    let es = c.args.entries.now in
    let none_left : c.loop-i.i ≡ 0 = omega (arith, c.loop-i-test.false) in
    let whole : entries_data see f es ≡ row_data f c.loop-i.members.entries = ap (λ k. entries_data see f (drop k es)) (sym none_left) ∙ c.loop-i.invariant.row in
    IfOk-weaker c.write_members.result _ _ (λ b h. sent_as _ _ b c.args.out.now.tokens c.write_members.new.out.tokens (ap (option_map object) (sym whole)) (subst (λ ts. Sends (option_map object (row_data f c.loop-i.members.entries)) b ts c.write_members.new.out.tokens) (ap (λ o. o.tokens) c.loop-i.invariant.out) h)) c.write_members.ensures.data

-- ---- members

pub write_members-loop-key-init : goal.write_members-loop-key-init
write_members-loop-key-init t c =
    let see = look_in c.args.stores.now in
    let f = data_of see c.args.levels in
    let all : c.into_iter-key-iterator.result ≡ c.args.members.now.entries = search rules in
    record {
      path = search rules;
      before = search rules;
      sent = subst (λ left. LeftMembers f c.args.members.now.entries left c.args.out.now.tokens c.begin_object.new.self.tokens) (sym all) (members_begin f c.args.members.now.entries c.args.out.now.tokens c.begin_object.new.self.tokens (search rules));
      stand = subst (λ left. AllStandInEach see c.args.path.now.items (map (λ e. e.1) left)) (sym all) c.requires;
    }

pub write_members-write_value-requires : goal.write_members-write_value-requires
write_members-write_value-requires t c =
    let see = look_in c.args.stores.now in
    let step = c.in-Some.ensures.steps in
    let stand : AllStandInEach see c.args.path.now.items (map (λ e. e.1) ((c.in-Some.key.now, c.in-Some.value.now) ∷ c.next.new.self)) = subst (λ left. AllStandInEach see c.args.path.now.items (map (λ e. e.1) left)) step c.loop-key.invariant.stand in
    (omega arith, subst (λ p. StandsInEach see p c.in-Some.value.now) (sym c.loop-key.invariant.path) (stand.all 0 c.in-Some.value.now refl))

pub write_members-returns-then-not-branch-clause-data : goal.write_members-returns-then-not-branch-clause-data
write_members-returns-then-not-branch-clause-data t c =
    let f = data_of (look_in c.args.stores.now) c.args.levels in
    let none : f c.in-Some.value.now ≡ None = none_sent _ _ _ _ c.in_ok-write_value.ensures.data (search rules) in
    sends_none _ _ _ (ap (option_map object) (members_none f c.args.members.now.entries (c.in-Some.key.now, c.in-Some.value.now) c.next.new.self c.loop-key.key-iterator c.args.out.now.tokens c.loop-key.out.tokens c.loop-key.invariant.sent c.in-Some.ensures.steps none))

pub write_members-loop-key-preserved : goal.write_members-loop-key-preserved
write_members-loop-key-preserved t c =
    let see = look_in c.args.stores.now in
    let f = data_of see c.args.levels in
    let e : Bor (List ℕ) × Value = (c.in-Some.key.now, c.in-Some.value.now) in
    let step = c.in-Some.ensures.steps in
    let some = some_sent (f c.in-Some.value.now) _ _ _ c.in_ok-write_value.ensures.data (search rules) in
    let stand : AllStandInEach see c.args.path.now.items (map (λ e. e.1) (e ∷ c.next.new.self)) = subst (λ left. AllStandInEach see c.args.path.now.items (map (λ e. e.1) left)) step c.loop-key.invariant.stand in
    record {
      path = c.in_ok-write_value.ensures.path ∙ c.loop-key.invariant.path;
      before = search rules;
      sent = members_more f c.args.members.now.entries e c.next.new.self c.loop-key.key-iterator some.0 c.args.out.now.tokens c.loop-key.out.tokens c.key.new.self.tokens c.write_value.new.out.tokens c.loop-key.invariant.sent step some.1 (search rules) some.2;
      stand = record { all = λ i x at. stand.all (suc i) x at };
    }

pub write_members-returns-clause-data : goal.write_members-returns-clause-data
write_members-returns-clause-data t c =
    let f = data_of (look_in c.args.stores.now) c.args.levels in
    members_end f c.args.members.now.entries c.loop-key.key-iterator c.args.out.now.tokens c.loop-key.out.tokens c.end_object.new.self.tokens c.loop-key.invariant.sent c.in-None.ensures.steps.0 (search rules)

-- ---- a row

-- the entry at a place past the end of a row
abbrev no_member : Bor (List ℕ) × Value
no_member = (record { ref_ptr = (0, 0); now = [] }, NoneValue)

pub write_row-loop-member-init : goal.write_row-loop-member-init
write_row-loop-member-init t c =
    let f = data_of (look_in c.args.stores.now) c.args.levels in
    record {
      path = search rules;
      before = search rules;
      sent = members_begin f c.args.row.now c.args.out.now.tokens c.begin_object.new.self.tokens (search rules);
    }

pub write_row-write_value-requires : goal.write_row-write_value-requires
write_row-write_value-requires t c =
    let see = look_in c.args.stores.now in
    let es = c.args.row.now in
    let i = c.loop-member.member-index in
    let e = get_or es i no_member in
    let less : i < length es = omega (arith, c.loop-member-test.true, c.loop-member.auto.member-index-end) in
    (omega arith, subst (λ p. StandsInEach see p e.1) (sym c.loop-member.invariant.path) (c.requires.all i e.1 (mapped_at (λ e. e.1) es i e (at_place es i no_member less))))

pub write_row-returns-then-not-branch-clause-data : goal.write_row-returns-then-not-branch-clause-data
write_row-returns-then-not-branch-clause-data t c =
    let f = data_of (look_in c.args.stores.now) c.args.levels in
    let es = c.args.row.now in
    let i = c.loop-member.member-index in
    let e = get_or es i no_member in
    let less : i < length es = omega (arith, c.loop-member-test.true, c.loop-member.auto.member-index-end) in
    let none : f e.1 ≡ None = none_sent _ _ _ _ c.in_ok-write_value.ensures.data (search rules) in
    sends_none _ _ _ (ap (option_map object) (members_none f es e (drop (i + 1) es) (drop i es) c.args.out.now.tokens c.loop-member.out.tokens c.loop-member.invariant.sent (drop_more es i no_member less) none))

pub write_row-loop-member-preserved : goal.write_row-loop-member-preserved
write_row-loop-member-preserved t c =
    let f = data_of (look_in c.args.stores.now) c.args.levels in
    let es = c.args.row.now in
    let i = c.loop-member.member-index in
    let e = get_or es i no_member in
    let less : i < length es = omega (arith, c.loop-member-test.true, c.loop-member.auto.member-index-end) in
    let some = some_sent (f e.1) _ _ _ c.in_ok-write_value.ensures.data (search rules) in
    record {
      path = c.in_ok-write_value.ensures.path ∙ c.loop-member.invariant.path;
      before = search rules;
      sent = members_more f es e (drop (i + 1) es) (drop i es) some.0 c.args.out.now.tokens c.loop-member.out.tokens c.key.new.self.tokens c.write_value.new.out.tokens c.loop-member.invariant.sent (drop_more es i no_member less) some.1 (search rules) some.2;
    }

pub write_row-returns-clause-data : goal.write_row-returns-clause-data
write_row-returns-clause-data t c =
    let f = data_of (look_in c.args.stores.now) c.args.levels in
    let es = c.args.row.now in
    let i = c.loop-member.member-index in
    let none_left : drop i es ≡ [] = drop_all i es (omega (arith, c.loop-member-test.false, c.loop-member.auto.member-index-end)) in
    members_end f es (drop i es) c.args.out.now.tokens c.loop-member.out.tokens c.end_object.new.self.tokens c.loop-member.invariant.sent none_left (search rules)

-- ---- fields

pub write_struct-loop-i-init : goal.write_struct-loop-i-init
write_struct-loop-i-init t c =
    let f = data_of (look_in c.args.stores.now) c.args.levels in
    record {
      path = search rules;
      before = search rules;
      sent = fields_begin f c.args.fields.now c.args.out.now.tokens c.begin_object.new.self.tokens (search rules);
    }

pub write_struct-write_value-requires : goal.write_struct-write_value-requires
write_struct-write_value-requires t c =
    let see = look_in c.args.stores.now in
    let fs = c.args.fields.now in
    let e : List ℕ × Value = (c.in-Some.name.now, c.in-Some.value) in
    let at : slice_get fs c.loop-i.i ≡ Some e = search rules in
    (omega arith, subst (λ p. StandsInEach see p e.1) (sym c.loop-i.invariant.path) (c.requires.all c.loop-i.i e.1 (mapped_at (λ f. f.1) fs c.loop-i.i e at)))

pub write_struct-returns-then-not-branch-clause-data : goal.write_struct-returns-then-not-branch-clause-data
write_struct-returns-then-not-branch-clause-data t c =
    let f = data_of (look_in c.args.stores.now) c.args.levels in
    let fs = c.args.fields.now in
    let i = c.loop-i.i in
    let e : List ℕ × Value = (c.in-Some.name.now, c.in-Some.value) in
    let at : slice_get fs i ≡ Some e = search rules in
    let none : f e.1 ≡ None = none_sent _ _ _ _ c.in_ok-write_value.ensures.data (search rules) in
    sends_none _ _ _ (ap (option_map object) (fields_none f fs e (drop (i + 1) fs) (drop i fs) c.args.out.now.tokens c.loop-i.out.tokens c.loop-i.invariant.sent (from_place fs i e at) none))

pub write_struct-loop-i-preserved : goal.write_struct-loop-i-preserved
write_struct-loop-i-preserved t c =
    let f = data_of (look_in c.args.stores.now) c.args.levels in
    let fs = c.args.fields.now in
    let i = c.loop-i.i in
    let e : List ℕ × Value = (c.in-Some.name.now, c.in-Some.value) in
    let there : slice_get fs i ≡ Some e = search rules in
    let at = from_place fs i e there in
    let order : rises (names_of fs) ≡ true = c.len-i-end.ensures.order in
    let some = some_sent (f e.1) _ _ _ c.in_ok-write_value.ensures.data (search rules) in
    let utf8 : IsUtf8 e.0 = subst IsUtf8 c.as_str.ensures c.as_str.utf8 in
    record {
      path = c.in_ok-write_value.ensures.path ∙ c.loop-i.invariant.path;
      before = search rules;
      sent = fields_more f fs e (drop (i + 1) fs) (drop i fs) some.0 c.args.out.now.tokens c.loop-i.out.tokens c.key.new.self.tokens c.write_value.new.out.tokens c.loop-i.invariant.sent at utf8 (rise_from fs i e (drop (i + 1) fs) order at) some.1 (search rules) some.2;
    }

pub write_struct-returns-clause-data : goal.write_struct-returns-clause-data
write_struct-returns-clause-data t c =
    let f = data_of (look_in c.args.stores.now) c.args.levels in
    let fs = c.args.fields.now in
    let i = c.loop-i.i in
    let none_left : drop i fs ≡ [] = drop_all i fs (omega (arith, c.loop-i-test.false, c.len-i-end.ensures.count)) in
    fields_end f fs (drop i fs) c.args.out.now.tokens c.loop-i.out.tokens c.end_object.new.self.tokens c.loop-i.invariant.sent none_left (search rules)

-- ---- values

pub write_value-returns-then-levels-eq0-clause-data : goal.write_value-returns-then-levels-eq0-clause-data
write_value-returns-then-levels-eq0-clause-data t c =
    let see = look_in c.args.stores.now in
    sends_none _ _ _ (ap (λ n. data_of see n c.args.value) c.if-levels-eq0.true ∙ data_at_none see c.args.value)

pub write_value-returns-in_ok-null-in-NoneValue-clause-data : goal.write_value-returns-in_ok-null-in-NoneValue-clause-data
write_value-returns-in_ok-null-in-NoneValue-clause-data t c =
    let see = look_in c.args.stores.now in
    sends_some _ _ _ _ (data_at see c.args.levels c.args.value (omega arith) ∙ ap (value_data see (data_of see (c.args.levels - 1))) c.in-NoneValue.is) (search rules)

pub write_value-returns-in_ok-boolean-in-Bool-clause-data : goal.write_value-returns-in_ok-boolean-in-Bool-clause-data
write_value-returns-in_ok-boolean-in-Bool-clause-data t c =
    let see = look_in c.args.stores.now in
    sends_some _ _ _ _ (data_at see c.args.levels c.args.value (omega arith) ∙ ap (value_data see (data_of see (c.args.levels - 1))) c.in-Bool.is) (search rules)

pub write_value-returns-in-Int-clause-data : goal.write_value-returns-in-Int-clause-data
write_value-returns-in-Int-clause-data t c =
    let see = look_in c.args.stores.now in
    let is = sym (data_at see c.args.levels c.args.value (omega arith) ∙ ap (value_data see (data_of see (c.args.levels - 1))) c.in-Int.is) in
    let sent : IfOk c.write_int.result (λ b. Sends (int_data c.in-Int.number) b c.args.out.now.tokens c.write_int.new.out.tokens) = search rules in
    IfOk-weaker c.write_int.result _ _ (λ b h. sent_as _ _ b c.args.out.now.tokens c.write_int.new.out.tokens is h) sent

pub write_value-returns-in-Builtin-clause-data : goal.write_value-returns-in-Builtin-clause-data
write_value-returns-in-Builtin-clause-data t c =
    let see = look_in c.args.stores.now in
    sends_none _ _ _ (data_at see c.args.levels c.args.value (omega arith) ∙ ap (value_data see (data_of see (c.args.levels - 1))) c.in-Builtin.is)

pub write_value-returns-in-Ref-clause-data : goal.write_value-returns-in-Ref-clause-data
write_value-returns-in-Ref-clause-data t c =
    let see = look_in c.args.stores.now in
    let below = data_of see (c.args.levels - 1) in
    let is = ap (cell_data see below) c.read-cell.ensures ∙ (by_ref see below c.args.value c.in-Ref.home c.in-Ref.at c.in-Ref.is ∙ sym (data_at see c.args.levels c.args.value (omega arith))) in
    IfOk-weaker c.write_cell.result _ _ (λ b h. sent_as _ _ b c.args.out.now.tokens c.write_cell.new.out.tokens is h) c.write_cell.ensures.data
