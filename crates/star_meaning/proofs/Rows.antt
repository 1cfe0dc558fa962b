-- Worked programs, by computation: the end of each, and for most the exact number of steps; with one less it ends in
-- `steps`.
use Rattle.std.specs.Prelude.{◌≡◌, ℕ, List, Some, None, [], ◌∷◌, pos}
use Rattle.std.specs.Fmt.{digits}
use Rattle.std.proofs.Common.{refl}
use Rattle.star_tree.specs.declared.tree.Expression.{Expression, out-Expression}
use Rattle.star_tree.specs.declared.tree.Expression.TheVariants as e
use Rattle.star_tree.specs.declared.tree.Target.{Target, out-Target}
use Rattle.star_tree.specs.declared.tree.Target.TheVariants as t
use Rattle.star_tree.specs.declared.tree.Argument.{out-Argument}
use Rattle.star_tree.specs.declared.tree.Argument.TheVariants as a
use Rattle.star_tree.specs.declared.tree.Clause.{out-Clause}
use Rattle.star_tree.specs.declared.tree.Parameter.{out-Parameter}
use Rattle.star_tree.specs.declared.tree.Parameter.TheVariants as q
use Rattle.star_tree.specs.declared.tree.Statement.{Statement, roll-Statement}
use Rattle.star_tree.specs.declared.tree.Form.{Form, out-Form}
use Rattle.star_tree.specs.declared.tree.Form.TheVariants as f
use Rattle.star_tree.specs.declared.tree.BinaryOperator.TheVariants as op
use Rattle.star_tree.specs.declared.tree.Name.{Name}
use Rattle.star_tree.specs.declared.tree.Position.{Position}
use Rattle.star_outline.specs.declared.blocks.Block.{Block}
use Rattle.star_outline.specs.Definitions.{Definition, Statements}
use Rattle.star_dialect.specs.declared.Dialect.TheVariants.{Core}
use Rattle.star_meaning.specs.Program.{Setting}
use Rattle.star_meaning.specs.Module.{local, Local, Good, Stopped}
use Rattle.star_meaning.specs.declared.fault.FaultCode.TheVariants as code

abbrev pub n : List ℕ → Name
n t = record { text = t; position = record { line = 0; token = 0 } }

abbrev v : List ℕ → Expression
v t = e.Name (n t)

abbrev to : List ℕ → Target
to t' = t.Name (n t')

abbrev pub at : ℕ → ℕ → Form → Statement
at line token x = roll-Statement (record { position = record { line = line; token = token }; form = x })

abbrev pub here : ℕ → Position
here k = record { line = 0; token = k }

abbrev one_file : List (List ℕ) → List Definition → List Block → Setting
one_file names ds bs = record { home = 0; outlines = Some (record { definitions = ds; blocks = record { number = 0; names = names } ∷ bs; loaded = [] }) ∷ []; shelf = []; loads = []; prelude = None; language = record { dialect = Core; recorded = [] } }

abbrev i : ℕ → Expression
i k = e.Int (pos k)

abbrev s' : List ℕ → Expression
s' k = e.Text k

abbrev call : Expression → List Expression → Expression
call g [] = e.Call g []
call g (x ∷ []) = e.Call g (a.Positional x ∷ [])
call g (x ∷ y ∷ more) = e.Call g (a.Positional x ∷ a.Positional y ∷ [])

abbrev pub shown : Local → Local
shown (Good shelf gs texts lines) = Good [] [] texts lines
shown (Stopped f lines) = Stopped f lines

-- x = 1 ⏎ y = 2
pub assign_two : (shown (local (one_file ((120 ∷ []) ∷ (121 ∷ []) ∷ []) ([]) ([])) 10 ((at 1 101 (f.Assign (t.Name (n (120 ∷ []))) (e.Int (pos 1)))) ∷ (at 2 102 (f.Assign (t.Name (n (121 ∷ []))) (e.Int (pos 2)))) ∷ [])) ≡ Good [] [] (((120 ∷ []), (49 ∷ [])) ∷ ((121 ∷ []), (50 ∷ [])) ∷ []) ([]))
    × (shown (local (one_file ((120 ∷ []) ∷ (121 ∷ []) ∷ []) ([]) ([])) 9 ((at 1 101 (f.Assign (t.Name (n (120 ∷ []))) (e.Int (pos 1)))) ∷ (at 2 102 (f.Assign (t.Name (n (121 ∷ []))) (e.Int (pos 2)))) ∷ [])) ≡ Stopped (record { code = code.Steps; line = 2 }) ([]))
unfolding out-Form out-Expression out-Target out-Argument out-Clause out-Parameter denote.Hole.Carrier.out denote.Hole.Carrier.shown denote.Hole.Carrier.hidden digits Rattle.star_meaning.specs.Arguments.given Rattle.star_meaning.specs.Arguments.name_key Rattle.star_meaning.specs.Binding.bound_to Rattle.star_meaning.specs.Binding.build_arguments Rattle.star_meaning.specs.BuiltIns.call_built_in Rattle.star_meaning.specs.Calls.callee Rattle.star_meaning.specs.Calls.activate Rattle.star_meaning.specs.Calls.deactivate Rattle.star_meaning.specs.ListMethods.extend Rattle.star_meaning.specs.Attributes.attribute Rattle.star_meaning.specs.Methods.call_method Rattle.star_meaning.specs.Module.meaning Rattle.star_meaning.specs.Operators.operate Rattle.star_meaning.specs.Operators.prefix Rattle.star_meaning.specs.Operators.comparison Rattle.star_meaning.specs.Pairs.pairs_of Rattle.star_meaning.specs.Pairs.put_pairs Rattle.star_meaning.specs.Pairs.dict_of Rattle.star_meaning.specs.Pairs.update_with Rattle.star_meaning.specs.Run.pay Rattle.star_meaning.specs.Run.make Rattle.star_meaning.specs.Run.build Rattle.star_meaning.specs.Run.add_said Rattle.star_meaning.specs.Subscript.index Rattle.star_meaning.specs.Subscript.put_entry Rattle.star_meaning.specs.Subscript.set_index Rattle.star_meaning.specs.Subscript.slice Rattle.star_meaning.specs.Values.count_of Rattle.star_meaning.specs.Values.take_item Rattle.star_meaning.specs.Values.iterate Rattle.star_meaning.specs.Values.leave Rattle.star_meaning.specs.Values.is_true Rattle.star_meaning.specs.Values.equal Rattle.star_meaning.specs.Values.compare Rattle.star_meaning.specs.Values.check_key Rattle.star_meaning.specs.Values.repr Rattle.star_meaning.specs.Values.str Rattle.star_meaning.specs.Values.guard Rattle.star_meaning.specs.Values.change Rattle.star_meaning.specs.Variables.read_name Rattle.star_meaning.specs.Variables.bind_name Rattle.star_meaning.specs.Variables.new_frame Rattle.star_store.specs.Text.text Rattle.star_store.specs.Equal.same Rattle.star_store.specs.Order.order Rattle.star_store.specs.Key.check Rattle.star_store.specs.Key.is_key Rattle.star_store.specs.Key.same_key
assign_two = (refl, refl)

-- x = 1 ⏎ x = 22
pub assign_twice : (shown (local (one_file ((120 ∷ []) ∷ []) ([]) ([])) 8 ((at 1 101 (f.Assign (t.Name (n (120 ∷ []))) (e.Int (pos 1)))) ∷ (at 2 102 (f.Assign (t.Name (n (120 ∷ []))) (e.Int (pos 22)))) ∷ [])) ≡ Good [] [] (((120 ∷ []), (50 ∷ 50 ∷ [])) ∷ []) ([]))
    × (shown (local (one_file ((120 ∷ []) ∷ []) ([]) ([])) 7 ((at 1 101 (f.Assign (t.Name (n (120 ∷ []))) (e.Int (pos 1)))) ∷ (at 2 102 (f.Assign (t.Name (n (120 ∷ []))) (e.Int (pos 22)))) ∷ [])) ≡ Stopped (record { code = code.Steps; line = 2 }) ([]))
unfolding out-Form out-Expression out-Target out-Argument out-Clause out-Parameter denote.Hole.Carrier.out denote.Hole.Carrier.shown denote.Hole.Carrier.hidden digits Rattle.star_meaning.specs.Arguments.given Rattle.star_meaning.specs.Arguments.name_key Rattle.star_meaning.specs.Binding.bound_to Rattle.star_meaning.specs.Binding.build_arguments Rattle.star_meaning.specs.BuiltIns.call_built_in Rattle.star_meaning.specs.Calls.callee Rattle.star_meaning.specs.Calls.activate Rattle.star_meaning.specs.Calls.deactivate Rattle.star_meaning.specs.ListMethods.extend Rattle.star_meaning.specs.Attributes.attribute Rattle.star_meaning.specs.Methods.call_method Rattle.star_meaning.specs.Module.meaning Rattle.star_meaning.specs.Operators.operate Rattle.star_meaning.specs.Operators.prefix Rattle.star_meaning.specs.Operators.comparison Rattle.star_meaning.specs.Pairs.pairs_of Rattle.star_meaning.specs.Pairs.put_pairs Rattle.star_meaning.specs.Pairs.dict_of Rattle.star_meaning.specs.Pairs.update_with Rattle.star_meaning.specs.Run.pay Rattle.star_meaning.specs.Run.make Rattle.star_meaning.specs.Run.build Rattle.star_meaning.specs.Run.add_said Rattle.star_meaning.specs.Subscript.index Rattle.star_meaning.specs.Subscript.put_entry Rattle.star_meaning.specs.Subscript.set_index Rattle.star_meaning.specs.Subscript.slice Rattle.star_meaning.specs.Values.count_of Rattle.star_meaning.specs.Values.take_item Rattle.star_meaning.specs.Values.iterate Rattle.star_meaning.specs.Values.leave Rattle.star_meaning.specs.Values.is_true Rattle.star_meaning.specs.Values.equal Rattle.star_meaning.specs.Values.compare Rattle.star_meaning.specs.Values.check_key Rattle.star_meaning.specs.Values.repr Rattle.star_meaning.specs.Values.str Rattle.star_meaning.specs.Values.guard Rattle.star_meaning.specs.Values.change Rattle.star_meaning.specs.Variables.read_name Rattle.star_meaning.specs.Variables.bind_name Rattle.star_meaning.specs.Variables.new_frame Rattle.star_store.specs.Text.text Rattle.star_store.specs.Equal.same Rattle.star_store.specs.Order.order Rattle.star_store.specs.Key.check Rattle.star_store.specs.Key.is_key Rattle.star_store.specs.Key.same_key
assign_twice = (refl, refl)

-- x = 0 ⏎ x += 1
pub add_in_place : (shown (local (one_file ((120 ∷ []) ∷ []) ([]) ([])) 7 ((at 1 101 (f.Assign (t.Name (n (120 ∷ []))) (e.Int (pos 0)))) ∷ (at 2 102 (f.Augment (t.Name (n (120 ∷ []))) op.Add (e.Int (pos 1)))) ∷ [])) ≡ Good [] [] (((120 ∷ []), (49 ∷ [])) ∷ []) ([]))
    × (shown (local (one_file ((120 ∷ []) ∷ []) ([]) ([])) 6 ((at 1 101 (f.Assign (t.Name (n (120 ∷ []))) (e.Int (pos 0)))) ∷ (at 2 102 (f.Augment (t.Name (n (120 ∷ []))) op.Add (e.Int (pos 1)))) ∷ [])) ≡ Stopped (record { code = code.Steps; line = 2 }) ([]))
unfolding out-Form out-Expression out-Target out-Argument out-Clause out-Parameter denote.Hole.Carrier.out denote.Hole.Carrier.shown denote.Hole.Carrier.hidden digits Rattle.star_meaning.specs.Arguments.given Rattle.star_meaning.specs.Arguments.name_key Rattle.star_meaning.specs.Binding.bound_to Rattle.star_meaning.specs.Binding.build_arguments Rattle.star_meaning.specs.BuiltIns.call_built_in Rattle.star_meaning.specs.Calls.callee Rattle.star_meaning.specs.Calls.activate Rattle.star_meaning.specs.Calls.deactivate Rattle.star_meaning.specs.ListMethods.extend Rattle.star_meaning.specs.Attributes.attribute Rattle.star_meaning.specs.Methods.call_method Rattle.star_meaning.specs.Module.meaning Rattle.star_meaning.specs.Operators.operate Rattle.star_meaning.specs.Operators.prefix Rattle.star_meaning.specs.Operators.comparison Rattle.star_meaning.specs.Pairs.pairs_of Rattle.star_meaning.specs.Pairs.put_pairs Rattle.star_meaning.specs.Pairs.dict_of Rattle.star_meaning.specs.Pairs.update_with Rattle.star_meaning.specs.Run.pay Rattle.star_meaning.specs.Run.make Rattle.star_meaning.specs.Run.build Rattle.star_meaning.specs.Run.add_said Rattle.star_meaning.specs.Subscript.index Rattle.star_meaning.specs.Subscript.put_entry Rattle.star_meaning.specs.Subscript.set_index Rattle.star_meaning.specs.Subscript.slice Rattle.star_meaning.specs.Values.count_of Rattle.star_meaning.specs.Values.take_item Rattle.star_meaning.specs.Values.iterate Rattle.star_meaning.specs.Values.leave Rattle.star_meaning.specs.Values.is_true Rattle.star_meaning.specs.Values.equal Rattle.star_meaning.specs.Values.compare Rattle.star_meaning.specs.Values.check_key Rattle.star_meaning.specs.Values.repr Rattle.star_meaning.specs.Values.str Rattle.star_meaning.specs.Values.guard Rattle.star_meaning.specs.Values.change Rattle.star_meaning.specs.Variables.read_name Rattle.star_meaning.specs.Variables.bind_name Rattle.star_meaning.specs.Variables.new_frame Rattle.star_store.specs.Text.text Rattle.star_store.specs.Equal.same Rattle.star_store.specs.Order.order Rattle.star_store.specs.Key.check Rattle.star_store.specs.Key.is_key Rattle.star_store.specs.Key.same_key
add_in_place = (refl, refl)

-- x = 1 ⏎ x <<= 3
pub shift_in_place : (shown (local (one_file ((120 ∷ []) ∷ []) ([]) ([])) 7 ((at 1 101 (f.Assign (t.Name (n (120 ∷ []))) (e.Int (pos 1)))) ∷ (at 2 102 (f.Augment (t.Name (n (120 ∷ []))) op.ShiftLeft (e.Int (pos 3)))) ∷ [])) ≡ Good [] [] (((120 ∷ []), (56 ∷ [])) ∷ []) ([]))
    × (shown (local (one_file ((120 ∷ []) ∷ []) ([]) ([])) 6 ((at 1 101 (f.Assign (t.Name (n (120 ∷ []))) (e.Int (pos 1)))) ∷ (at 2 102 (f.Augment (t.Name (n (120 ∷ []))) op.ShiftLeft (e.Int (pos 3)))) ∷ [])) ≡ Stopped (record { code = code.Steps; line = 2 }) ([]))
unfolding out-Form out-Expression out-Target out-Argument out-Clause out-Parameter denote.Hole.Carrier.out denote.Hole.Carrier.shown denote.Hole.Carrier.hidden digits Rattle.star_meaning.specs.Arguments.given Rattle.star_meaning.specs.Arguments.name_key Rattle.star_meaning.specs.Binding.bound_to Rattle.star_meaning.specs.Binding.build_arguments Rattle.star_meaning.specs.BuiltIns.call_built_in Rattle.star_meaning.specs.Calls.callee Rattle.star_meaning.specs.Calls.activate Rattle.star_meaning.specs.Calls.deactivate Rattle.star_meaning.specs.ListMethods.extend Rattle.star_meaning.specs.Attributes.attribute Rattle.star_meaning.specs.Methods.call_method Rattle.star_meaning.specs.Module.meaning Rattle.star_meaning.specs.Operators.operate Rattle.star_meaning.specs.Operators.prefix Rattle.star_meaning.specs.Operators.comparison Rattle.star_meaning.specs.Pairs.pairs_of Rattle.star_meaning.specs.Pairs.put_pairs Rattle.star_meaning.specs.Pairs.dict_of Rattle.star_meaning.specs.Pairs.update_with Rattle.star_meaning.specs.Run.pay Rattle.star_meaning.specs.Run.make Rattle.star_meaning.specs.Run.build Rattle.star_meaning.specs.Run.add_said Rattle.star_meaning.specs.Subscript.index Rattle.star_meaning.specs.Subscript.put_entry Rattle.star_meaning.specs.Subscript.set_index Rattle.star_meaning.specs.Subscript.slice Rattle.star_meaning.specs.Values.count_of Rattle.star_meaning.specs.Values.take_item Rattle.star_meaning.specs.Values.iterate Rattle.star_meaning.specs.Values.leave Rattle.star_meaning.specs.Values.is_true Rattle.star_meaning.specs.Values.equal Rattle.star_meaning.specs.Values.compare Rattle.star_meaning.specs.Values.check_key Rattle.star_meaning.specs.Values.repr Rattle.star_meaning.specs.Values.str Rattle.star_meaning.specs.Values.guard Rattle.star_meaning.specs.Values.change Rattle.star_meaning.specs.Variables.read_name Rattle.star_meaning.specs.Variables.bind_name Rattle.star_meaning.specs.Variables.new_frame Rattle.star_store.specs.Text.text Rattle.star_store.specs.Equal.same Rattle.star_store.specs.Order.order Rattle.star_store.specs.Key.check Rattle.star_store.specs.Key.is_key Rattle.star_store.specs.Key.same_key
shift_in_place = (refl, refl)

-- x = "a" ⏎ x += "b"
pub join_in_place : (shown (local (one_file ((120 ∷ []) ∷ []) ([]) ([])) 17 ((at 1 101 (f.Assign (t.Name (n (120 ∷ []))) (e.Text (97 ∷ [])))) ∷ (at 2 102 (f.Augment (t.Name (n (120 ∷ []))) op.Add (e.Text (98 ∷ [])))) ∷ [])) ≡ Good [] [] (((120 ∷ []), (34 ∷ 97 ∷ 98 ∷ 34 ∷ [])) ∷ []) ([]))
    × (shown (local (one_file ((120 ∷ []) ∷ []) ([]) ([])) 16 ((at 1 101 (f.Assign (t.Name (n (120 ∷ []))) (e.Text (97 ∷ [])))) ∷ (at 2 102 (f.Augment (t.Name (n (120 ∷ []))) op.Add (e.Text (98 ∷ [])))) ∷ [])) ≡ Stopped (record { code = code.Steps; line = 2 }) ([]))
unfolding out-Form out-Expression out-Target out-Argument out-Clause out-Parameter denote.Hole.Carrier.out denote.Hole.Carrier.shown denote.Hole.Carrier.hidden digits Rattle.star_meaning.specs.Arguments.given Rattle.star_meaning.specs.Arguments.name_key Rattle.star_meaning.specs.Binding.bound_to Rattle.star_meaning.specs.Binding.build_arguments Rattle.star_meaning.specs.BuiltIns.call_built_in Rattle.star_meaning.specs.Calls.callee Rattle.star_meaning.specs.Calls.activate Rattle.star_meaning.specs.Calls.deactivate Rattle.star_meaning.specs.ListMethods.extend Rattle.star_meaning.specs.Attributes.attribute Rattle.star_meaning.specs.Methods.call_method Rattle.star_meaning.specs.Module.meaning Rattle.star_meaning.specs.Operators.operate Rattle.star_meaning.specs.Operators.prefix Rattle.star_meaning.specs.Operators.comparison Rattle.star_meaning.specs.Pairs.pairs_of Rattle.star_meaning.specs.Pairs.put_pairs Rattle.star_meaning.specs.Pairs.dict_of Rattle.star_meaning.specs.Pairs.update_with Rattle.star_meaning.specs.Run.pay Rattle.star_meaning.specs.Run.make Rattle.star_meaning.specs.Run.build Rattle.star_meaning.specs.Run.add_said Rattle.star_meaning.specs.Subscript.index Rattle.star_meaning.specs.Subscript.put_entry Rattle.star_meaning.specs.Subscript.set_index Rattle.star_meaning.specs.Subscript.slice Rattle.star_meaning.specs.Values.count_of Rattle.star_meaning.specs.Values.take_item Rattle.star_meaning.specs.Values.iterate Rattle.star_meaning.specs.Values.leave Rattle.star_meaning.specs.Values.is_true Rattle.star_meaning.specs.Values.equal Rattle.star_meaning.specs.Values.compare Rattle.star_meaning.specs.Values.check_key Rattle.star_meaning.specs.Values.repr Rattle.star_meaning.specs.Values.str Rattle.star_meaning.specs.Values.guard Rattle.star_meaning.specs.Values.change Rattle.star_meaning.specs.Variables.read_name Rattle.star_meaning.specs.Variables.bind_name Rattle.star_meaning.specs.Variables.new_frame Rattle.star_store.specs.Text.text Rattle.star_store.specs.Equal.same Rattle.star_store.specs.Order.order Rattle.star_store.specs.Key.check Rattle.star_store.specs.Key.is_key Rattle.star_store.specs.Key.same_key Rattle.star_store.specs.Text.shown_char lib.Utf8.encode Rattle.std.specs.Str.chars
join_in_place = (refl, refl)

-- x = 1; y = 2
pub two_on_a_line : (shown (local (one_file ((120 ∷ []) ∷ (121 ∷ []) ∷ []) ([]) ([])) 10 ((at 1 101 (f.Assign (t.Name (n (120 ∷ []))) (e.Int (pos 1)))) ∷ (at 1 102 (f.Assign (t.Name (n (121 ∷ []))) (e.Int (pos 2)))) ∷ [])) ≡ Good [] [] (((120 ∷ []), (49 ∷ [])) ∷ ((121 ∷ []), (50 ∷ [])) ∷ []) ([]))
    × (shown (local (one_file ((120 ∷ []) ∷ (121 ∷ []) ∷ []) ([]) ([])) 9 ((at 1 101 (f.Assign (t.Name (n (120 ∷ []))) (e.Int (pos 1)))) ∷ (at 1 102 (f.Assign (t.Name (n (121 ∷ []))) (e.Int (pos 2)))) ∷ [])) ≡ Stopped (record { code = code.Steps; line = 1 }) ([]))
unfolding out-Form out-Expression out-Target out-Argument out-Clause out-Parameter denote.Hole.Carrier.out denote.Hole.Carrier.shown denote.Hole.Carrier.hidden digits Rattle.star_meaning.specs.Arguments.given Rattle.star_meaning.specs.Arguments.name_key Rattle.star_meaning.specs.Binding.bound_to Rattle.star_meaning.specs.Binding.build_arguments Rattle.star_meaning.specs.BuiltIns.call_built_in Rattle.star_meaning.specs.Calls.callee Rattle.star_meaning.specs.Calls.activate Rattle.star_meaning.specs.Calls.deactivate Rattle.star_meaning.specs.ListMethods.extend Rattle.star_meaning.specs.Attributes.attribute Rattle.star_meaning.specs.Methods.call_method Rattle.star_meaning.specs.Module.meaning Rattle.star_meaning.specs.Operators.operate Rattle.star_meaning.specs.Operators.prefix Rattle.star_meaning.specs.Operators.comparison Rattle.star_meaning.specs.Pairs.pairs_of Rattle.star_meaning.specs.Pairs.put_pairs Rattle.star_meaning.specs.Pairs.dict_of Rattle.star_meaning.specs.Pairs.update_with Rattle.star_meaning.specs.Run.pay Rattle.star_meaning.specs.Run.make Rattle.star_meaning.specs.Run.build Rattle.star_meaning.specs.Run.add_said Rattle.star_meaning.specs.Subscript.index Rattle.star_meaning.specs.Subscript.put_entry Rattle.star_meaning.specs.Subscript.set_index Rattle.star_meaning.specs.Subscript.slice Rattle.star_meaning.specs.Values.count_of Rattle.star_meaning.specs.Values.take_item Rattle.star_meaning.specs.Values.iterate Rattle.star_meaning.specs.Values.leave Rattle.star_meaning.specs.Values.is_true Rattle.star_meaning.specs.Values.equal Rattle.star_meaning.specs.Values.compare Rattle.star_meaning.specs.Values.check_key Rattle.star_meaning.specs.Values.repr Rattle.star_meaning.specs.Values.str Rattle.star_meaning.specs.Values.guard Rattle.star_meaning.specs.Values.change Rattle.star_meaning.specs.Variables.read_name Rattle.star_meaning.specs.Variables.bind_name Rattle.star_meaning.specs.Variables.new_frame Rattle.star_store.specs.Text.text Rattle.star_store.specs.Equal.same Rattle.star_store.specs.Order.order Rattle.star_store.specs.Key.check Rattle.star_store.specs.Key.is_key Rattle.star_store.specs.Key.same_key
two_on_a_line = (refl, refl)

-- x = "a\"b"
pub text_of_a_string : (shown (local (one_file ((120 ∷ []) ∷ []) ([]) ([])) 14 ((at 1 101 (f.Assign (t.Name (n (120 ∷ []))) (e.Text (97 ∷ 34 ∷ 98 ∷ [])))) ∷ [])) ≡ Good [] [] (((120 ∷ []), (34 ∷ 97 ∷ 92 ∷ 34 ∷ 98 ∷ 34 ∷ [])) ∷ []) ([]))
    × (shown (local (one_file ((120 ∷ []) ∷ []) ([]) ([])) 13 ((at 1 101 (f.Assign (t.Name (n (120 ∷ []))) (e.Text (97 ∷ 34 ∷ 98 ∷ [])))) ∷ [])) ≡ Stopped (record { code = code.Steps; line = 1 }) ([]))
unfolding out-Form out-Expression out-Target out-Argument out-Clause out-Parameter denote.Hole.Carrier.out denote.Hole.Carrier.shown denote.Hole.Carrier.hidden digits Rattle.star_meaning.specs.Arguments.given Rattle.star_meaning.specs.Arguments.name_key Rattle.star_meaning.specs.Binding.bound_to Rattle.star_meaning.specs.Binding.build_arguments Rattle.star_meaning.specs.BuiltIns.call_built_in Rattle.star_meaning.specs.Calls.callee Rattle.star_meaning.specs.Calls.activate Rattle.star_meaning.specs.Calls.deactivate Rattle.star_meaning.specs.ListMethods.extend Rattle.star_meaning.specs.Attributes.attribute Rattle.star_meaning.specs.Methods.call_method Rattle.star_meaning.specs.Module.meaning Rattle.star_meaning.specs.Operators.operate Rattle.star_meaning.specs.Operators.prefix Rattle.star_meaning.specs.Operators.comparison Rattle.star_meaning.specs.Pairs.pairs_of Rattle.star_meaning.specs.Pairs.put_pairs Rattle.star_meaning.specs.Pairs.dict_of Rattle.star_meaning.specs.Pairs.update_with Rattle.star_meaning.specs.Run.pay Rattle.star_meaning.specs.Run.make Rattle.star_meaning.specs.Run.build Rattle.star_meaning.specs.Run.add_said Rattle.star_meaning.specs.Subscript.index Rattle.star_meaning.specs.Subscript.put_entry Rattle.star_meaning.specs.Subscript.set_index Rattle.star_meaning.specs.Subscript.slice Rattle.star_meaning.specs.Values.count_of Rattle.star_meaning.specs.Values.take_item Rattle.star_meaning.specs.Values.iterate Rattle.star_meaning.specs.Values.leave Rattle.star_meaning.specs.Values.is_true Rattle.star_meaning.specs.Values.equal Rattle.star_meaning.specs.Values.compare Rattle.star_meaning.specs.Values.check_key Rattle.star_meaning.specs.Values.repr Rattle.star_meaning.specs.Values.str Rattle.star_meaning.specs.Values.guard Rattle.star_meaning.specs.Values.change Rattle.star_meaning.specs.Variables.read_name Rattle.star_meaning.specs.Variables.bind_name Rattle.star_meaning.specs.Variables.new_frame Rattle.star_store.specs.Text.text Rattle.star_store.specs.Equal.same Rattle.star_store.specs.Order.order Rattle.star_store.specs.Key.check Rattle.star_store.specs.Key.is_key Rattle.star_store.specs.Key.same_key Rattle.star_store.specs.Text.shown_char lib.Utf8.encode Rattle.std.specs.Str.chars
text_of_a_string = (refl, refl)

-- "é"
pub bytes_of_a_string : (shown (local (one_file ([]) ([]) ([])) 5 ((at 1 101 (f.Expression (e.Text (195 ∷ 169 ∷ [])))) ∷ [])) ≡ Good [] [] ([]) ([]))
    × (shown (local (one_file ([]) ([]) ([])) 4 ((at 1 101 (f.Expression (e.Text (195 ∷ 169 ∷ [])))) ∷ [])) ≡ Stopped (record { code = code.Steps; line = 1 }) ([]))
unfolding out-Form out-Expression out-Target out-Argument out-Clause out-Parameter denote.Hole.Carrier.out denote.Hole.Carrier.shown denote.Hole.Carrier.hidden digits Rattle.star_meaning.specs.Arguments.given Rattle.star_meaning.specs.Arguments.name_key Rattle.star_meaning.specs.Binding.bound_to Rattle.star_meaning.specs.Binding.build_arguments Rattle.star_meaning.specs.BuiltIns.call_built_in Rattle.star_meaning.specs.Calls.callee Rattle.star_meaning.specs.Calls.activate Rattle.star_meaning.specs.Calls.deactivate Rattle.star_meaning.specs.ListMethods.extend Rattle.star_meaning.specs.Attributes.attribute Rattle.star_meaning.specs.Methods.call_method Rattle.star_meaning.specs.Module.meaning Rattle.star_meaning.specs.Operators.operate Rattle.star_meaning.specs.Operators.prefix Rattle.star_meaning.specs.Operators.comparison Rattle.star_meaning.specs.Pairs.pairs_of Rattle.star_meaning.specs.Pairs.put_pairs Rattle.star_meaning.specs.Pairs.dict_of Rattle.star_meaning.specs.Pairs.update_with Rattle.star_meaning.specs.Run.pay Rattle.star_meaning.specs.Run.make Rattle.star_meaning.specs.Run.build Rattle.star_meaning.specs.Run.add_said Rattle.star_meaning.specs.Subscript.index Rattle.star_meaning.specs.Subscript.put_entry Rattle.star_meaning.specs.Subscript.set_index Rattle.star_meaning.specs.Subscript.slice Rattle.star_meaning.specs.Values.count_of Rattle.star_meaning.specs.Values.take_item Rattle.star_meaning.specs.Values.iterate Rattle.star_meaning.specs.Values.leave Rattle.star_meaning.specs.Values.is_true Rattle.star_meaning.specs.Values.equal Rattle.star_meaning.specs.Values.compare Rattle.star_meaning.specs.Values.check_key Rattle.star_meaning.specs.Values.repr Rattle.star_meaning.specs.Values.str Rattle.star_meaning.specs.Values.guard Rattle.star_meaning.specs.Values.change Rattle.star_meaning.specs.Variables.read_name Rattle.star_meaning.specs.Variables.bind_name Rattle.star_meaning.specs.Variables.new_frame Rattle.star_store.specs.Text.text Rattle.star_store.specs.Equal.same Rattle.star_store.specs.Order.order Rattle.star_store.specs.Key.check Rattle.star_store.specs.Key.is_key Rattle.star_store.specs.Key.same_key
bytes_of_a_string = (refl, refl)

-- def name(): ⏎   pass
pub definition : (shown (local (one_file ((110 ∷ 97 ∷ 109 ∷ 101 ∷ []) ∷ []) (record { number = 101; parameters = ([]); body = Statements ((at 2 102 f.Pass) ∷ []) } ∷ []) (record { number = 102; names = ([]) } ∷ [])) 19 ((at 1 101 (f.Def (n (110 ∷ 97 ∷ 109 ∷ 101 ∷ [])) ([]) ((at 2 102 f.Pass) ∷ []))) ∷ [])) ≡ Good [] [] (((110 ∷ 97 ∷ 109 ∷ 101 ∷ []), (60 ∷ 102 ∷ 117 ∷ 110 ∷ 99 ∷ 116 ∷ 105 ∷ 111 ∷ 110 ∷ 32 ∷ 110 ∷ 97 ∷ 109 ∷ 101 ∷ 62 ∷ [])) ∷ []) ([]))
    × (shown (local (one_file ((110 ∷ 97 ∷ 109 ∷ 101 ∷ []) ∷ []) (record { number = 101; parameters = ([]); body = Statements ((at 2 102 f.Pass) ∷ []) } ∷ []) (record { number = 102; names = ([]) } ∷ [])) 18 ((at 1 101 (f.Def (n (110 ∷ 97 ∷ 109 ∷ 101 ∷ [])) ([]) ((at 2 102 f.Pass) ∷ []))) ∷ [])) ≡ Stopped (record { code = code.Steps; line = 1 }) ([]))
unfolding out-Form out-Expression out-Target out-Argument out-Clause out-Parameter denote.Hole.Carrier.out denote.Hole.Carrier.shown denote.Hole.Carrier.hidden digits Rattle.star_meaning.specs.Arguments.given Rattle.star_meaning.specs.Arguments.name_key Rattle.star_meaning.specs.Binding.bound_to Rattle.star_meaning.specs.Binding.build_arguments Rattle.star_meaning.specs.BuiltIns.call_built_in Rattle.star_meaning.specs.Calls.callee Rattle.star_meaning.specs.Calls.activate Rattle.star_meaning.specs.Calls.deactivate Rattle.star_meaning.specs.ListMethods.extend Rattle.star_meaning.specs.Attributes.attribute Rattle.star_meaning.specs.Methods.call_method Rattle.star_meaning.specs.Module.meaning Rattle.star_meaning.specs.Operators.operate Rattle.star_meaning.specs.Operators.prefix Rattle.star_meaning.specs.Operators.comparison Rattle.star_meaning.specs.Pairs.pairs_of Rattle.star_meaning.specs.Pairs.put_pairs Rattle.star_meaning.specs.Pairs.dict_of Rattle.star_meaning.specs.Pairs.update_with Rattle.star_meaning.specs.Run.pay Rattle.star_meaning.specs.Run.make Rattle.star_meaning.specs.Run.build Rattle.star_meaning.specs.Run.add_said Rattle.star_meaning.specs.Subscript.index Rattle.star_meaning.specs.Subscript.put_entry Rattle.star_meaning.specs.Subscript.set_index Rattle.star_meaning.specs.Subscript.slice Rattle.star_meaning.specs.Values.count_of Rattle.star_meaning.specs.Values.take_item Rattle.star_meaning.specs.Values.iterate Rattle.star_meaning.specs.Values.leave Rattle.star_meaning.specs.Values.is_true Rattle.star_meaning.specs.Values.equal Rattle.star_meaning.specs.Values.compare Rattle.star_meaning.specs.Values.check_key Rattle.star_meaning.specs.Values.repr Rattle.star_meaning.specs.Values.str Rattle.star_meaning.specs.Values.guard Rattle.star_meaning.specs.Values.change Rattle.star_meaning.specs.Variables.read_name Rattle.star_meaning.specs.Variables.bind_name Rattle.star_meaning.specs.Variables.new_frame Rattle.star_store.specs.Text.text Rattle.star_store.specs.Equal.same Rattle.star_store.specs.Order.order Rattle.star_store.specs.Key.check Rattle.star_store.specs.Key.is_key Rattle.star_store.specs.Key.same_key
definition = (refl, refl)

-- def f(a = 1): ⏎   pass
pub default : (shown (local (one_file ((102 ∷ []) ∷ []) (record { number = 101; parameters = ((q.Default (n (97 ∷ [])) (e.Int (pos 1))) ∷ []); body = Statements ((at 2 102 f.Pass) ∷ []) } ∷ []) (record { number = 102; names = ((97 ∷ []) ∷ []) } ∷ [])) 17 ((at 1 101 (f.Def (n (102 ∷ [])) ((q.Default (n (97 ∷ [])) (e.Int (pos 1))) ∷ []) ((at 2 102 f.Pass) ∷ []))) ∷ [])) ≡ Good [] [] (((102 ∷ []), (60 ∷ 102 ∷ 117 ∷ 110 ∷ 99 ∷ 116 ∷ 105 ∷ 111 ∷ 110 ∷ 32 ∷ 102 ∷ 62 ∷ [])) ∷ []) ([]))
    × (shown (local (one_file ((102 ∷ []) ∷ []) (record { number = 101; parameters = ((q.Default (n (97 ∷ [])) (e.Int (pos 1))) ∷ []); body = Statements ((at 2 102 f.Pass) ∷ []) } ∷ []) (record { number = 102; names = ((97 ∷ []) ∷ []) } ∷ [])) 16 ((at 1 101 (f.Def (n (102 ∷ [])) ((q.Default (n (97 ∷ [])) (e.Int (pos 1))) ∷ []) ((at 2 102 f.Pass) ∷ []))) ∷ [])) ≡ Stopped (record { code = code.Steps; line = 1 }) ([]))
unfolding out-Form out-Expression out-Target out-Argument out-Clause out-Parameter denote.Hole.Carrier.out denote.Hole.Carrier.shown denote.Hole.Carrier.hidden digits Rattle.star_meaning.specs.Arguments.given Rattle.star_meaning.specs.Arguments.name_key Rattle.star_meaning.specs.Binding.bound_to Rattle.star_meaning.specs.Binding.build_arguments Rattle.star_meaning.specs.BuiltIns.call_built_in Rattle.star_meaning.specs.Calls.callee Rattle.star_meaning.specs.Calls.activate Rattle.star_meaning.specs.Calls.deactivate Rattle.star_meaning.specs.ListMethods.extend Rattle.star_meaning.specs.Attributes.attribute Rattle.star_meaning.specs.Methods.call_method Rattle.star_meaning.specs.Module.meaning Rattle.star_meaning.specs.Operators.operate Rattle.star_meaning.specs.Operators.prefix Rattle.star_meaning.specs.Operators.comparison Rattle.star_meaning.specs.Pairs.pairs_of Rattle.star_meaning.specs.Pairs.put_pairs Rattle.star_meaning.specs.Pairs.dict_of Rattle.star_meaning.specs.Pairs.update_with Rattle.star_meaning.specs.Run.pay Rattle.star_meaning.specs.Run.make Rattle.star_meaning.specs.Run.build Rattle.star_meaning.specs.Run.add_said Rattle.star_meaning.specs.Subscript.index Rattle.star_meaning.specs.Subscript.put_entry Rattle.star_meaning.specs.Subscript.set_index Rattle.star_meaning.specs.Subscript.slice Rattle.star_meaning.specs.Values.count_of Rattle.star_meaning.specs.Values.take_item Rattle.star_meaning.specs.Values.iterate Rattle.star_meaning.specs.Values.leave Rattle.star_meaning.specs.Values.is_true Rattle.star_meaning.specs.Values.equal Rattle.star_meaning.specs.Values.compare Rattle.star_meaning.specs.Values.check_key Rattle.star_meaning.specs.Values.repr Rattle.star_meaning.specs.Values.str Rattle.star_meaning.specs.Values.guard Rattle.star_meaning.specs.Values.change Rattle.star_meaning.specs.Variables.read_name Rattle.star_meaning.specs.Variables.bind_name Rattle.star_meaning.specs.Variables.new_frame Rattle.star_store.specs.Text.text Rattle.star_store.specs.Equal.same Rattle.star_store.specs.Order.order Rattle.star_store.specs.Key.check Rattle.star_store.specs.Key.is_key Rattle.star_store.specs.Key.same_key
default = (refl, refl)

-- x = 9223372036854775807 ⏎ x += 1
pub overflow : (shown (local (one_file ((120 ∷ []) ∷ []) ([]) ([])) 1000000 ((at 1 101 (f.Assign (t.Name (n (120 ∷ []))) (e.Int (pos 9223372036854775807)))) ∷ (at 2 102 (f.Augment (t.Name (n (120 ∷ []))) op.Add (e.Int (pos 1)))) ∷ [])) ≡ Stopped (record { code = code.Overflow; line = 2 }) ([]))
unfolding out-Form out-Expression out-Target out-Argument out-Clause out-Parameter denote.Hole.Carrier.out denote.Hole.Carrier.shown denote.Hole.Carrier.hidden digits Rattle.star_meaning.specs.Arguments.given Rattle.star_meaning.specs.Arguments.name_key Rattle.star_meaning.specs.Binding.bound_to Rattle.star_meaning.specs.Binding.build_arguments Rattle.star_meaning.specs.BuiltIns.call_built_in Rattle.star_meaning.specs.Calls.callee Rattle.star_meaning.specs.Calls.activate Rattle.star_meaning.specs.Calls.deactivate Rattle.star_meaning.specs.ListMethods.extend Rattle.star_meaning.specs.Attributes.attribute Rattle.star_meaning.specs.Methods.call_method Rattle.star_meaning.specs.Module.meaning Rattle.star_meaning.specs.Operators.operate Rattle.star_meaning.specs.Operators.prefix Rattle.star_meaning.specs.Operators.comparison Rattle.star_meaning.specs.Pairs.pairs_of Rattle.star_meaning.specs.Pairs.put_pairs Rattle.star_meaning.specs.Pairs.dict_of Rattle.star_meaning.specs.Pairs.update_with Rattle.star_meaning.specs.Run.pay Rattle.star_meaning.specs.Run.make Rattle.star_meaning.specs.Run.build Rattle.star_meaning.specs.Run.add_said Rattle.star_meaning.specs.Subscript.index Rattle.star_meaning.specs.Subscript.put_entry Rattle.star_meaning.specs.Subscript.set_index Rattle.star_meaning.specs.Subscript.slice Rattle.star_meaning.specs.Values.count_of Rattle.star_meaning.specs.Values.take_item Rattle.star_meaning.specs.Values.iterate Rattle.star_meaning.specs.Values.leave Rattle.star_meaning.specs.Values.is_true Rattle.star_meaning.specs.Values.equal Rattle.star_meaning.specs.Values.compare Rattle.star_meaning.specs.Values.check_key Rattle.star_meaning.specs.Values.repr Rattle.star_meaning.specs.Values.str Rattle.star_meaning.specs.Values.guard Rattle.star_meaning.specs.Values.change Rattle.star_meaning.specs.Variables.read_name Rattle.star_meaning.specs.Variables.bind_name Rattle.star_meaning.specs.Variables.new_frame Rattle.star_store.specs.Text.text Rattle.star_store.specs.Equal.same Rattle.star_store.specs.Order.order Rattle.star_store.specs.Key.check Rattle.star_store.specs.Key.is_key Rattle.star_store.specs.Key.same_key
overflow = refl

-- x = 1 ⏎ x //= 0
pub zero : (shown (local (one_file ((120 ∷ []) ∷ []) ([]) ([])) 1000000 ((at 1 101 (f.Assign (t.Name (n (120 ∷ []))) (e.Int (pos 1)))) ∷ (at 2 102 (f.Augment (t.Name (n (120 ∷ []))) op.FloorDivide (e.Int (pos 0)))) ∷ [])) ≡ Stopped (record { code = code.Zero; line = 2 }) ([]))
unfolding out-Form out-Expression out-Target out-Argument out-Clause out-Parameter denote.Hole.Carrier.out denote.Hole.Carrier.shown denote.Hole.Carrier.hidden digits Rattle.star_meaning.specs.Arguments.given Rattle.star_meaning.specs.Arguments.name_key Rattle.star_meaning.specs.Binding.bound_to Rattle.star_meaning.specs.Binding.build_arguments Rattle.star_meaning.specs.BuiltIns.call_built_in Rattle.star_meaning.specs.Calls.callee Rattle.star_meaning.specs.Calls.activate Rattle.star_meaning.specs.Calls.deactivate Rattle.star_meaning.specs.ListMethods.extend Rattle.star_meaning.specs.Attributes.attribute Rattle.star_meaning.specs.Methods.call_method Rattle.star_meaning.specs.Module.meaning Rattle.star_meaning.specs.Operators.operate Rattle.star_meaning.specs.Operators.prefix Rattle.star_meaning.specs.Operators.comparison Rattle.star_meaning.specs.Pairs.pairs_of Rattle.star_meaning.specs.Pairs.put_pairs Rattle.star_meaning.specs.Pairs.dict_of Rattle.star_meaning.specs.Pairs.update_with Rattle.star_meaning.specs.Run.pay Rattle.star_meaning.specs.Run.make Rattle.star_meaning.specs.Run.build Rattle.star_meaning.specs.Run.add_said Rattle.star_meaning.specs.Subscript.index Rattle.star_meaning.specs.Subscript.put_entry Rattle.star_meaning.specs.Subscript.set_index Rattle.star_meaning.specs.Subscript.slice Rattle.star_meaning.specs.Values.count_of Rattle.star_meaning.specs.Values.take_item Rattle.star_meaning.specs.Values.iterate Rattle.star_meaning.specs.Values.leave Rattle.star_meaning.specs.Values.is_true Rattle.star_meaning.specs.Values.equal Rattle.star_meaning.specs.Values.compare Rattle.star_meaning.specs.Values.check_key Rattle.star_meaning.specs.Values.repr Rattle.star_meaning.specs.Values.str Rattle.star_meaning.specs.Values.guard Rattle.star_meaning.specs.Values.change Rattle.star_meaning.specs.Variables.read_name Rattle.star_meaning.specs.Variables.bind_name Rattle.star_meaning.specs.Variables.new_frame Rattle.star_store.specs.Text.text Rattle.star_store.specs.Equal.same Rattle.star_store.specs.Order.order Rattle.star_store.specs.Key.check Rattle.star_store.specs.Key.is_key Rattle.star_store.specs.Key.same_key
zero = refl

-- x += 1
pub unbound_in_place : (shown (local (one_file ((120 ∷ []) ∷ []) ([]) ([])) 1000000 ((at 1 101 (f.Augment (t.Name (n (120 ∷ []))) op.Add (e.Int (pos 1)))) ∷ [])) ≡ Stopped (record { code = code.Unbound; line = 1 }) ([]))
unfolding out-Form out-Expression out-Target out-Argument out-Clause out-Parameter denote.Hole.Carrier.out denote.Hole.Carrier.shown denote.Hole.Carrier.hidden digits Rattle.star_meaning.specs.Arguments.given Rattle.star_meaning.specs.Arguments.name_key Rattle.star_meaning.specs.Binding.bound_to Rattle.star_meaning.specs.Binding.build_arguments Rattle.star_meaning.specs.BuiltIns.call_built_in Rattle.star_meaning.specs.Calls.callee Rattle.star_meaning.specs.Calls.activate Rattle.star_meaning.specs.Calls.deactivate Rattle.star_meaning.specs.ListMethods.extend Rattle.star_meaning.specs.Attributes.attribute Rattle.star_meaning.specs.Methods.call_method Rattle.star_meaning.specs.Module.meaning Rattle.star_meaning.specs.Operators.operate Rattle.star_meaning.specs.Operators.prefix Rattle.star_meaning.specs.Operators.comparison Rattle.star_meaning.specs.Pairs.pairs_of Rattle.star_meaning.specs.Pairs.put_pairs Rattle.star_meaning.specs.Pairs.dict_of Rattle.star_meaning.specs.Pairs.update_with Rattle.star_meaning.specs.Run.pay Rattle.star_meaning.specs.Run.make Rattle.star_meaning.specs.Run.build Rattle.star_meaning.specs.Run.add_said Rattle.star_meaning.specs.Subscript.index Rattle.star_meaning.specs.Subscript.put_entry Rattle.star_meaning.specs.Subscript.set_index Rattle.star_meaning.specs.Subscript.slice Rattle.star_meaning.specs.Values.count_of Rattle.star_meaning.specs.Values.take_item Rattle.star_meaning.specs.Values.iterate Rattle.star_meaning.specs.Values.leave Rattle.star_meaning.specs.Values.is_true Rattle.star_meaning.specs.Values.equal Rattle.star_meaning.specs.Values.compare Rattle.star_meaning.specs.Values.check_key Rattle.star_meaning.specs.Values.repr Rattle.star_meaning.specs.Values.str Rattle.star_meaning.specs.Values.guard Rattle.star_meaning.specs.Values.change Rattle.star_meaning.specs.Variables.read_name Rattle.star_meaning.specs.Variables.bind_name Rattle.star_meaning.specs.Variables.new_frame Rattle.star_store.specs.Text.text Rattle.star_store.specs.Equal.same Rattle.star_store.specs.Order.order Rattle.star_store.specs.Key.check Rattle.star_store.specs.Key.is_key Rattle.star_store.specs.Key.same_key
unbound_in_place = refl

-- x = y ⏎ y = 1
pub unbound_global : (shown (local (one_file ((120 ∷ []) ∷ (121 ∷ []) ∷ []) ([]) ([])) 1000000 ((at 1 101 (f.Assign (t.Name (n (120 ∷ []))) (e.Name (n (121 ∷ []))))) ∷ (at 2 102 (f.Assign (t.Name (n (121 ∷ []))) (e.Int (pos 1)))) ∷ [])) ≡ Stopped (record { code = code.Unbound; line = 1 }) ([]))
unfolding out-Form out-Expression out-Target out-Argument out-Clause out-Parameter denote.Hole.Carrier.out denote.Hole.Carrier.shown denote.Hole.Carrier.hidden digits Rattle.star_meaning.specs.Arguments.given Rattle.star_meaning.specs.Arguments.name_key Rattle.star_meaning.specs.Binding.bound_to Rattle.star_meaning.specs.Binding.build_arguments Rattle.star_meaning.specs.BuiltIns.call_built_in Rattle.star_meaning.specs.Calls.callee Rattle.star_meaning.specs.Calls.activate Rattle.star_meaning.specs.Calls.deactivate Rattle.star_meaning.specs.ListMethods.extend Rattle.star_meaning.specs.Attributes.attribute Rattle.star_meaning.specs.Methods.call_method Rattle.star_meaning.specs.Module.meaning Rattle.star_meaning.specs.Operators.operate Rattle.star_meaning.specs.Operators.prefix Rattle.star_meaning.specs.Operators.comparison Rattle.star_meaning.specs.Pairs.pairs_of Rattle.star_meaning.specs.Pairs.put_pairs Rattle.star_meaning.specs.Pairs.dict_of Rattle.star_meaning.specs.Pairs.update_with Rattle.star_meaning.specs.Run.pay Rattle.star_meaning.specs.Run.make Rattle.star_meaning.specs.Run.build Rattle.star_meaning.specs.Run.add_said Rattle.star_meaning.specs.Subscript.index Rattle.star_meaning.specs.Subscript.put_entry Rattle.star_meaning.specs.Subscript.set_index Rattle.star_meaning.specs.Subscript.slice Rattle.star_meaning.specs.Values.count_of Rattle.star_meaning.specs.Values.take_item Rattle.star_meaning.specs.Values.iterate Rattle.star_meaning.specs.Values.leave Rattle.star_meaning.specs.Values.is_true Rattle.star_meaning.specs.Values.equal Rattle.star_meaning.specs.Values.compare Rattle.star_meaning.specs.Values.check_key Rattle.star_meaning.specs.Values.repr Rattle.star_meaning.specs.Values.str Rattle.star_meaning.specs.Values.guard Rattle.star_meaning.specs.Values.change Rattle.star_meaning.specs.Variables.read_name Rattle.star_meaning.specs.Variables.bind_name Rattle.star_meaning.specs.Variables.new_frame Rattle.star_store.specs.Text.text Rattle.star_store.specs.Equal.same Rattle.star_store.specs.Order.order Rattle.star_store.specs.Key.check Rattle.star_store.specs.Key.is_key Rattle.star_store.specs.Key.same_key
unbound_global = refl

-- for i in 5: pass
pub int_is_not_iterable : (shown (local (one_file ((105 ∷ []) ∷ []) ([]) ([])) 1000000 ((at 1 101 (f.For (t.Name (n (105 ∷ []))) (e.Int (pos 5)) ((at 1 102 f.Pass) ∷ []))) ∷ [])) ≡ Stopped (record { code = code.BadType; line = 1 }) ([]))
unfolding out-Form out-Expression out-Target out-Argument out-Clause out-Parameter denote.Hole.Carrier.out denote.Hole.Carrier.shown denote.Hole.Carrier.hidden digits Rattle.star_meaning.specs.Arguments.given Rattle.star_meaning.specs.Arguments.name_key Rattle.star_meaning.specs.Binding.bound_to Rattle.star_meaning.specs.Binding.build_arguments Rattle.star_meaning.specs.BuiltIns.call_built_in Rattle.star_meaning.specs.Calls.callee Rattle.star_meaning.specs.Calls.activate Rattle.star_meaning.specs.Calls.deactivate Rattle.star_meaning.specs.ListMethods.extend Rattle.star_meaning.specs.Attributes.attribute Rattle.star_meaning.specs.Methods.call_method Rattle.star_meaning.specs.Module.meaning Rattle.star_meaning.specs.Operators.operate Rattle.star_meaning.specs.Operators.prefix Rattle.star_meaning.specs.Operators.comparison Rattle.star_meaning.specs.Pairs.pairs_of Rattle.star_meaning.specs.Pairs.put_pairs Rattle.star_meaning.specs.Pairs.dict_of Rattle.star_meaning.specs.Pairs.update_with Rattle.star_meaning.specs.Run.pay Rattle.star_meaning.specs.Run.make Rattle.star_meaning.specs.Run.build Rattle.star_meaning.specs.Run.add_said Rattle.star_meaning.specs.Subscript.index Rattle.star_meaning.specs.Subscript.put_entry Rattle.star_meaning.specs.Subscript.set_index Rattle.star_meaning.specs.Subscript.slice Rattle.star_meaning.specs.Values.count_of Rattle.star_meaning.specs.Values.take_item Rattle.star_meaning.specs.Values.iterate Rattle.star_meaning.specs.Values.leave Rattle.star_meaning.specs.Values.is_true Rattle.star_meaning.specs.Values.equal Rattle.star_meaning.specs.Values.compare Rattle.star_meaning.specs.Values.check_key Rattle.star_meaning.specs.Values.repr Rattle.star_meaning.specs.Values.str Rattle.star_meaning.specs.Values.guard Rattle.star_meaning.specs.Values.change Rattle.star_meaning.specs.Variables.read_name Rattle.star_meaning.specs.Variables.bind_name Rattle.star_meaning.specs.Variables.new_frame Rattle.star_store.specs.Text.text Rattle.star_store.specs.Equal.same Rattle.star_store.specs.Order.order Rattle.star_store.specs.Key.check Rattle.star_store.specs.Key.is_key Rattle.star_store.specs.Key.same_key
int_is_not_iterable = refl

-- for i in "abc": pass
pub string_is_not_iterable : (shown (local (one_file ((105 ∷ []) ∷ []) ([]) ([])) 1000000 ((at 1 101 (f.For (t.Name (n (105 ∷ []))) (e.Text (97 ∷ 98 ∷ 99 ∷ [])) ((at 1 102 f.Pass) ∷ []))) ∷ [])) ≡ Stopped (record { code = code.BadType; line = 1 }) ([]))
unfolding out-Form out-Expression out-Target out-Argument out-Clause out-Parameter denote.Hole.Carrier.out denote.Hole.Carrier.shown denote.Hole.Carrier.hidden digits Rattle.star_meaning.specs.Arguments.given Rattle.star_meaning.specs.Arguments.name_key Rattle.star_meaning.specs.Binding.bound_to Rattle.star_meaning.specs.Binding.build_arguments Rattle.star_meaning.specs.BuiltIns.call_built_in Rattle.star_meaning.specs.Calls.callee Rattle.star_meaning.specs.Calls.activate Rattle.star_meaning.specs.Calls.deactivate Rattle.star_meaning.specs.ListMethods.extend Rattle.star_meaning.specs.Attributes.attribute Rattle.star_meaning.specs.Methods.call_method Rattle.star_meaning.specs.Module.meaning Rattle.star_meaning.specs.Operators.operate Rattle.star_meaning.specs.Operators.prefix Rattle.star_meaning.specs.Operators.comparison Rattle.star_meaning.specs.Pairs.pairs_of Rattle.star_meaning.specs.Pairs.put_pairs Rattle.star_meaning.specs.Pairs.dict_of Rattle.star_meaning.specs.Pairs.update_with Rattle.star_meaning.specs.Run.pay Rattle.star_meaning.specs.Run.make Rattle.star_meaning.specs.Run.build Rattle.star_meaning.specs.Run.add_said Rattle.star_meaning.specs.Subscript.index Rattle.star_meaning.specs.Subscript.put_entry Rattle.star_meaning.specs.Subscript.set_index Rattle.star_meaning.specs.Subscript.slice Rattle.star_meaning.specs.Values.count_of Rattle.star_meaning.specs.Values.take_item Rattle.star_meaning.specs.Values.iterate Rattle.star_meaning.specs.Values.leave Rattle.star_meaning.specs.Values.is_true Rattle.star_meaning.specs.Values.equal Rattle.star_meaning.specs.Values.compare Rattle.star_meaning.specs.Values.check_key Rattle.star_meaning.specs.Values.repr Rattle.star_meaning.specs.Values.str Rattle.star_meaning.specs.Values.guard Rattle.star_meaning.specs.Values.change Rattle.star_meaning.specs.Variables.read_name Rattle.star_meaning.specs.Variables.bind_name Rattle.star_meaning.specs.Variables.new_frame Rattle.star_store.specs.Text.text Rattle.star_store.specs.Equal.same Rattle.star_store.specs.Order.order Rattle.star_store.specs.Key.check Rattle.star_store.specs.Key.is_key Rattle.star_store.specs.Key.same_key
string_is_not_iterable = refl

-- a, b = 1
pub int_is_not_unpacked : (shown (local (one_file ((97 ∷ []) ∷ (98 ∷ []) ∷ []) ([]) ([])) 1000000 ((at 1 101 (f.Assign (t.Tuple ((t.Name (n (97 ∷ []))) ∷ (t.Name (n (98 ∷ []))) ∷ [])) (e.Int (pos 1)))) ∷ [])) ≡ Stopped (record { code = code.BadType; line = 1 }) ([]))
unfolding out-Form out-Expression out-Target out-Argument out-Clause out-Parameter denote.Hole.Carrier.out denote.Hole.Carrier.shown denote.Hole.Carrier.hidden digits Rattle.star_meaning.specs.Arguments.given Rattle.star_meaning.specs.Arguments.name_key Rattle.star_meaning.specs.Binding.bound_to Rattle.star_meaning.specs.Binding.build_arguments Rattle.star_meaning.specs.BuiltIns.call_built_in Rattle.star_meaning.specs.Calls.callee Rattle.star_meaning.specs.Calls.activate Rattle.star_meaning.specs.Calls.deactivate Rattle.star_meaning.specs.ListMethods.extend Rattle.star_meaning.specs.Attributes.attribute Rattle.star_meaning.specs.Methods.call_method Rattle.star_meaning.specs.Module.meaning Rattle.star_meaning.specs.Operators.operate Rattle.star_meaning.specs.Operators.prefix Rattle.star_meaning.specs.Operators.comparison Rattle.star_meaning.specs.Pairs.pairs_of Rattle.star_meaning.specs.Pairs.put_pairs Rattle.star_meaning.specs.Pairs.dict_of Rattle.star_meaning.specs.Pairs.update_with Rattle.star_meaning.specs.Run.pay Rattle.star_meaning.specs.Run.make Rattle.star_meaning.specs.Run.build Rattle.star_meaning.specs.Run.add_said Rattle.star_meaning.specs.Subscript.index Rattle.star_meaning.specs.Subscript.put_entry Rattle.star_meaning.specs.Subscript.set_index Rattle.star_meaning.specs.Subscript.slice Rattle.star_meaning.specs.Values.count_of Rattle.star_meaning.specs.Values.take_item Rattle.star_meaning.specs.Values.iterate Rattle.star_meaning.specs.Values.leave Rattle.star_meaning.specs.Values.is_true Rattle.star_meaning.specs.Values.equal Rattle.star_meaning.specs.Values.compare Rattle.star_meaning.specs.Values.check_key Rattle.star_meaning.specs.Values.repr Rattle.star_meaning.specs.Values.str Rattle.star_meaning.specs.Values.guard Rattle.star_meaning.specs.Values.change Rattle.star_meaning.specs.Variables.read_name Rattle.star_meaning.specs.Variables.bind_name Rattle.star_meaning.specs.Variables.new_frame Rattle.star_store.specs.Text.text Rattle.star_store.specs.Equal.same Rattle.star_store.specs.Order.order Rattle.star_store.specs.Key.check Rattle.star_store.specs.Key.is_key Rattle.star_store.specs.Key.same_key
int_is_not_unpacked = refl
