-- Worked programs of several files, by computation: loads of names that are there, that are not, and that another file
-- only loads.
use Rattle.std.specs.Prelude.{◌≡◌, ℕ, List, Option, Some, None, [], ◌∷◌, pos}
use Rattle.std.specs.Fmt.{digits}
use Rattle.std.proofs.Common.{refl}
use Rattle.star_tree.specs.declared.tree.Expression.{out-Expression}
use Rattle.star_tree.specs.declared.tree.Expression.TheVariants as e
use Rattle.star_tree.specs.declared.tree.Target.{out-Target}
use Rattle.star_tree.specs.declared.tree.Target.TheVariants as t
use Rattle.star_tree.specs.declared.tree.Argument.{out-Argument}
use Rattle.star_tree.specs.declared.tree.Clause.{out-Clause}
use Rattle.star_tree.specs.declared.tree.Parameter.{out-Parameter}
use Rattle.star_tree.specs.declared.tree.Statement.{Statement}
use Rattle.star_tree.specs.declared.tree.Form.{out-Form}
use Rattle.star_tree.specs.declared.tree.Form.TheVariants as f
use Rattle.star_store.specs.Store.{Shelf}
use Rattle.star_outline.specs.Outlines.{Outline}
use Rattle.star_dialect.specs.declared.Dialect.TheVariants.{Core}
use Rattle.star_meaning.specs.Module.{union, local, Local, Good, Stopped}
use Rattle.star_meaning.specs.declared.fault.FaultCode.TheVariants as code
use Rattle.star_meaning.proofs.Rows.{n, at, here, shown}

abbrev reached : Local → Shelf
reached (Good shelf gs ts ls) = shelf
reached (Stopped f ls) = []

-- a run of a file that loads nothing
abbrev alone : List (Option Outline) → ℕ → ℕ → List Statement → Local
alone outs home steps prog = local (record { home = home; outlines = outs; shelf = union []; loads = []; prelude = None; language = record { dialect = Core; recorded = [] } }) steps prog

-- a run of a file that has one load: the token of its label, and the file that it names
abbrev over : Local → ℕ × ℕ → List (Option Outline) → ℕ → ℕ → List Statement → Local
over below load outs home steps prog =
    local (record { home = home; outlines = outs; shelf = union (reached below ∷ []); loads = load ∷ []; prelude = None; language = record { dialect = Core; recorded = [] } }) steps prog

abbrev absent_name_prog0 : List Statement
absent_name_prog0 = ((at 1 101 (f.Load (record { text = (58 ∷ 98 ∷ 46 ∷ 115 ∷ 116 ∷ 97 ∷ 114 ∷ []); position = here 0 }) (record { local = n (113 ∷ []); loaded = record { text = (113 ∷ []); position = here 0 } } ∷ []))) ∷ [])

abbrev absent_name_prog1 : List Statement
absent_name_prog1 = ((at 1 101 (f.Assign (t.Name (n (107 ∷ []))) (e.Int (pos 1)))) ∷ [])

abbrev absent_name_outs : List (Option Outline)
absent_name_outs = Some (record { definitions = ([]); blocks = (record { number = 0; names = ((113 ∷ []) ∷ []) } ∷ []); loaded = ((113 ∷ []) ∷ []) }) ∷ Some (record { definitions = ([]); blocks = (record { number = 0; names = ((107 ∷ []) ∷ []) } ∷ []); loaded = ([]) }) ∷ []

abbrev absent_name_m1 : Local
absent_name_m1 = alone absent_name_outs 1 1000000 absent_name_prog1

abbrev absent_name_m0 : Local
absent_name_m0 = over absent_name_m1 (101, 1) absent_name_outs 0 1000000 absent_name_prog0

-- a: load(":b.star", "q"); b: k = 1
pub absent_name : (shown absent_name_m1 ≡ Good [] [] (((107 ∷ []), (49 ∷ [])) ∷ []) ([])) × (shown absent_name_m0 ≡ Stopped (record { code = code.NoName; line = 1 }) ([]))
unfolding out-Form out-Expression out-Target out-Argument out-Clause out-Parameter denote.Hole.Carrier.out denote.Hole.Carrier.shown denote.Hole.Carrier.hidden digits Rattle.star_meaning.specs.Arguments.given Rattle.star_meaning.specs.Arguments.name_key Rattle.star_meaning.specs.Binding.bound_to Rattle.star_meaning.specs.Binding.build_arguments Rattle.star_meaning.specs.BuiltIns.call_built_in Rattle.star_meaning.specs.Calls.callee Rattle.star_meaning.specs.Calls.activate Rattle.star_meaning.specs.Calls.deactivate Rattle.star_meaning.specs.ListMethods.extend Rattle.star_meaning.specs.Attributes.attribute Rattle.star_meaning.specs.Methods.call_method Rattle.star_meaning.specs.Module.meaning Rattle.star_meaning.specs.Operators.operate Rattle.star_meaning.specs.Operators.prefix Rattle.star_meaning.specs.Operators.comparison Rattle.star_meaning.specs.Pairs.pairs_of Rattle.star_meaning.specs.Pairs.put_pairs Rattle.star_meaning.specs.Pairs.dict_of Rattle.star_meaning.specs.Pairs.update_with Rattle.star_meaning.specs.Run.pay Rattle.star_meaning.specs.Run.make Rattle.star_meaning.specs.Run.build Rattle.star_meaning.specs.Run.add_said Rattle.star_meaning.specs.Subscript.index Rattle.star_meaning.specs.Subscript.put_entry Rattle.star_meaning.specs.Subscript.set_index Rattle.star_meaning.specs.Subscript.slice Rattle.star_meaning.specs.Values.count_of Rattle.star_meaning.specs.Values.take_item Rattle.star_meaning.specs.Values.iterate Rattle.star_meaning.specs.Values.leave Rattle.star_meaning.specs.Values.is_true Rattle.star_meaning.specs.Values.equal Rattle.star_meaning.specs.Values.compare Rattle.star_meaning.specs.Values.check_key Rattle.star_meaning.specs.Values.repr Rattle.star_meaning.specs.Values.str Rattle.star_meaning.specs.Values.guard Rattle.star_meaning.specs.Values.change Rattle.star_meaning.specs.Variables.read_name Rattle.star_meaning.specs.Variables.bind_name Rattle.star_meaning.specs.Variables.new_frame Rattle.star_store.specs.Text.text Rattle.star_store.specs.Equal.same Rattle.star_store.specs.Order.order Rattle.star_store.specs.Key.check Rattle.star_store.specs.Key.is_key Rattle.star_store.specs.Key.same_key
absent_name = (refl, refl)

abbrev loaded_there_prog0 : List Statement
loaded_there_prog0 = ((at 1 101 (f.Load (record { text = (58 ∷ 98 ∷ 46 ∷ 115 ∷ 116 ∷ 97 ∷ 114 ∷ []); position = here 0 }) (record { local = n (113 ∷ []); loaded = record { text = (113 ∷ []); position = here 0 } } ∷ []))) ∷ [])

abbrev loaded_there_prog1 : List Statement
loaded_there_prog1 = ((at 1 101 (f.Load (record { text = (58 ∷ 99 ∷ 46 ∷ 115 ∷ 116 ∷ 97 ∷ 114 ∷ []); position = here 0 }) (record { local = n (113 ∷ []); loaded = record { text = (113 ∷ []); position = here 0 } } ∷ []))) ∷ [])

abbrev loaded_there_prog2 : List Statement
loaded_there_prog2 = ((at 1 101 (f.Assign (t.Name (n (113 ∷ []))) (e.Int (pos 1)))) ∷ [])

abbrev loaded_there_outs : List (Option Outline)
loaded_there_outs = Some (record { definitions = ([]); blocks = (record { number = 0; names = ((113 ∷ []) ∷ []) } ∷ []); loaded = ((113 ∷ []) ∷ []) }) ∷ Some (record { definitions = ([]); blocks = (record { number = 0; names = ((113 ∷ []) ∷ []) } ∷ []); loaded = ((113 ∷ []) ∷ []) }) ∷ Some (record { definitions = ([]); blocks = (record { number = 0; names = ((113 ∷ []) ∷ []) } ∷ []); loaded = ([]) }) ∷ []

abbrev loaded_there_m2 : Local
loaded_there_m2 = alone loaded_there_outs 2 1000000 loaded_there_prog2

abbrev loaded_there_m1 : Local
loaded_there_m1 = over loaded_there_m2 (101, 2) loaded_there_outs 1 1000000 loaded_there_prog1

abbrev loaded_there_m0 : Local
loaded_there_m0 = over loaded_there_m1 (101, 1) loaded_there_outs 0 1000000 loaded_there_prog0

-- a: load(":b.star", "q"); b: load(":c.star", "q"); c: q = 1
pub loaded_there : (shown loaded_there_m2 ≡ Good [] [] (((113 ∷ []), (49 ∷ [])) ∷ []) ([])) × (shown loaded_there_m1 ≡ Good [] [] ([]) ([])) × (shown loaded_there_m0 ≡ Stopped (record { code = code.NoName; line = 1 }) ([]))
unfolding out-Form out-Expression out-Target out-Argument out-Clause out-Parameter denote.Hole.Carrier.out denote.Hole.Carrier.shown denote.Hole.Carrier.hidden digits Rattle.star_meaning.specs.Arguments.given Rattle.star_meaning.specs.Arguments.name_key Rattle.star_meaning.specs.Binding.bound_to Rattle.star_meaning.specs.Binding.build_arguments Rattle.star_meaning.specs.BuiltIns.call_built_in Rattle.star_meaning.specs.Calls.callee Rattle.star_meaning.specs.Calls.activate Rattle.star_meaning.specs.Calls.deactivate Rattle.star_meaning.specs.ListMethods.extend Rattle.star_meaning.specs.Attributes.attribute Rattle.star_meaning.specs.Methods.call_method Rattle.star_meaning.specs.Module.meaning Rattle.star_meaning.specs.Operators.operate Rattle.star_meaning.specs.Operators.prefix Rattle.star_meaning.specs.Operators.comparison Rattle.star_meaning.specs.Pairs.pairs_of Rattle.star_meaning.specs.Pairs.put_pairs Rattle.star_meaning.specs.Pairs.dict_of Rattle.star_meaning.specs.Pairs.update_with Rattle.star_meaning.specs.Run.pay Rattle.star_meaning.specs.Run.make Rattle.star_meaning.specs.Run.build Rattle.star_meaning.specs.Run.add_said Rattle.star_meaning.specs.Subscript.index Rattle.star_meaning.specs.Subscript.put_entry Rattle.star_meaning.specs.Subscript.set_index Rattle.star_meaning.specs.Subscript.slice Rattle.star_meaning.specs.Values.count_of Rattle.star_meaning.specs.Values.take_item Rattle.star_meaning.specs.Values.iterate Rattle.star_meaning.specs.Values.leave Rattle.star_meaning.specs.Values.is_true Rattle.star_meaning.specs.Values.equal Rattle.star_meaning.specs.Values.compare Rattle.star_meaning.specs.Values.check_key Rattle.star_meaning.specs.Values.repr Rattle.star_meaning.specs.Values.str Rattle.star_meaning.specs.Values.guard Rattle.star_meaning.specs.Values.change Rattle.star_meaning.specs.Variables.read_name Rattle.star_meaning.specs.Variables.bind_name Rattle.star_meaning.specs.Variables.new_frame Rattle.star_store.specs.Text.text Rattle.star_store.specs.Equal.same Rattle.star_store.specs.Order.order Rattle.star_store.specs.Key.check Rattle.star_store.specs.Key.is_key Rattle.star_store.specs.Key.same_key
loaded_there = (refl, refl, refl)

abbrev read_before_the_load_prog0 : List Statement
read_before_the_load_prog0 = ((at 1 101 (f.Assign (t.Name (n (120 ∷ []))) (e.Name (n (107 ∷ []))))) ∷ (at 2 102 (f.Load (record { text = (58 ∷ 98 ∷ 46 ∷ 115 ∷ 116 ∷ 97 ∷ 114 ∷ []); position = here 0 }) (record { local = n (107 ∷ []); loaded = record { text = (107 ∷ []); position = here 0 } } ∷ []))) ∷ [])

abbrev read_before_the_load_prog1 : List Statement
read_before_the_load_prog1 = ((at 1 101 (f.Assign (t.Name (n (107 ∷ []))) (e.Int (pos 1)))) ∷ [])

abbrev read_before_the_load_outs : List (Option Outline)
read_before_the_load_outs = Some (record { definitions = ([]); blocks = (record { number = 0; names = ((120 ∷ []) ∷ (107 ∷ []) ∷ []) } ∷ []); loaded = ((107 ∷ []) ∷ []) }) ∷ Some (record { definitions = ([]); blocks = (record { number = 0; names = ((107 ∷ []) ∷ []) } ∷ []); loaded = ([]) }) ∷ []

abbrev read_before_the_load_m1 : Local
read_before_the_load_m1 = alone read_before_the_load_outs 1 1000000 read_before_the_load_prog1

abbrev read_before_the_load_m0 : Local
read_before_the_load_m0 = over read_before_the_load_m1 (102, 1) read_before_the_load_outs 0 1000000 read_before_the_load_prog0

-- a: x = k ⏎ load(":b.star", "k"); b: k = 1
pub read_before_the_load : (shown read_before_the_load_m1 ≡ Good [] [] (((107 ∷ []), (49 ∷ [])) ∷ []) ([])) × (shown read_before_the_load_m0 ≡ Stopped (record { code = code.Unbound; line = 1 }) ([]))
unfolding out-Form out-Expression out-Target out-Argument out-Clause out-Parameter denote.Hole.Carrier.out denote.Hole.Carrier.shown denote.Hole.Carrier.hidden digits Rattle.star_meaning.specs.Arguments.given Rattle.star_meaning.specs.Arguments.name_key Rattle.star_meaning.specs.Binding.bound_to Rattle.star_meaning.specs.Binding.build_arguments Rattle.star_meaning.specs.BuiltIns.call_built_in Rattle.star_meaning.specs.Calls.callee Rattle.star_meaning.specs.Calls.activate Rattle.star_meaning.specs.Calls.deactivate Rattle.star_meaning.specs.ListMethods.extend Rattle.star_meaning.specs.Attributes.attribute Rattle.star_meaning.specs.Methods.call_method Rattle.star_meaning.specs.Module.meaning Rattle.star_meaning.specs.Operators.operate Rattle.star_meaning.specs.Operators.prefix Rattle.star_meaning.specs.Operators.comparison Rattle.star_meaning.specs.Pairs.pairs_of Rattle.star_meaning.specs.Pairs.put_pairs Rattle.star_meaning.specs.Pairs.dict_of Rattle.star_meaning.specs.Pairs.update_with Rattle.star_meaning.specs.Run.pay Rattle.star_meaning.specs.Run.make Rattle.star_meaning.specs.Run.build Rattle.star_meaning.specs.Run.add_said Rattle.star_meaning.specs.Subscript.index Rattle.star_meaning.specs.Subscript.put_entry Rattle.star_meaning.specs.Subscript.set_index Rattle.star_meaning.specs.Subscript.slice Rattle.star_meaning.specs.Values.count_of Rattle.star_meaning.specs.Values.take_item Rattle.star_meaning.specs.Values.iterate Rattle.star_meaning.specs.Values.leave Rattle.star_meaning.specs.Values.is_true Rattle.star_meaning.specs.Values.equal Rattle.star_meaning.specs.Values.compare Rattle.star_meaning.specs.Values.check_key Rattle.star_meaning.specs.Values.repr Rattle.star_meaning.specs.Values.str Rattle.star_meaning.specs.Values.guard Rattle.star_meaning.specs.Values.change Rattle.star_meaning.specs.Variables.read_name Rattle.star_meaning.specs.Variables.bind_name Rattle.star_meaning.specs.Variables.new_frame Rattle.star_store.specs.Text.text Rattle.star_store.specs.Equal.same Rattle.star_store.specs.Order.order Rattle.star_store.specs.Key.check Rattle.star_store.specs.Key.is_key Rattle.star_store.specs.Key.same_key
read_before_the_load = (refl, refl)

abbrev two_names_prog0 : List Statement
two_names_prog0 = ((at 1 101 (f.Load (record { text = (58 ∷ 98 ∷ 46 ∷ 115 ∷ 116 ∷ 97 ∷ 114 ∷ []); position = here 0 }) (record { local = n (107 ∷ []); loaded = record { text = (107 ∷ []); position = here 0 } } ∷ record { local = n (106 ∷ []); loaded = record { text = (107 ∷ []); position = here 0 } } ∷ []))) ∷ (at 2 102 (f.Assign (t.Name (n (120 ∷ []))) (e.Name (n (106 ∷ []))))) ∷ [])

abbrev two_names_prog1 : List Statement
two_names_prog1 = ((at 1 101 (f.Assign (t.Name (n (107 ∷ []))) (e.Int (pos 1)))) ∷ [])

abbrev two_names_outs : List (Option Outline)
two_names_outs = Some (record { definitions = ([]); blocks = (record { number = 0; names = ((107 ∷ []) ∷ (106 ∷ []) ∷ (120 ∷ []) ∷ []) } ∷ []); loaded = ((107 ∷ []) ∷ (106 ∷ []) ∷ []) }) ∷ Some (record { definitions = ([]); blocks = (record { number = 0; names = ((107 ∷ []) ∷ []) } ∷ []); loaded = ([]) }) ∷ []

abbrev two_names_m1 : Local
two_names_m1 = alone two_names_outs 1 6 two_names_prog1

abbrev two_names_m0 : Local
two_names_m0 = over two_names_m1 (101, 1) two_names_outs 0 6 two_names_prog0

-- a: load(":b.star", "k", j = "k") ⏎ x = j; b: k = 1
pub two_names : (shown two_names_m1 ≡ Good [] [] (((107 ∷ []), (49 ∷ [])) ∷ []) ([])) × (shown two_names_m0 ≡ Good [] [] (((120 ∷ []), (49 ∷ [])) ∷ []) ([]))
unfolding out-Form out-Expression out-Target out-Argument out-Clause out-Parameter denote.Hole.Carrier.out denote.Hole.Carrier.shown denote.Hole.Carrier.hidden digits Rattle.star_meaning.specs.Arguments.given Rattle.star_meaning.specs.Arguments.name_key Rattle.star_meaning.specs.Binding.bound_to Rattle.star_meaning.specs.Binding.build_arguments Rattle.star_meaning.specs.BuiltIns.call_built_in Rattle.star_meaning.specs.Calls.callee Rattle.star_meaning.specs.Calls.activate Rattle.star_meaning.specs.Calls.deactivate Rattle.star_meaning.specs.ListMethods.extend Rattle.star_meaning.specs.Attributes.attribute Rattle.star_meaning.specs.Methods.call_method Rattle.star_meaning.specs.Module.meaning Rattle.star_meaning.specs.Operators.operate Rattle.star_meaning.specs.Operators.prefix Rattle.star_meaning.specs.Operators.comparison Rattle.star_meaning.specs.Pairs.pairs_of Rattle.star_meaning.specs.Pairs.put_pairs Rattle.star_meaning.specs.Pairs.dict_of Rattle.star_meaning.specs.Pairs.update_with Rattle.star_meaning.specs.Run.pay Rattle.star_meaning.specs.Run.make Rattle.star_meaning.specs.Run.build Rattle.star_meaning.specs.Run.add_said Rattle.star_meaning.specs.Subscript.index Rattle.star_meaning.specs.Subscript.put_entry Rattle.star_meaning.specs.Subscript.set_index Rattle.star_meaning.specs.Subscript.slice Rattle.star_meaning.specs.Values.count_of Rattle.star_meaning.specs.Values.take_item Rattle.star_meaning.specs.Values.iterate Rattle.star_meaning.specs.Values.leave Rattle.star_meaning.specs.Values.is_true Rattle.star_meaning.specs.Values.equal Rattle.star_meaning.specs.Values.compare Rattle.star_meaning.specs.Values.check_key Rattle.star_meaning.specs.Values.repr Rattle.star_meaning.specs.Values.str Rattle.star_meaning.specs.Values.guard Rattle.star_meaning.specs.Values.change Rattle.star_meaning.specs.Variables.read_name Rattle.star_meaning.specs.Variables.bind_name Rattle.star_meaning.specs.Variables.new_frame Rattle.star_store.specs.Text.text Rattle.star_store.specs.Equal.same Rattle.star_store.specs.Order.order Rattle.star_store.specs.Key.check Rattle.star_store.specs.Key.is_key Rattle.star_store.specs.Key.same_key
two_names = (refl, refl)
