-- The names of the built-in functions and of the methods.
use Rattle.std.specs.Prelude.{ℕ, ◌+◌, Bool, true, false, List, [], codes, slice_get}
use Rattle.std.specs.Option.{unwrap_or}
use Rattle.star_store.specs.declared.names.BuiltIn.{BuiltIn}
use Rattle.star_store.specs.declared.names.BuiltIn.TheVariants as built_in
use Rattle.star_store.specs.declared.names.Method.{Method}
use Rattle.star_store.specs.declared.names.Method.TheVariants as method
use Rattle.star_store.specs.declared.names.SetMethod.{SetMethod}
use Rattle.star_store.specs.declared.names.SetMethod.TheVariants as set_method
use Rattle.star_strings.specs.Table as strings

-- the place among the built-in functions: those of the core, those of the extended language, and the members of `json`,
-- each in order of their names, and then the recorded functions
abbrev pub built_in_number : BuiltIn → ℕ
built_in_number built_in.Abs = 0
built_in_number built_in.All = 1
built_in_number built_in.Any = 2
built_in_number built_in.Bool = 3
built_in_number built_in.Dict = 4
built_in_number built_in.Enumerate = 5
built_in_number built_in.Fail = 6
built_in_number built_in.Int = 7
built_in_number built_in.Len = 8
built_in_number built_in.List = 9
built_in_number built_in.Max = 10
built_in_number built_in.Min = 11
built_in_number built_in.Print = 12
built_in_number built_in.Range = 13
built_in_number built_in.Repr = 14
built_in_number built_in.Reversed = 15
built_in_number built_in.Sorted = 16
built_in_number built_in.Str = 17
built_in_number built_in.Tuple = 18
built_in_number built_in.Type = 19
built_in_number built_in.Zip = 20
built_in_number built_in.Chr = 21
built_in_number built_in.Dir = 22
built_in_number built_in.Getattr = 23
built_in_number built_in.Hasattr = 24
built_in_number built_in.Hash = 25
built_in_number built_in.Json = 26
built_in_number built_in.Ord = 27
built_in_number built_in.Set = 28
built_in_number built_in.Struct = 29
built_in_number built_in.JsonDecode = 30
built_in_number built_in.JsonEncode = 31
built_in_number built_in.JsonEncodeIndent = 32
built_in_number (built_in.Recorded i) = 33 + i

-- the name of a built-in function; a recorded one is known by its place among the recorded names
abbrev pub built_in_name : BuiltIn → List ℕ
built_in_name built_in.Abs = codes "abs"
built_in_name built_in.All = codes "all"
built_in_name built_in.Any = codes "any"
built_in_name built_in.Bool = codes "bool"
built_in_name built_in.Dict = codes "dict"
built_in_name built_in.Enumerate = codes "enumerate"
built_in_name built_in.Fail = codes "fail"
built_in_name built_in.Int = codes "int"
built_in_name built_in.Len = codes "len"
built_in_name built_in.List = codes "list"
built_in_name built_in.Max = codes "max"
built_in_name built_in.Min = codes "min"
built_in_name built_in.Print = codes "print"
built_in_name built_in.Range = codes "range"
built_in_name built_in.Repr = codes "repr"
built_in_name built_in.Reversed = codes "reversed"
built_in_name built_in.Sorted = codes "sorted"
built_in_name built_in.Str = codes "str"
built_in_name built_in.Tuple = codes "tuple"
built_in_name built_in.Type = codes "type"
built_in_name built_in.Zip = codes "zip"
built_in_name built_in.Chr = codes "chr"
built_in_name built_in.Dir = codes "dir"
built_in_name built_in.Getattr = codes "getattr"
built_in_name built_in.Hasattr = codes "hasattr"
built_in_name built_in.Hash = codes "hash"
built_in_name built_in.Json = codes "json"
built_in_name built_in.Ord = codes "ord"
built_in_name built_in.Set = codes "set"
built_in_name built_in.Struct = codes "struct"
built_in_name built_in.JsonDecode = codes "json.decode"
built_in_name built_in.JsonEncode = codes "json.encode"
built_in_name built_in.JsonEncodeIndent = codes "json.encode_indent"
built_in_name (built_in.Recorded i) = []

-- the name of any of them, given the recorded names
abbrev pub name_among : List (List ℕ) → BuiltIn → List ℕ
name_among names (built_in.Recorded i) = unwrap_or (slice_get names i) []
name_among names b = built_in_name b

-- `json` is a module; each other one is a function
abbrev pub is_function : BuiltIn → Bool
is_function built_in.Json = false
is_function _ = true

-- the name of a method of sets
abbrev pub set_method_name : SetMethod → List ℕ
set_method_name set_method.Add = codes "add"
set_method_name set_method.Clear = codes "clear"
set_method_name set_method.Difference = codes "difference"
set_method_name set_method.DifferenceUpdate = codes "difference_update"
set_method_name set_method.Discard = codes "discard"
set_method_name set_method.Intersection = codes "intersection"
set_method_name set_method.IntersectionUpdate = codes "intersection_update"
set_method_name set_method.Isdisjoint = codes "isdisjoint"
set_method_name set_method.Issubset = codes "issubset"
set_method_name set_method.Issuperset = codes "issuperset"
set_method_name set_method.Pop = codes "pop"
set_method_name set_method.Remove = codes "remove"
set_method_name set_method.SymmetricDifference = codes "symmetric_difference"
set_method_name set_method.SymmetricDifferenceUpdate = codes "symmetric_difference_update"
set_method_name set_method.Union = codes "union"
set_method_name set_method.Update = codes "update"

-- the names of a method: the name of its receiver's type, and its own
abbrev pub method_names : Method → List ℕ × List ℕ
method_names method.ListAppend = (codes "list", codes "append")
method_names method.ListClear = (codes "list", codes "clear")
method_names method.ListExtend = (codes "list", codes "extend")
method_names method.ListIndex = (codes "list", codes "index")
method_names method.ListInsert = (codes "list", codes "insert")
method_names method.ListPop = (codes "list", codes "pop")
method_names method.ListRemove = (codes "list", codes "remove")
method_names method.DictClear = (codes "dict", codes "clear")
method_names method.DictGet = (codes "dict", codes "get")
method_names method.DictItems = (codes "dict", codes "items")
method_names method.DictKeys = (codes "dict", codes "keys")
method_names method.DictPop = (codes "dict", codes "pop")
method_names method.DictPopitem = (codes "dict", codes "popitem")
method_names method.DictSetdefault = (codes "dict", codes "setdefault")
method_names method.DictUpdate = (codes "dict", codes "update")
method_names method.DictValues = (codes "dict", codes "values")
method_names method.StringEndswith = (codes "string", codes "endswith")
method_names method.StringFind = (codes "string", codes "find")
method_names method.StringFormat = (codes "string", codes "format")
method_names method.StringJoin = (codes "string", codes "join")
method_names method.StringLower = (codes "string", codes "lower")
method_names method.StringLstrip = (codes "string", codes "lstrip")
method_names method.StringReplace = (codes "string", codes "replace")
method_names method.StringRstrip = (codes "string", codes "rstrip")
method_names method.StringSplit = (codes "string", codes "split")
method_names method.StringStartswith = (codes "string", codes "startswith")
method_names method.StringStrip = (codes "string", codes "strip")
method_names method.StringUpper = (codes "string", codes "upper")
method_names (method.OfString m) = (codes "string", strings.method_name m)
method_names (method.OfSet m) = (codes "set", set_method_name m)

abbrev pub receiver_type : Method → List ℕ
receiver_type m = (method_names m).0

abbrev pub method_name : Method → List ℕ
method_name m = (method_names m).1
