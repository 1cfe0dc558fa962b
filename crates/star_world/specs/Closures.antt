-- The function that a `def` or a `lambda` makes.
use Rattle.std.specs.Prelude.{ℕ, List}
use Rattle.star_store.specs.declared.values.Value.{Value}
use Rattle.star_store.specs.declared.values.Cell.TheVariants as cell
use Rattle.star_store.specs.declared.values.Function.{Function}
use Rattle.star_meaning.specs.declared.site.Site.{Site}
use Rattle.star_meaning.specs.Run.{Action, build}

-- a new function of the running file, whose frame is the running one: its definition's number, its name, its defaults
abbrev pub closure : Site → ℕ → List ℕ → List Value → Action Value
closure p number name ds =
    let f : Function = record { file = p.file; definition = number; name = name; defaults = ds; frame = p.frame } in
    build p.line 1 (cell.Func f)
