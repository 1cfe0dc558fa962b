-- The pages that texts are written on.
use Rattle.std.specs.Prelude.{Result}
use Rattle.star_store.specs.declared.fault.StoreFault.{StoreFault}
use Rattle.star_store.specs.Text.{Say, Says}
use Rattle.star_visit.specs.declared.text.Page.{Page}

-- A function that is to put a text on a page: how the page was, its answer, and how it left the page.
abbrev pub Puts : Say → Page → Result (Unit {0}) StoreFault → Page → Type 0
Puts f old r new = Says (f old.out old.steps) r new.out new.steps
