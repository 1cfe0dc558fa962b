-- The loads of a program are files.
use Rattle.std.proofs.Common.{◌≡◌, ◌<◌, ℕ, zero, suc, Bool, true, false, List, [], ◌∷◌, length, Option, Some, None, refl, sym, subst, arith}
use Rattle.std.specs.Prelude.{All, nat_eq, if◌then◌else◌}
use Rattle.std.specs.List.{flat_map}
use Rattle.std.specs.Option.{option_map}
use Rattle.std.proofs.lemmas.List.Elements.{All-append}
use Rattle.star_label.specs.Files.{File}
use Rattle.star_tree.specs.declared.tree.Position.{Position}
use Rattle.star_scope.specs.declared.loads.LoadTarget.{LoadTarget}
use Rattle.star_scope.specs.declared.loads.LoadTarget.TheVariants as lead
use Rattle.star_scope.specs.declared.loads.Load.{Load}
use Rattle.star_scope.specs.declared.program.Prelude.{Prelude}
use Rattle.star_scope.specs.Loads.{AllLead, LeadsTo, Read as Led, load_at, load_of, prelude_loads}
use Rattle.star_scope.specs.Resolve.{Outside, seen_by}
use Rattle.star_reading.specs.declared.reading.Read.{Read}
use Rattle.star_reading.specs.declared.reading.Read.TheVariants as read
use Rattle.star_reading.specs.Readings.{IsReadAs, loads_read}

abbrev Fits : List File → Load → Type 0
Fits files l = l.file < length files

nothing : {X : Type 0} (P : X → Type 0) → All P []
nothing P k d lt = absurd (omega (arith, lt))

just : {X : Type 0} (P : X → Type 0) (x : X) → P x → All P (x ∷ [])
just P x h zero d lt = h
just P x h (suc k) d lt = absurd (omega (arith, lt))

led_within : (files : List File) (here text : List ℕ) (p : Position) (l : LoadTarget) → LeadsTo files here text l → All (Fits files) (load_at p l)
led_within files here text p (lead.File n) h = just (Fits files) (record { file = n; line = p.line; token = Some p.token }) h.3
led_within files here text p lead.NoFile h = nothing (Fits files)
led_within files here text p lead.BadLabel h = nothing (Fits files)

all_within : (files : List File) (here : List ℕ) (rs : List Led) → AllLead files here rs → All (Fits files) (flat_map load_of rs)
all_within files here [] h = nothing (Fits files)
all_within files here (r ∷ rs) h = All-append (Fits files) (load_of r) (flat_map load_of rs) (led_within files here r.0.module_string.text r.0.position r.1 h.0) (all_within files here rs h.1)

seen_within : (files : List File) (b : Bool) (p : Prelude) → p.file < length files → All (Fits files) (prelude_loads (option_map (λ (q : Prelude). q.file) (if b then None else Some p)))
seen_within files true p h = nothing (Fits files)
seen_within files false p h = just (Fits files) (record { file = p.file; line = 1; token = None }) h

prelude_within : (files : List File) (n : ℕ) (prelude : Option Prelude) → ((p : Prelude) → prelude ≡ Some p → p.file < length files) → All (Fits files) (prelude_loads (option_map (λ (q : Prelude). q.file) (seen_by n prelude)))
prelude_within files n None fits = nothing (Fits files)
prelude_within files n (Some p) fits = seen_within files (nat_eq p.file n) p (fits p refl)

-- the loads of a read file are files
pub loads_within : (files : List File) (outside : Outside) (n : ℕ) (r : Read) → ((p : Prelude) → outside.prelude ≡ Some p → p.file < length files) → IsReadAs files outside n r → All (λ (l : Load). l.file < length files) (loads_read r)
loads_within files outside n (read.Fault f) fits is = nothing (Fits files)
loads_within files outside n (read.Program p) fits is =
    let resolved = is.3 in
    subst (λ ls. All (Fits files) ls) (sym resolved.3.loads)
    (All-append (Fits files) (prelude_loads (option_map (λ (q : Prelude). q.file) (seen_by n outside.prelude))) (flat_map load_of resolved.0) (prelude_within files n outside.prelude fits) (all_within files _ resolved.0 resolved.1.1))
