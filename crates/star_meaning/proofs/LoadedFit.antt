-- Functions that fit after the run of a module fit before the run of one that loads it: all that was seen is seen
-- there.
use Rattle.std.proofs.Common.{◌≡◌, ℕ, List, [], ◌∷◌, Option, Some, None, Bool, true, false, if◌then◌else◌, refl, ap, sym, ◌∙◌, arith, nat_eq, slice_get, length}
use Rattle.std.specs.Option.{option_flatten}
use Rattle.star_store.specs.declared.values.Value.{Value}
use Rattle.star_store.specs.declared.values.Value.TheVariants as value
use Rattle.star_store.specs.declared.values.Cell.{Cell}
use Rattle.star_store.specs.declared.values.Cell.TheVariants as cell
use Rattle.star_store.specs.declared.values.HeapCell.{HeapCell}
use Rattle.star_store.specs.declared.values.Function.{Function}
use Rattle.star_store.specs.Store.{Published, published_cells}
use Rattle.star_store.specs.Write.{cell_at}
use Rattle.star_meaning.specs.Run.{State}
use Rattle.star_meaning.specs.Program.{Setting, names_of, published_of, seen}
use Rattle.star_meaning.specs.Module.{start}
use Rattle.star_meaning.specs.Local.{Trees}
use Rattle.star_meaning.specs.Places.{FitsBlock, FitsChain, FitsFunction, Loaded, LoadsFit}

-- all that is seen is seen there too
abbrev SeenToo : Setting → State → Setting → State → Type 0
SeenToo u t w s = (v : Value) (c : Cell) → seen u t v ≡ Some c → seen w s v ≡ Some c

same_names : (u w : Setting) (file number : ℕ) → u.outlines ≡ w.outlines → names_of u file number ≡ names_of w file number
same_names u w file number o = ap (λ os. names_of (record u { outlines = os }) file number) o

chain_too : (u w : Setting) (t s : State) → u.outlines ≡ w.outlines → SeenToo u t w s → (file : ℕ) (chain : List ℕ) (frame : Option Value) → FitsChain u t file chain frame → FitsChain w s file chain frame
chain_too u w t s o k file [] frame h = h
chain_too u w t s o k file (b ∷ bs) frame h =
    let fits : FitsBlock w file b h.1 = record { file_is = h.4.file_is; block_is = h.4.block_is; slots_are = h.4.slots_are ∙ ap length (same_names u w file b o) } in
    (h.0, h.1, h.2, k h.0 (cell.Frame h.1) h.3, fits, chain_too u w t s o k file bs h.1.parent h.5)

function_too : (trees : Trees) (u w : Setting) (t s : State) → u.outlines ≡ w.outlines → SeenToo u t w s → (f : Function) → FitsFunction trees u t f → FitsFunction trees w s f
function_too trees u w t s o k f h = record { statements = h.statements; chain = h.chain; stands = h.stands; is_there = h.is_there; fits = chain_too u w t s o k f.file h.chain (Some f.frame) h.fits }

-- ---- the functions that a module sees if it loads another

abbrev pub cells_in : Option Published → List HeapCell
cells_in None = []
cells_in (Some p) = p.cells

pub flat_cells : (o : Option (Option Published)) → published_cells o ≡ cells_in (option_flatten o)
flat_cells None = refl
flat_cells (Some None) = refl
flat_cells (Some (Some p)) = refl

pub equal_numbers : (m n : ℕ) → nat_eq m n ≡ true → m ≡ n
equal_numbers m n e = grind (arith, e)

other_number : (b : Bool) (m n : ℕ) → nat_eq m n ≡ b → (m ≡ n → ⊥) → b ≡ false
other_number true m n e h = elim (h (equal_numbers m n e)) [ ]
other_number false m n e h = refl

nothing_at : (at : ℕ) (c : Cell) → cell_at [] at ≡ Some c → ⊥
nothing_at at c h = cc

-- a module on the shelf is seen from a module of another file
on_shelf : (w : Setting) (steps file at : ℕ) (p : Published) (c : Cell) → (file ≡ w.home → ⊥) → published_of w file ≡ Some p → cell_at p.cells at ≡ Some c → seen w (start w steps) (value.Ref file at) ≡ Some c
on_shelf w steps file at p c other e h =
    ap (λ b. cell_at (if b then [] else published_cells (slice_get w.shelf file)) at) (other_number (nat_eq file w.home) file w.home refl other)
    ∙ ap (λ xs. cell_at xs at) (flat_cells (slice_get w.shelf file) ∙ ap cells_in e) ∙ h

shelved : (u w : Setting) (t : State) (steps file at : ℕ) (c : Cell) → Loaded u t w → (o : Option Published) → published_of u file ≡ o → cell_at (cells_in o) at ≡ Some c → seen w (start w steps) (value.Ref file at) ≡ Some c
shelved u w t steps file at c l None e h = elim (nothing_at at c h) [ ]
shelved u w t steps file at c l (Some p) e h = on_shelf w steps file at p c (λ same. none_some p (sym l.unseen ∙ ap (published_of u) (sym same) ∙ e)) (l.others file p e) h
  where
    none_some : (p : Published) → None ≡ Some p → ⊥
    none_some p e = cc

seen_by : (u w : Setting) (t : State) (steps file at : ℕ) (c : Cell) → Loaded u t w → (b : Bool) → nat_eq file t.store.home ≡ b → cell_at (if b then t.store.cells else published_cells (slice_get u.shelf file)) at ≡ Some c → seen w (start w steps) (value.Ref file at) ≡ Some c
seen_by u w t steps file at c l true e h =
    let home : file ≡ u.home = equal_numbers file t.store.home e ∙ l.home in
    on_shelf w steps file at l.own.0 c (λ same. l.apart (sym same ∙ home)) (ap (published_of w) home ∙ l.own.1) (ap (λ xs. cell_at xs at) l.own.2 ∙ h)
seen_by u w t steps file at c l false e h = shelved u w t steps file at c l (published_of u file) refl (ap (λ xs. cell_at xs at) (sym (flat_cells (slice_get u.shelf file))) ∙ h)

loaded_seen : (u w : Setting) (t : State) (steps : ℕ) → Loaded u t w → SeenToo u t w (start w steps)
loaded_seen u w t steps l (value.Ref file at) c h = seen_by u w t steps file at c l (nat_eq file t.store.home) refl h
loaded_seen u w t steps l _ c h = cc

pub loads_fit : LoadsFit
loads_fit trees w steps h v f e =
    let r = h v f e in
    let l = r.2 in
    function_too trees r.0 w r.1 (start w steps) l.outlines (loaded_seen r.0 w r.1 steps l) f (r.3 v f r.4)
