-- What a visible value leads to: the same cell over both shelves, and it is visible.
use Rattle.std.proofs.Common.{◌≡◌, ℕ, List, Option, Some, None, Bool, true, false, if◌then◌else◌, nat_eq, slice_get, refl, ap}
use Rattle.std.specs.Option.{option_map}
use Rattle.star_store.specs.declared.values.Value.{Value}
use Rattle.star_store.specs.declared.values.Value.TheVariants as value
use Rattle.star_store.specs.declared.values.Cell.{Cell}
use Rattle.star_store.specs.declared.values.HeapCell.{HeapCell}
use Rattle.star_store.specs.Write.{cell_at}
use Rattle.star_store.specs.Store.{published_cells}
use Rattle.star_meaning.specs.Run.{State}
use Rattle.star_meaning.specs.Program.{Setting, seen}
use Rattle.star_meaning.specs.Values.{Content, Held, content, held}
use Rattle.star_unseen.specs.Veil.{CellIsVisible, Hides, IsVisible, Maybe, StateIsVisible}
use Rattle.star_unseen.specs.Shelves.{Veil, with_other}
use Rattle.star_unseen.proofs.Rows.{every_get}

-- the cells of a home by whether it is the run's own
abbrev at_home : List HeapCell → List HeapCell → ℕ → Bool → Option Cell
at_home own published at b = option_map (λ e. e.cell) (slice_get (if b then own else published) at)

pub cell_visible : (hides : Hides) (o : Option HeapCell) → Maybe (λ e. CellIsVisible hides e.cell) o → Maybe (CellIsVisible hides) (option_map (λ e. e.cell) o)
cell_visible hides None h = tt
cell_visible hides (Some e) h = h

found_visible : {w : Setting} (k : Veil w) (home at : ℕ) → IsVisible k.hides (value.Ref home at) → (o : Option Cell) → cell_at (published_cells (slice_get w.shelf home)) at ≡ o → Maybe (CellIsVisible k.hides) o
found_visible k home at h None e = tt
found_visible k home at h (Some c) e = k.contents home at c h e

by_home : {w : Setting} (k : Veil w) (own : List HeapCell) (home at : ℕ) (b : Bool) → IsVisible k.hides (value.Ref home at)
    → at_home own (published_cells (slice_get w.shelf home)) at b ≡ at_home own (published_cells (slice_get k.other.shelf home)) at b
by_home k own home at true h = refl
by_home k own home at false h = k.cells home at h

visible_home : {w : Setting} (k : Veil w) (s : State) → StateIsVisible k.hides w.home s → (home at : ℕ) (b : Bool) → IsVisible k.hides (value.Ref home at)
    → Maybe (CellIsVisible k.hides) (at_home s.store.cells (published_cells (slice_get w.shelf home)) at b)
visible_home k s c home at true h = cell_visible k.hides (slice_get s.store.cells at) (every_get _ s.store.cells at c.cells)
visible_home {w = w} k s c home at false h = found_visible k home at h _ refl

-- a visible value leads to the same cell over both shelves
pub same_seen : {w : Setting} (k : Veil w) (s : State) (v : Value) → IsVisible k.hides v → seen w s v ≡ seen (with_other k.other w) s v
same_seen k s value.NoneValue h = refl
same_seen k s (value.Bool b) h = refl
same_seen k s (value.Int n) h = refl
same_seen k s (value.Builtin b) h = refl
same_seen k s (value.Ref home at) h = by_home k s.store.cells home at (nat_eq home s.store.home) h

-- .. which is visible
pub visible_seen : {w : Setting} (k : Veil w) (s : State) (v : Value) → StateIsVisible k.hides w.home s → IsVisible k.hides v → Maybe (CellIsVisible k.hides) (seen w s v)
visible_seen k s value.NoneValue c h = tt
visible_seen k s (value.Bool b) c h = tt
visible_seen k s (value.Int n) c h = tt
visible_seen k s (value.Builtin b) c h = tt
visible_seen k s (value.Ref home at) c h = visible_home k s c home at (nat_eq home s.store.home) h

-- a content that leads to nothing hidden
abbrev pub ContentIsVisible : Hides → Content → Type 0
ContentIsVisible hides (Held c) = CellIsVisible hides c
ContentIsVisible hides _ = Unit {0}

held_visible : (hides : Hides) (o : Option Cell) → Maybe (CellIsVisible hides) o → ContentIsVisible hides (held o)
held_visible hides None h = tt
held_visible hides (Some c) h = h

pub same_content : {w : Setting} (k : Veil w) (s : State) (v : Value) → IsVisible k.hides v → content w s v ≡ content (with_other k.other w) s v
same_content k s value.NoneValue h = refl
same_content k s (value.Bool b) h = refl
same_content k s (value.Int n) h = refl
same_content k s (value.Builtin b) h = refl
same_content k s (value.Ref home at) h = ap held (same_seen k s (value.Ref home at) h)

pub visible_content : {w : Setting} (k : Veil w) (s : State) (v : Value) → StateIsVisible k.hides w.home s → IsVisible k.hides v → ContentIsVisible k.hides (content w s v)
visible_content k s value.NoneValue c h = tt
visible_content k s (value.Bool b) c h = tt
visible_content k s (value.Int n) c h = tt
visible_content k s (value.Builtin b) c h = tt
visible_content k s (value.Ref home at) c h = held_visible k.hides _ (visible_seen k s (value.Ref home at) c h)
