-- The places of a slice.
use Rattle.std.specs.Prelude.{◌≡◌, ◌++◌, nat_lt, Bool, ℕ, true, false, List, [], ◌∷◌, Option, Some, None, neg_ℤ, pos, ◌≤ℤ◌, ◌+ℤ◌, ◌*ℤ◌, Result, Ok, Err}
use Rattle.std.specs.List.{list_all}
use Rattle.star_store.specs.Arithmetic.{checked}
use Rattle.star_store.specs.declared.fault.StoreFault.{StoreFault}
use Rattle.star_store.specs.declared.range.Range.{Range}
use Rattle.star_operators.specs.declared.slices.Span.{Span}
use Rattle.star_meaning.specs.declared.fault.FaultCode.TheVariants as code
use Rattle.star_meaning.specs.Run.{Action, check}
use Rattle.star_meaning.specs.Program.{Setting}
use Rattle.star_meaning.specs.Values.{with_content}
use Rattle.star_meaning.specs.Subscript.{has_slices, is_whole, picked, places_of}
use Rattle.star_store.specs.declared.values.Value.{Value}

abbrev pub as_range : Span → Range
as_range s = record { start = s.start; stop = s.stop; step = s.step }

-- neither end is more than one below the first place
abbrev pub has_low_ends : Span → Type 0
has_low_ends s = (neg_ℤ (pos 1) ≤ℤ s.start) × (neg_ℤ (pos 1) ≤ℤ s.stop)

-- the item as a list, if there is one
abbrev pub item_list : {A : Type 0} → Option A → List A
item_list None = []
item_list (Some x) = x ∷ []

abbrev pub slices_checked : Setting → ℕ → Value → Action (Unit {0})
slices_checked w line x = with_content w x (λ d. check code.BadType line (has_slices w.language.dialect d))

-- the ints of a range at the places of another one; three steps, each of which may be refused
abbrev pub then_with : {A B : Type 0} → Result A StoreFault → (A → Result B StoreFault) → Result B StoreFault
then_with (Ok x) f = f x
then_with (Err e) f = Err e

abbrev pub range_part : Range → Range → Result Range StoreFault
range_part r p =
    then_with (checked (r.start +ℤ p.start *ℤ r.step)) (λ start.
    then_with (checked (r.start +ℤ p.stop *ℤ r.step)) (λ stop.
    then_with (checked (r.step *ℤ p.step)) (λ step. Ok (record { start = start; stop = stop; step = step }))))

-- both ends are places of a number of items, or the end after them
abbrev pub lies_within : ℕ → Span → Type 0
lies_within n s = (pos 0 ≤ℤ s.start) × (s.start ≤ℤ pos n) × (pos 0 ≤ℤ s.stop) × (s.stop ≤ℤ pos n)

-- a part of a string at the places of a range: none exactly if a character would be cut
abbrev pub Parts : Option (List ℕ) → List ℕ → Range → Type 0
Parts None t r = is_whole t r ≡ false
Parts (Some u) t r = (is_whole t r ≡ true) × (u ≡ picked t (places_of r))

-- the places from one up to another
abbrev pub run : ℕ → ℕ → Range
run a b = record { start = pos a; stop = pos b; step = pos 1 }

-- whether bytes are ASCII
abbrev pub all_ascii : List ℕ → Bool
all_ascii bs = list_all (λ b. nat_lt b 128) bs

-- a byte, if there is one, was put after a text, unless it is not ASCII
abbrev pub Pushes : Bool → Option ℕ → List ℕ → List ℕ → Type 0
Pushes true b old new = (new ≡ old ++ item_list b) × (all_ascii (item_list b) ≡ true)
Pushes false b old new = all_ascii (item_list b) ≡ false
