-- Entries that are put into others, one by one.
use Rattle.std.proofs.Common.{◌≡◌, ℕ, ◌+◌, ◌<◌, List, length, drop, get_or, add-one, refl}
use Rattle.std.proofs.Math.Seq.{drop-cons}
use Rattle.star_store.specs.declared.values.Value.{Value}
use Rattle.star_meaning.specs.Run.{State}
use Rattle.star_meaning.specs.Program.{Setting}
use Rattle.star_meaning.specs.Entries.{with_entries, with_entry}

pub entries_next : (w : Setting) (s : State) (es fs : List (Value × Value)) (i : ℕ) (d : Value × Value) → i < length fs → with_entries w s es (drop i fs) ≡ with_entries w s (with_entry w s es (get_or fs i d)) (drop (i + 1) fs)
entries_next w s es fs i d h = rw (add-one, drop-cons fs i d) refl
