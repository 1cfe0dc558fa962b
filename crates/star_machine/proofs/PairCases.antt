-- The pairs of values, by their kinds.
use Rattle.std.proofs.Common.{◌≡◌, ◌≢◌, ℕ, true, false, refl, ap}
use Rattle.star_store.specs.declared.values.Value.{Value}
use Rattle.star_store.specs.declared.values.Cell.TheVariants as cell
use Rattle.star_machine.specs.declared.content.Kind.TheVariants as kind
use Rattle.star_meaning.specs.Run.{◌>>=◌, give, each}
use Rattle.star_meaning.specs.Program.{Setting}
use Rattle.star_meaning.specs.Values.{Content, Held, take_items}
use Rattle.star_machine.specs.Kinds.{kind_of}
use Rattle.star_meaning.specs.Pairs.{Pairs, pairs_in, pair_of, taken_entries}
use Rattle.star_meaning.specs.Subscript.{entries_in}
use Rattle.star_machine.proofs.KindCases.{is_dict}

pub pairs_dict : (w : Setting) (line : ℕ) (x : Value) (n : ℕ) (c : Content) → kind_of c ≡ kind.Dict → pairs_in w line x n c ≡ (taken_entries line (entries_in c) >>= λ ps. give {A = Pairs} (record { are_keys = true; pairs = ps }))
pairs_dict w line x n c h = ap (pairs_in w line x n) (is_dict c h)

pub pairs_other : (w : Setting) (line : ℕ) (x : Value) (n : ℕ) (c : Content) → kind_of c ≢ kind.Dict → pairs_in w line x n c ≡ (take_items w line x n >>= λ xs. each (pair_of w line) xs >>= λ ps. give {A = Pairs} (record { are_keys = false; pairs = ps }))
pairs_other w line x n (Held (cell.Dict es)) h = absurd (h refl)
pairs_other w line x n _ h = refl
