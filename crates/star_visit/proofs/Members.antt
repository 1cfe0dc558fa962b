-- The order of fields by their names.
use Rattle.std.proofs.Common.{List, ℕ}
use Rattle.std.specs.Cmp.{IsStrictWeakOrder}
use Rattle.std.proofs.lemmas.Cmp.{nat_list_cmp_total}
use Rattle.std.proofs.lemmas.List.Sorted.{ranks_by}
use Rattle.star_store.specs.declared.values.Value.{Value}
use Rattle.star_store.specs.Fields.{is_before}

-- the names compare any two fields
pub fields_rank : IsStrictWeakOrder is_before
fields_rank = ranks_by nat_list_cmp_total (λ (e : List ℕ × Value). e.0)
