-- The counts of fewer loaders are also counts of more loaders: the further loaders have begun nothing.
use Rattle.std.proofs.Common.{◌≡◌, ◌+◌, ◌-◌, ◌*◌, ◌≤◌, ◌++◌, ℕ, List, length, length-append, replicate, ap, sym, ◌∙◌, arith}
use Rattle.std.specs.Prelude.{sum}
use Rattle.std.proofs.lemmas.List.{append_assoc, length-replicate, replicate-append-replicate}
use Rattle.std.proofs.lemmas.List.Folds.{sum_by-replicate}
use Rattle.std.proofs.lemmas.List.Sums.{sum_by-append}
use Rattle.star_host.specs.Counts.{AreCounts}

pub counts_of_more : (few many begun : ℕ) (counts : List ℕ) → few ≤ many → many ≤ 64 → AreCounts few begun counts → AreCounts many begun counts
counts_of_more few many begun counts within most a =
    let more = replicate (many - few) 0 in
    let sizes = length-append a.each more in
    let size : length more ≡ many - few = length-replicate (many - few) 0 in
    let zeros : replicate (64 - few) 0 ≡ more ++ replicate (64 - many) 0 =
    ap (λ n. replicate n 0) (let e : 64 - few ≡ (many - few) + (64 - many) = omega (arith, within, most) in e) ∙ sym (replicate-append-replicate (many - few) (64 - many) 0) in
    let none : sum more ≡ (many - few) * 0 = sum_by-replicate (λ x. x) (many - few) 0 in
    let both : sum (a.each ++ more) ≡ sum a.each + sum more = sum_by-append (λ x. x) a.each more in
    record {
      each = a.each ++ more;
      one_each = omega (arith, sizes, size, within, a.one_each);
      then_none = a.then_none ∙ ap (λ z. a.each ++ z) zeros ∙ sym (append_assoc a.each more (replicate (64 - many) 0));
      all_begun = omega (arith, both, none, a.all_begun);
    }
