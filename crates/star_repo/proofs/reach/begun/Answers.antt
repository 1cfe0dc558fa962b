use Rattle.std.proofs.Common.{◌≡◌, [], List, ℕ, None, Some, inl, inr, map, subst, sym}
use Rattle.star_label.specs.Files.{file_of}
use Rattle.star_repo.specs.Views.{answers_in, labels_of, words_of}
use Rattle.star_repo.specs.Way.{IsWay}
use Rattle.star_repo.proofs.Rows.{from_in, to_in}
use Rattle.star_repo.proofs.Ways.{begins}
use Rattle.star_repo.proofs.reach.begun.Goals as goal

none_some : (l : List ℕ) → ◌≡◌ None (Some l) → ⊥
none_some l e = cc

pub returns-clause-on_way : goal.returns-clause-on_way
returns-clause-on_way c = λ said.
    let words = words_of c.args.words.keys in
    let labels = labels_of c.args.words.keys in
    subst (λ es. IsWay said words 0 (answers_in c.new-2.result.items es) (map file_of c.new-2.result.items) labels 0 0) (sym c.new.ensures.empty)
    (subst (λ fs. IsWay said words 0 (answers_in fs []) (map file_of fs) labels 0 0) (sym c.new-2.ensures.items)
    (begins said words labels (λ l. ((λ h. inl (from_in labels l h)), (λ h. elim h [ inl i ↦ to_in labels l i | inr e ↦ absurd (none_some l e) ])))))
