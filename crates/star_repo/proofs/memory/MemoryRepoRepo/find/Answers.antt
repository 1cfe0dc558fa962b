use Rattle.std.proofs.Common.{◌≡◌, Option, Some, None, ap, ◌∙◌, take}
use Rattle.std.specs.Prelude.{option_map}
use Rattle.star_repo.specs.Held.{unmarked}
use Rattle.star_repo.specs.Memory.{bytes_among}
use Rattle.star_repo.proofs.memory.MemoryRepoRepo.find.Goals as goal

told_some : {A B C : Type 0} (f : B → C) (g : A → B) (o : Option A) (x : A) (y : C) → Some x ≡ o → y ≡ f (g x) → Some y ≡ option_map f (option_map g o)
told_some f g o x y e h = ap Some h ∙ ap (λ p. option_map f (option_map g p)) e

told_none : {A B C : Type 0} (f : B → C) (g : A → B) (o : Option A) → None ≡ o → None ≡ option_map f (option_map g o)
told_none f g o e = ap (λ p. option_map f (option_map g p)) e

pub returns-in_default-clause-tells : goal.returns-in_default-clause-tells
returns-in_default-clause-tells c =
    told_none (take 1048577) unmarked _ (c.in_default.ensures ∙ ap (λ l. bytes_among l c.args.self.now.files.now) c.text.ensures)

pub returns-clause-tells : goal.returns-clause-tells
returns-clause-tells c =
    told_some (take 1048577) unmarked _ c.in-Some.bytes.now _ (c.in-Some.ensures ∙ ap (λ l. bytes_among l c.args.self.now.files.now) c.text.ensures)
    (c.in_ok-front_of.ensures ∙ ap (take 1048577) c.unmarked.ensures)
