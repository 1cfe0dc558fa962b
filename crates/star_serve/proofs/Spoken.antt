-- The words of the command line, as they are passed on.
use Rattle.std.proofs.Common.{◌≡◌, ℕ, List, Option, None, Some, String, Bor, Global, refl, ap, map, subst, sym, ◌∙◌, string_bytes}
use Rattle.std.specs.Option.{option_copied, option_map}
use Rattle.star_label.specs.Files.{File}
use Rattle.star_repo.specs.Asked.{AreFilesFor}
use Rattle.star_repo.specs.Held.{Said}
use Rattle.star_serve.specs.Serve.{prelude_word, root_words}
use Rattle.star_serve.specs.declared.serve.Options.{Options}

pub same_words : (o : Option (Bor (String Global))) → option_map string_bytes (option_copied o) ≡ option_map (λ p. string_bytes p.now) o
same_words None = refl
same_words (Some p) = refl

pub words_of : (o : Option (Bor (String Global))) (p : Option (String Global)) → option_copied o ≡ p → option_map string_bytes p ≡ option_map (λ x. string_bytes x.now) o
words_of o p e = ap (option_map string_bytes) (sym e) ∙ same_words o

-- a value that is made of the words of the options is made of the words as they were passed on
pub same_by_words : {X : Type 0} (F : List (List ℕ) → Option (List ℕ) → X) (options : Options) (roots : List (String Global)) (o : Option (Bor (String Global))) → roots ≡ options.roots.items → option_copied o ≡ options.prelude
    → F (root_words options) (prelude_word options) ≡ F (map string_bytes roots) (option_map (λ p. string_bytes p.now) o)
same_by_words F options roots o same given =
    ap (λ rs. F (map string_bytes rs) (prelude_word options)) (sym same) ∙ ap (F (map string_bytes roots)) (words_of o options.prelude given)

-- the files that the passed words ask for are those of the options
pub files_by_words : (said : Said) (options : Options) (roots : List (String Global)) (o : Option (Bor (String Global))) (files : List File) → roots ≡ options.roots.items → option_copied o ≡ options.prelude
    → AreFilesFor said (map string_bytes roots) (option_map (λ p. string_bytes p.now) o) files → AreFilesFor said (root_words options) (prelude_word options) files
files_by_words said options roots o files same given are =
    subst (λ p. AreFilesFor said (root_words options) p files) (sym (words_of o options.prelude given)) (subst (λ rs. AreFilesFor said (map string_bytes rs) (option_map (λ p. string_bytes p.now) o) files) same are)
