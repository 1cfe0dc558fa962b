use Rattle.std.proofs.Common.{◌≡◌, ◌∙◌, inl, inr, sym}
use Rattle.star_folder.specs.declared.folder.Kind.TheVariants.{File, Folder, Other}
use Rattle.star_words.proofs.exclude.leaves_out.Goals as goal

file_apart : File ≡ Folder → ⊥
file_apart e = cc

other_apart : Other ≡ Folder → ⊥
other_apart e = cc

pub returns-in-File-clause-no : goal.returns-in-File-clause-no
returns-in-File-clause-no c = λ _ path e h. elim h [
  | inl k ↦ c.covers.ensures.no c.if-covers.false path e k
  | inr k ↦ file_apart (sym c.in-File.is ∙ k.0)
]

pub returns-in-Folder-clause-no : goal.returns-in-Folder-clause-no
returns-in-Folder-clause-no c = λ no path e h. elim h [
  | inl k ↦ c.covers.ensures.no c.if-covers.false path e k
  | inr k ↦ c.covers_cut.ensures.no no path e k.1
]

pub returns-in-Other-clause-no : goal.returns-in-Other-clause-no
returns-in-Other-clause-no c = λ _ path e h. elim h [
  | inl k ↦ c.covers.ensures.no c.if-covers.false path e k
  | inr k ↦ other_apart (sym c.in-Other.is ∙ k.0)
]
