-- An index as contracts see it.
use Rattle.std.specs.Prelude.{ℕ, List}
use Rattle.star_editor.specs.declared.index.Index.{Index}
use Rattle.star_editor.specs.declared.mention.Mention.{Mention}

-- the text
abbrev pub text_of : Index → List ℕ
text_of i = i.text

-- the mentions, in the order of the text
abbrev pub mentions_of : Index → List Mention
mentions_of i = i.mentions.items
