-- The code's views of a value, as contracts see them.
use Rattle.star_machine.specs.declared.content.Content.{Content as Reading}
use Rattle.star_machine.specs.declared.content.Content.TheVariants as reading
use Rattle.star_meaning.specs.Values.{Content, Nothing, Truth, Number, BuiltInFunction, Held, Nowhere}

abbrev pub shown : Reading → Content
shown reading.Nothing = Nothing
shown (reading.Truth b) = Truth b
shown (reading.Number n) = Number n
shown (reading.BuiltInFunction b) = BuiltInFunction b
shown (reading.Held c) = Held c.now
shown reading.Nowhere = Nowhere
