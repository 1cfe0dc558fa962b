-- Where bytes of JSON stand: in how many brackets that are open, and whether in a string.
use Rattle.std.specs.Prelude.{ℕ, ◌+◌, ◌-◌, nat_eq, Bool, true, false, ◌&&◌, ◌||◌, List, [], ◌∷◌, length, Option, Some, None, if◌then◌else◌}
use Rattle.std.specs.List.{starts_with}
use Rattle.star_shards.specs.declared.place.Mode.{Mode}
use Rattle.star_shards.specs.declared.place.Mode.TheVariants.{Plain, Quoted, Escaped}
use Rattle.star_shards.specs.declared.place.Place.{Place}

-- the first place: in no string and in no brackets
abbrev pub start : Place
start = record { mode = Plain; depth = 0 }

abbrev pub is_plain : Mode → Bool
is_plain Plain = true
is_plain Quoted = false
is_plain Escaped = false

-- in no string and in no brackets
abbrev pub is_outermost : Place → Bool
is_outermost p = is_plain p.mode && nat_eq p.depth 0

-- `{` and `[` open, `}` and `]` close
abbrev pub opens : ℕ → Bool
opens b = nat_eq b 123 || nat_eq b 91

abbrev pub closes : ℕ → Bool
closes b = nat_eq b 125 || nat_eq b 93

-- the place after one more byte: in no string, in a string, and in a string after a backslash
abbrev pub after_plain : ℕ → ℕ → Place
after_plain depth b =
    if nat_eq b 34 then record { mode = Quoted; depth = depth }
    else (if opens b then record { mode = Plain; depth = depth + 1 }
    else (if closes b then record { mode = Plain; depth = depth - 1 } else record { mode = Plain; depth = depth }))

abbrev pub after_quoted : ℕ → ℕ → Place
after_quoted depth b =
    if nat_eq b 34 then record { mode = Plain; depth = depth }
    else (if nat_eq b 92 then record { mode = Escaped; depth = depth } else record { mode = Quoted; depth = depth })

abbrev pub after_in : Mode → ℕ → ℕ → Place
after_in Plain depth b = after_plain depth b
after_in Quoted depth b = after_quoted depth b
after_in Escaped depth b = record { mode = Quoted; depth = depth }

unfoldable pub after : Place → ℕ → Place
after p b = after_in p.mode p.depth b

-- at this place the byte closes a bracket that was open before the first place
abbrev pub ends : Place → ℕ → Bool
ends p b = is_outermost p && closes b

-- where the first such byte stands, counted from i
unfoldable pub end_from : Place → ℕ → List ℕ → Option ℕ
end_from p i [] = None
end_from p i (b ∷ bs) = if ends p b then Some i else end_from (after p b) (i + 1) bs

-- at this place the byte is a comma in no string and in no brackets
abbrev pub separates : Place → ℕ → Bool
separates p b = is_outermost p && nat_eq b 44

-- where the bytes of such a front end after the first comma from here on that stands before one, counted from i
unfoldable pub later_from : List ℕ → Place → ℕ → List ℕ → Option ℕ
later_from front p i [] = None
later_from front p i (b ∷ bs) =
    if ends p b then None
    else (if separates p b && starts_with nat_eq bs front then Some (i + 1 + length front)
    else later_from front (after p b) (i + 1) bs)

-- of the members of an object, which are separated by commas: where the front of the first that begins so ends
abbrev pub front_end : List ℕ → List ℕ → Option ℕ
front_end front members =
    if starts_with nat_eq members front then Some (length front) else later_from front start 0 members
