-- The lines of the chart.
use Rattle.std.specs.Prelude.{ℕ, List, [], ◌∷◌, ◌++◌, decimal}
use Rattle.std.specs.List.{flat_map}
use Rattle.names.specs.PhysTable.{place_name}
use Rattle.rules.specs.declared.keypad.Pad.{Pad}
use Rattle.rules.specs.Pads.{pads}

-- a name, a space, the number with Num Lock, a space, the number without, and LF
abbrev pub chart_line : Pad → List ℕ
chart_line p = place_name p.phys ++ 32 ∷ (decimal p.locked ++ 32 ∷ (decimal p.unlocked ++ 10 ∷ []))

-- a line for each key of the keypad
unfoldable pub chart : List ℕ
chart = flat_map chart_line pads
