-- What a row and the settings stand for.
use Rattle.std.specs.Prelude.{ℕ, List, map, take}
use Rattle.settings.specs.declared.row.Row.{Row}
use Rattle.settings.specs.declared.settings.Settings.{Settings}
use Rattle.settings.specs.declared.settings.Screen.{Screen}
use Rattle.settings.specs.declared.settings.Screen.TheVariants.{Main, Alternate}
use Rattle.settings.specs.Stack.{Stacks}

-- the numbers of the settings held
abbrev pub stack_of : Row → List ℕ
stack_of r = map (λ f. f.bits) (take r.held r.settings)

-- the main screen is 0, the alternate one 1
abbrev pub screen_number : Screen → ℕ
screen_number Main = 0
screen_number Alternate = 1

abbrev pub stacks_of : Settings → Stacks
stacks_of s = record { rows = map stack_of s.rows; shown = screen_number s.shown }
