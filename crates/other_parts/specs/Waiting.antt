-- The bytes waiting in a tray, oldest first.
use Rattle.std.specs.Prelude.{ℕ, List, drop}
use Rattle.other_parts.specs.declared.tray.Tray.{Tray}

abbrev pub tray_waiting : Tray → List ℕ
tray_waiting t = drop t.start t.table
