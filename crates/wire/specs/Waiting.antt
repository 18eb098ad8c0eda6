-- The bytes waiting in a ring, in a lent ring and in a page, oldest first.
use Rattle.std.specs.Prelude.{ℕ, List, take}
use Rattle.wire.specs.declared.ring.Ring.{Ring}
use Rattle.wire.specs.declared.lent_ring.LentRing.{LentRing}
use Rattle.wire.specs.declared.page.Page.{Page}
use Rattle.wire.specs.Moves.{ringed}

abbrev pub ring_waiting : Ring → List ℕ
ring_waiting r = ringed r.table r.head r.len

abbrev pub lent_waiting : LentRing → List ℕ
lent_waiting r = ringed r.table.now r.head r.len

abbrev pub page_waiting : Page → List ℕ
page_waiting p = take p.len p.buffer.now
