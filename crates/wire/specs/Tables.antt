-- What a wire over a lent table keeps of it.
use Rattle.std.specs.Prelude.{◌≡◌, refl}
use Rattle.wire.specs.declared.lent_ring.LentRing.{LentRing}
use Rattle.wire.specs.Waiting.{lent_waiting}

-- The wire lies over the same table, and where the same bytes wait, nothing of it changed.
pub record SameTable (before after : LentRing) : Type 0 where
  pub loan : after.table.ghost_name ≡ before.table.ghost_name
  pub unchanged : lent_waiting after ≡ lent_waiting before → (after.table.now ≡ before.table.now) × (after.head ≡ before.head) × (after.len ≡ before.len)

pub same_table : (r : LentRing) → SameTable r r
same_table r = record { loan = refl; unchanged = λ _. (refl, refl, refl) }
