-- What a lent wire keeps.
use Rattle.std.specs.Prelude.{◌≡◌}
use Rattle.std.specs.Borrow.{MutBor}
use Rattle.std.proofs.Common.{refl}

-- It is the same loan, and the wire that is lent keeps what it does.
pub record SameWire {W : Type 0} (keeps : W → W → Type 0) (before after : MutBor W) : Type 0 where
  pub loan : after.ghost_name ≡ before.ghost_name
  pub wire : keeps before.now after.now

pub same_wire : {W : Type 0} (keeps : W → W → Type 0) → ((w : W) → keeps w w) → (w : MutBor W) → SameWire keeps w w
same_wire keeps still w = record { loan = refl; wire = still w.now }
