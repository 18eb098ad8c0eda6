-- What a wire over a page keeps of it.
use Rattle.std.specs.Prelude.{◌≡◌, drop}
use Rattle.std.proofs.Common.{refl}
use Rattle.wire.specs.declared.page.Page.{Page}

-- The wire lies over the same page, and the bytes behind those that wait stay.
pub record SamePage (before after : Page) : Type 0 where
  pub page : after.buffer.ghost_name ≡ before.buffer.ghost_name
  pub behind : drop after.len after.buffer.now ≡ drop after.len before.buffer.now

pub same_page : (p : Page) → SamePage p p
same_page p = record { page = refl; behind = refl }
