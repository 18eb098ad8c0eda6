-- The layouts and the dialects by number, and that each is what the one it names is.
use Rattle.std.specs.Prelude.{◌≡◌, ℕ, ◌≤◌, true, List, ◌++◌, length, refl}
use Rattle.texts.specs.Texts.{allowed}
use Rattle.layout.specs.Unshifted.{base_of}
use Rattle.layout.specs.Bases.{rests, kept}
use Rattle.report.specs.Meanings.{Meaning, Valid, Clear}
use Rattle.dialect.specs.KittyBytes.{kitty_bytes}
use Rattle.dialect.specs.KittyLaws.{kitty_sized, kitty_apart}
use Rattle.frames.specs.Framing.{frame_bytes}
use Rattle.frames.specs.FrameLaws.{frame_sized, frame_apart}
use Rattle.seat_state.specs.declared.known.AnyLayout.{AnyLayout}
use Rattle.seat_state.specs.declared.known.AnyLayout.TheVariants.{Us, Bare}
use Rattle.seat_state.specs.declared.known.AnyDialect.{AnyDialect}
use Rattle.seat_state.specs.declared.known.AnyDialect.TheVariants.{Kitty, Frames}

abbrev pub layout_number : AnyLayout → ℕ
layout_number Us = 0
layout_number Bare = 1

abbrev pub base_in : AnyLayout → ℕ → ℕ
base_in Us c = base_of c
base_in Bare c = c

pub settles : (l : AnyLayout) (c : ℕ) → base_in l (base_in l c) ≡ base_in l c
settles Us c = rests c
settles Bare c = refl

pub keeps : (l : AnyLayout) (c : ℕ) → allowed c ≡ true → allowed (base_in l c) ≡ true
keeps Us c h = kept c h
keeps Bare c h = h

abbrev pub dialect_number : AnyDialect → ℕ
dialect_number Kitty = 0
dialect_number Frames = 1

abbrev pub bytes_in : AnyDialect → Meaning → List ℕ
bytes_in Kitty m = kitty_bytes m
bytes_in Frames m = frame_bytes m

pub sizes : (d : AnyDialect) (m : Meaning) → Valid m → (1 ≤ length (bytes_in d m)) × (length (bytes_in d m) ≤ 512)
sizes Kitty m v = kitty_sized m v
sizes Frames m v = frame_sized m v

pub parts : (d : AnyDialect) (m n : Meaning) (t : List ℕ) → Valid m → Clear m → Valid n → Clear n → bytes_in d m ++ t ≡ bytes_in d n → m ≡ n
parts Kitty m n t a b c d e = kitty_apart m n t a b c d e
parts Frames m n t a b c d e = frame_apart m n t a b c d e
