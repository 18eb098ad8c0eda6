-- The numbers that are kept of a seat tell it, and are a seat's.
use Rattle.std.proofs.Common.{◌≡◌, ℕ, zero, suc, ◌<◌, ◌≤◌, List, [], ◌∷◌, map, length, take, get_or, refl, ap, sym, subst, ◌∙◌, inl, inr, arith}
use Rattle.std.proofs.lemmas.List.{take-map}
use Rattle.input_types.specs.declared.flags.KittyKeyboardFlags.{KittyKeyboardFlags}
use Rattle.settings.specs.declared.row.Row.{Row}
use Rattle.settings.specs.declared.settings.Screen.{Screen}
use Rattle.settings.specs.declared.settings.Screen.TheVariants.{Main, Alternate}
use Rattle.settings.specs.declared.settings.Settings.{Settings}
use Rattle.settings.specs.Numbers.{NoRow}
use Rattle.settings.specs.Rows.{stack_of, stacks_of, screen_number}
use Rattle.settings.specs.Stack.{Stacks}
use Rattle.seat_state.specs.declared.known.AnyLayout.{AnyLayout}
use Rattle.seat_state.specs.declared.known.AnyLayout.TheVariants.{Us, Bare}
use Rattle.seat_state.specs.declared.known.AnyDialect.{AnyDialect}
use Rattle.seat_state.specs.declared.known.AnyDialect.TheVariants.{Kitty, Frames}
use Rattle.seat_state.specs.declared.kept.Kept.{Kept}
use Rattle.seat_state.specs.Known.{layout_number, dialect_number}
use Rattle.seat_state.specs.Keeping.{bits, Keeps, NoSeat}
use Rattle.seat_state.specs.Telling.{OneSeat, NeverRefused, OnePageSeat, PageNeverRefused}

layout_same : (l m : AnyLayout) → layout_number l ≡ layout_number m → l ≡ m
layout_same Us Us e = refl
layout_same Us Bare e = absurd (omega arith)
layout_same Bare Us e = absurd (omega arith)
layout_same Bare Bare e = refl

dialect_same : (l m : AnyDialect) → dialect_number l ≡ dialect_number m → l ≡ m
dialect_same Kitty Kitty e = refl
dialect_same Kitty Frames e = absurd (omega arith)
dialect_same Frames Kitty e = absurd (omega arith)
dialect_same Frames Frames e = refl

stack : (r : Row) → stack_of r ≡ take r.held (bits r.settings)
stack r = sym (take-map (λ f. f.bits) r.held r.settings)

rows_same : (xs ys : List Row) → map (λ r. r.held) xs ≡ map (λ r. r.held) ys → map (λ r. bits r.settings) xs ≡ map (λ r. bits r.settings) ys → map stack_of xs ≡ map stack_of ys
rows_same [] [] e f = refl
rows_same [] (y ∷ ys) e f = cc
rows_same (x ∷ xs) [] e f = cc
rows_same (x ∷ xs) (y ∷ ys) e f =
    let held : x.held ≡ y.held = cc in
    let numbers : bits x.settings ≡ bits y.settings = cc in
    let first : stack_of x ≡ stack_of y = stack x ∙ ap (λ n. take n (bits x.settings)) held ∙ ap (take y.held) numbers ∙ sym (stack y) in
    let rest : map stack_of xs ≡ map stack_of ys = rows_same xs ys (cc) (cc) in
    cc

stacks : (a b : List (List ℕ)) (i j : ℕ) → a ≡ b → i ≡ j → (let s : Stacks = record { rows = a; shown = i } in s) ≡ record { rows = b; shown = j }
stacks a b i j e f = cc

module _ {k : Kept} {l m : AnyLayout} {d e : AnyDialect} {s t : Settings} (x : Keeps k l d s) (y : Keeps k m e t) where
  one_layout : l ≡ m
  one_layout = layout_same l m (sym x.layout ∙ y.layout)

  one_dialect : d ≡ e
  one_dialect = dialect_same d e (sym x.dialect ∙ y.dialect)

  one_settings : stacks_of s ≡ stacks_of t
  one_settings = stacks _ _ _ _ (rows_same s.rows t.rows (x.held ∙ sym y.held) (x.numbers ∙ sym y.numbers)) (sym x.shown ∙ y.shown)

pub one_seat : OneSeat
one_seat k s t a b =
    record {
      layout = one_layout a.kept b.kept;
      dialect = one_dialect a.kept b.kept;
      settings = one_settings a.kept b.kept;
      table = sym a.table ∙ b.table;
      head = sym a.head ∙ b.head;
      len = sym a.count ∙ b.count;
    }

pub one_page_seat : OnePageSeat
one_page_seat k page s t a b =
    record {
      layout = one_layout a.kept b.kept;
      dialect = one_dialect a.kept b.kept;
      settings = one_settings a.kept b.kept;
      bytes = sym a.page_is ∙ b.page_is;
      len = sym a.count ∙ b.count;
    }

layout_known : (l : AnyLayout) → layout_number l ≤ 1
layout_known Us = omega arith
layout_known Bare = omega arith

dialect_known : (d : AnyDialect) → dialect_number d ≤ 1
dialect_known Kitty = omega arith
dialect_known Frames = omega arith

screen_known : (s : Screen) → screen_number s ≤ 1
screen_known Main = omega arith
screen_known Alternate = omega arith

below : (fs : List KittyKeyboardFlags) (i : ℕ) → get_or (bits fs) i 0 < 32
below [] i = omega arith
below (f ∷ fs) zero = f.named
below (f ∷ fs) (suc i) = below fs i

row_is : (r : Row) (ns : List ℕ) (held : ℕ) → r.held ≡ held → bits r.settings ≡ ns → NoRow ns held → ⊥
row_is r ns held e f (inl h) = let some = r.some in omega arith
row_is r ns held e f (inr (inl h)) = let most = r.most in omega arith
row_is r ns held e f (inr (inr (i, within, above))) =
    let lies : get_or ns i 0 < 32 = subst (λ xs. get_or xs i 0 < 32) f (below r.settings i) in
    omega arith

rows_are : (rows : List Row) (p q : ℕ) (ns ms : List ℕ) → map (λ r. r.held) rows ≡ p ∷ q ∷ [] → map (λ r. bits r.settings) rows ≡ ns ∷ ms ∷ [] → (NoRow ns p → ⊥) × (NoRow ms q → ⊥)
rows_are [] p q ns ms e f = absurd (cc)
rows_are (a ∷ []) p q ns ms e f = absurd (cc)
rows_are (a ∷ b ∷ []) p q ns ms e f = (row_is a ns p (cc) (cc), row_is b ms q (cc) (cc))
rows_are (a ∷ b ∷ c ∷ rows) p q ns ms e f = absurd (cc)

seat_is : (k : Kept) (l : AnyLayout) (d : AnyDialect) (s : Settings) → Keeps k l d s → NoSeat k → ⊥
seat_is k l d s x (inl h) = let known = layout_known l in let is = x.layout in omega arith
seat_is k l d s x (inr (inl h)) = let known = dialect_known d in let is = x.dialect in omega arith
seat_is k l d s x (inr (inr (inl h))) = let known = screen_known s.shown in let is = x.shown in omega arith
seat_is k l d s x (inr (inr (inr (inl h)))) = (rows_are s.rows k.main_held k.alternate_held k.main k.alternate x.held x.numbers).0 h
seat_is k l d s x (inr (inr (inr (inr h)))) = (rows_are s.rows k.main_held k.alternate_held k.main k.alternate x.held x.numbers).1 h

pub never_refused : NeverRefused
never_refused k s a (inl h) = seat_is k.kept s.layout s.dialect s.settings a.kept h
never_refused k s a (inr (inl h)) = let begins = s.wire.begins in let is = a.head in omega arith
never_refused k s a (inr (inr h)) = let held = s.wire.held in let is = a.count in omega arith

pub page_never_refused : PageNeverRefused
page_never_refused k page s a (inl h) = seat_is k.kept s.layout s.dialect s.settings a.kept h
page_never_refused k page s a (inr h) =
    let held = s.wire.held in
    let count = a.count in
    let same : length page ≡ length s.wire.buffer.now = ap length a.page_is in
    omega arith
