-- The lines from a place of the table on, and the length of the chart.
use Rattle.std.proofs.Common.{◌≡◌, ℕ, ◌+◌, ◌<◌, ◌≤◌, true, cond, leb, ◌++◌, length, get_or, drop, Ok, Err, IsOk, Result, refl, sym, subst, List, arith, length-append}
use Rattle.std.specs.Fmt.{digits}
use Rattle.std.specs.List.{flat_map}
use Rattle.std.proofs.lemmas.Bool.{le-leb}
use Rattle.std.proofs.lemmas.List.{drop_more}
use Rattle.name_writing.specs.Written.{written}
use Rattle.names.specs.declared.fault.NameFault.{NameFault}
use Rattle.names.specs.declared.fault.NameFault.TheVariants.{NoRoom}
use Rattle.names.specs.PhysTable.{places, unread_places, place_name}
use Rattle.rules.specs.declared.keypad.Pad.{Pad}
use Rattle.rules.specs.Pads.{no_pad}
use Rattle.keypad_chart.specs.Chart.{chart, chart_line}

pub chart_length : length chart ≡ 397
unfolding chart digits place_name places unread_places
chart_length = refl

module _ (t : List Pad) (i : ℕ) (h : i < length t) where
  pub more : flat_map chart_line (drop i t) ≡ chart_line (get_or t i no_pad) ++ flat_map chart_line (drop (i + 1) t)
  more = rw (drop_more t i no_pad h) refl

  -- What is written of the chart leaves room for the next line.
  pub fits : (text : List ℕ) → text ++ flat_map chart_line (drop i t) ≡ chart → length text + length (chart_line (get_or t i no_pad)) ≤ 1024
  fits text e =
      let n = chart_length in
      let k : length (text ++ flat_map chart_line (drop i t)) ≡ 397 = rw e n in
      let a = length-append text (flat_map chart_line (drop i t)) in
      let b : length (flat_map chart_line (drop i t)) ≡ length (chart_line (get_or t i no_pad)) + length (flat_map chart_line (drop (i + 1) t)) = rw more (length-append (chart_line (get_or t i no_pad)) (flat_map chart_line (drop (i + 1) t))) in
      omega (arith, k, a, b)

-- A buffer with room is not refused.
pub roomy : (before after : List ℕ) (r : Result ℕ NameFault) → (r, after) ≡ written chart before → 1024 ≤ length before → IsOk r
roomy before after r w h =
    let n = chart_length in
    let fit : leb (length chart) (length before) ≡ true = le-leb (length chart) (length before) (omega (arith, n, h)) in
    let is : IsOk (written chart before).0 = subst (λ b. IsOk (cond {A = Result ℕ NameFault × List ℕ} b (Ok (length chart), chart ++ drop (length chart) before) (Err NoRoom, before)).0) (sym fit) refl in
    subst (λ (p : Result ℕ NameFault × List ℕ). IsOk p.0) (sym w) is
