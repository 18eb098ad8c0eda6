-- One call goes on from every history: the main theorem's step, and its start.
use Rattle.std.proofs.Common.{◌≡◌, ℕ, ◌+◌, ◌-◌, List, [], ◌∷◌, ◌++◌, map, length, sym, refl, ap, ◌∙◌, subst, arith, length-append}
use Rattle.std.specs.List.{AllByRecursion, flat_map}
use Rattle.std.proofs.lemmas.List.{append_assoc, append-nil, map_push}
use Rattle.report.specs.Meanings.{Meaning}
use Rattle.dialect.specs.Streams.{AllClear}
use Rattle.dialect.proofs.StreamLaws.{tells}
use Rattle.settings.specs.Stack.{Stacks, fresh}
use Rattle.plain_seat.specs.Plain.{Terms, Call, Reply, Entry, outcome, start, next, after, replies, reports_of, said}
use Rattle.plain_seat.specs.Reading.{Turn, View, plainly, told, all_bytes, Sound, Marked, Numbered, Apart, OneReading, Steps, turn, GoesOn, CallsGoOn, Laws}
use Rattle.std.proofs.lemmas.Grind.{flat_map-append}
use Rattle.plain_seat.proofs.Runs.{joined_joined, all_append, all_map, all_both, after_push, replies_push}
use Rattle.plain_seat.proofs.Entries.{clear_of, numbered_of, apart_of}

clear_append : (ms ns : List Meaning) → AllClear ms → AllClear ns → AllClear (ms ++ ns)
clear_append [] ns a b = b
clear_append (m ∷ ms) ns a b = (a.0, a.1, clear_append ms ns a.2 b)

clear_joined : (base : ℕ → ℕ) (xs : List Entry) → AllByRecursion (λ x. Sound base x × Marked x) xs → AllClear (flat_map (reports_of base) xs)
clear_joined base [] a = tt
clear_joined base (x ∷ xs) a = clear_append (reports_of base x) (flat_map (reports_of base) xs) (clear_of base x a.0) (clear_joined base xs a.1)

-- The facts that a call carries on; the rest of the reading follows from them by the laws.
record Carried (v : View) (h : List Turn) : Type 0 where
  answers : map (λ t. t.reply) h ≡ replies v.terms start (map (λ t. t.call) h)
  stacks : v.stacks ≡ (plainly v h).stacks
  count : length v.waiting ≡ (plainly v h).count
  bytes : all_bytes v h ≡ flat_map v.terms.bytes (told v h)
  sound : AllByRecursion (Sound v.terms.base) (plainly v h).log

whole : (v : View) (h : List Turn) → Laws v.terms → Carried v h → OneReading v h
whole v h laws k =
    let log = (plainly v h).log in
    let base = v.terms.base in
    let clear : AllByRecursion Marked log → AllClear (told v h) = λ marked. clear_joined v.terms.base (plainly v h).log (all_both (Sound v.terms.base) Marked (plainly v h).log k.sound marked) in
    record {
      answers = k.answers;
      stacks = k.stacks;
      count = k.count;
      bytes = k.bytes;
      sound = k.sound;
      clear = clear;
      unique = λ marked ms a e. tells v.terms.bytes laws.sized laws.apart ms (told v h) a (clear marked) (e ∙ k.bytes);
      numbers = all_map (Sound base) (Numbered base) (numbered_of v.terms laws) log k.sound;
      apart = all_map (Sound base) (λ x. AllByRecursion (Apart v.terms x) log) (λ x s. all_map (Sound base) (Apart v.terms x) (λ y u. apart_of v.terms laws x y s u) log k.sound) log k.sound;
    }

-- A seat just opened over an empty wire.
pub opening : (v : View) → Laws v.terms → v.waiting ≡ [] → v.stacks ≡ fresh → OneReading v []
opening v laws empty new =
    whole v [] laws (record { answers = refl; stacks = new; count = ap length empty; bytes = empty; sound = tt })

module _ (v : View) (laws : Laws v.terms) (c : Call) (r : Reply) (bs waiting : List ℕ) (stacks : Stacks) where
  abbrev w : View
  w = record { terms = v.terms; waiting = waiting; stacks = stacks }

  carry : Steps v c r bs w → (h : List Turn) → OneReading v h → Carried w (h ++ turn c r bs ∷ [])
  carry s h k =
      let m = v.terms in
      let cs = map (λ t. t.call) h in
      let p = plainly v h in
      let o = outcome m v.stacks (length v.waiting) c in
      let calls : map (λ t. t.call) (h ++ turn c r bs ∷ []) ≡ cs ++ c ∷ [] = map_push (λ t. t.call) h (turn c r bs) in
      let same : outcome m p.stacks p.count c ≡ o = ap (λ x. outcome m x p.count c) (sym k.stacks) ∙ ap (λ x. outcome m v.stacks x c) (sym k.count) in
      let plain : plainly w (h ++ turn c r bs ∷ []) ≡ next m p c = ap (after m start) calls ∙ after_push m start cs c in
      let log : (plainly w (h ++ turn c r bs ∷ [])).log ≡ p.log ++ o.log = ap (λ x. x.log) plain ∙ ap (λ x. p.log ++ x.log) same in
      let said_all : flat_map m.bytes (told w (h ++ turn c r bs ∷ [])) ≡ flat_map (said m) p.log ++ flat_map (said m) o.log = joined_joined m.bytes (reports_of m.base) (plainly w (h ++ turn c r bs ∷ [])).log ∙ ap (flat_map (said m)) log ∙ flat_map-append (said m) p.log o.log in
      let before : flat_map (λ t. t.bytes) h ++ v.waiting ≡ flat_map (said m) p.log = k.bytes ∙ joined_joined m.bytes (reports_of m.base) p.log in
      let handed : flat_map (λ t. t.bytes) (h ++ turn c r bs ∷ []) ≡ flat_map (λ t. t.bytes) h ++ bs = flat_map-append (λ t. t.bytes) h (turn c r bs ∷ []) ∙ ap (λ l. flat_map (λ t. t.bytes) h ++ l) (append-nil bs) in
      let lengths : length bs + length waiting ≡ length v.waiting + length (flat_map (said m) o.log) = sym (length-append bs waiting) ∙ ap length s.bytes ∙ length-append v.waiting (flat_map (said m) o.log) in
      record {
        answers = map_push (λ t. t.reply) h (turn c r bs) ∙ ap (λ l. l ++ r ∷ []) k.answers ∙ ap (λ x. replies m start cs ++ x ∷ []) (s.reply ∙ ap (λ x. x.reply) (sym same)) ∙ sym (replies_push m start cs c) ∙ ap (replies m start) (sym calls);
        stacks = s.stacks ∙ ap (λ x. x.stacks) (sym same) ∙ ap (λ x. x.stacks) (sym plain);
        count = (let e : length waiting ≡ length v.waiting + length (flat_map (said m) o.log) - o.taken = omega (arith, lengths, s.taken) in e) ∙ ap (λ x. x + length (flat_map (said m) o.log) - o.taken) k.count ∙ ap (λ x. p.count + length (flat_map (said m) x.log) - x.taken) (sym same) ∙ ap (λ x. x.count) (sym plain);
        bytes = ap (λ l. l ++ waiting) handed ∙ append_assoc (flat_map (λ t. t.bytes) h) bs waiting ∙ ap (λ l. flat_map (λ t. t.bytes) h ++ l) s.bytes ∙ sym (append_assoc (flat_map (λ t. t.bytes) h) v.waiting (flat_map (said m) o.log)) ∙ ap (λ l. l ++ flat_map (said m) o.log) before ∙ sym said_all;
        sound = subst (AllByRecursion (Sound m.base)) (sym log) (all_append (Sound m.base) p.log o.log k.sound s.sound);
      }

  pub onward : Steps v c r bs w → GoesOn v c r bs w
  onward s h k = whole w (h ++ turn c r bs ∷ []) laws (carry s h k)

view : Terms → List ℕ → Stacks → View
view m bs s = record { terms = m; waiting = bs; stacks = s }

pub goes_on : CallsGoOn
unfolding view
goes_on v w laws c r bs s =
    let e : w ≡ view v.terms w.waiting w.stacks = ap (λ m. view m w.waiting w.stacks) s.terms in
    subst (λ x. GoesOn v c r bs x) (sym e) (onward v laws c r bs w.waiting w.stacks (subst (λ x. Steps v c r bs x) e s))
