-- Where no clear report's bytes begin another's, given bytes have one answer.
use Rattle.std.proofs.Common.{◌≡◌, ℕ, ◌+◌, List, ◌++◌, length, Ok, Err, Result, sym, refl, ap, ◌∙◌, ⊎_elim, arith, length-append}
use Rattle.std.proofs.lemmas.List.{append_assoc}
use Rattle.report.specs.Meanings.{Meaning, Valid, Clear, means}
use Rattle.dialect.proofs.StreamLaws.{fronts}
use Rattle.reading.specs.declared.faults.ReadFault.{ReadFault}
use Rattle.reading.specs.declared.faults.ReadFault.TheVariants.{Short, Unknown, Narrow}
use Rattle.pieces.specs.declared.found.Seen.{Seen}
use Rattle.reading.specs.Once.{Answers}
use Rattle.reading.specs.Reading.{Begins, Breaks, Fills, text_of}

module _ (bytes : Meaning → List ℕ) (apart : (m n : Meaning) (t : List ℕ) → Valid m → Clear m → Valid n → Clear n → bytes m ++ t ≡ bytes n → m ≡ n) (given : List ℕ) where
  begins_once : (m n : Meaning) → Begins bytes given m → Begins bytes given n → m ≡ n
  begins_once m n p q =
      ⊎_elim (λ v. apart m n v.0 p.0.0 p.0.1 q.0.0 q.0.1 v.1) (λ v. sym (apart n m v.0 q.0.0 q.0.1 p.0.0 p.0.1 v.1)) (fronts (bytes m) (bytes n) p.1.0 q.1.0 (p.1.1 ∙ sym q.1.1))

  never_both : (m n : Meaning) → Begins bytes given m → Breaks bytes given n → ⊥
  never_both m n p q =
      let t = p.1.0 in
      let u = q.1.0 in
      let e : bytes m ++ (t ++ u) ≡ bytes n = sym (append_assoc (bytes m) t u) ∙ ap (λ g. g ++ u) p.1.1 ∙ q.1.2 in
      let h = apart m n (t ++ u) p.0.0 p.0.1 q.0.0 q.0.1 e in
      let l : length (bytes m) + (length t + length u) ≡ length (bytes m) = sym (simp length-append) ∙ ap length e ∙ ap (λ x. length (bytes x)) (sym h) in
      omega (arith, q.1.1)

  -- the text of the one report that the given bytes begin with
  same_text : (m n : Meaning) → Begins bytes given m → Begins bytes given n → length (text_of m) ≡ length (text_of n)
  same_text m n p q = ap (λ x. length (text_of x)) (begins_once m n p q)

  pub answers : (before after : List ℕ) (r : Result Seen ReadFault) → Fills bytes given before after r → Answers bytes given before r
  answers before after (Ok s) p = record {
    whole = λ m b l. begins_once (means s.report) m p.0 b;
    narrow = λ m b l. absurd (omega (arith, p.2, l, same_text m (means s.report) b p.0));
    part = λ m b. absurd (never_both (means s.report) m p.0 b);
    nothing = λ f g. absurd (f (means s.report) p.0);
  }
  answers before after (Err Short) p = record {
    whole = λ m b l. absurd (never_both m p.0.0 b p.0.1);
    narrow = λ m b l. absurd (never_both m p.0.0 b p.0.1);
    part = λ m b. refl;
    nothing = λ f g. absurd (g p.0.0 p.0.1);
  }
  answers before after (Err Unknown) p = record {
    whole = λ m b l. absurd (p.0 m b);
    narrow = λ m b l. absurd (p.0 m b);
    part = λ m b. absurd (p.1 m b);
    nothing = λ f g. refl;
  }
  answers before after (Err Narrow) p = record {
    whole = λ m b l. absurd (omega (arith, p.0.2, l, same_text m p.0.0 b p.0.1));
    narrow = λ m b l. refl;
    part = λ m b. absurd (never_both p.0.0 m p.0.1 b);
    nothing = λ f g. absurd (f p.0.0 p.0.1);
  }
