-- Of records no two of which are equals there is one order: a matching of two rows in order keeps the order, so it can move no record.
-- Then every word of the two files is the same, and so is every byte.
-- Assumes nothing.
use Prim.Native.Nat.{ℕ, zero, suc, ◌+◌, ◌-◌, ◌*◌, ◌/◌, ◌≤◌, ◌<◌}
use mathlib.Core.Path.{◌≡◌, ap, sym, ◌∙◌}
use mathlib.Core.List.{List, [], ◌∷◌}
use mathlib.Core.Logic.{inl, inr, ⊎_elim}
use native.Mathlib.Decide.{dec_lt}
use native.Mathlib.Omega.{arith}
use lib.ListN.{length, get_or}
use lib.Seq.{ext_get_or, get_or-take}
use Rattle.member.specs.declared.record.Member.{Member}
use Rattle.member.specs.Fields.{FIELDS, field}
use Rattle.files.specs.Words.{byte_at, Bytes, word_at}
use Rattle.surveys.specs.Sequence.{sequence_fields, Before}
use Rattle.surveys.specs.SurveyFile.{SURVEY_HEADER, RECORD, count_of, record_at}
use Rattle.surveys.specs.OneOrder.{OneOrder, OneFile}
use Rattle.surveys.proofs.Sequences.{record_field}

-- no record stands before itself
not_itself : (fs : List ℕ) (m : Member) → ¬ (Before fs m m)
not_itself [] m h = h
not_itself (f ∷ fs) m (inl l) = omega arith
not_itself (f ∷ fs) m (inr (e, h)) = not_itself fs m h

-- a map of the numbers below n to themselves that keeps their order moves none
module _ (n : ℕ) (p : ℕ → ℕ) (inside : (i : ℕ) → i < n → p i < n) (rises : (i k : ℕ) → i < k → k < n → p i < p k) where
  at_least : (i : ℕ) → i < n → i ≤ p i
  at_least zero l = omega arith
  at_least (suc i) l = omega (arith, at_least i (omega arith), rises i (suc i) (omega arith) l)

  -- from i on it rises by no less than one a step
  steps : (i d : ℕ) → i + d < n → p i + d ≤ p (i + d)
  steps i zero l = let e : i + 0 ≡ i = omega arith in rw e (omega arith)
  steps i (suc d) l =
      let next : i + suc d ≡ suc (i + d) = omega arith in
      rw next (omega (arith, steps i d (omega arith), rises (i + d) (suc (i + d)) (omega arith) (omega arith)))

  unmoved : (i : ℕ) → i < n → p i ≡ i
  unmoved i l =
      let last : i + (n - 1 - i) ≡ n - 1 = omega arith in
      omega (arith, at_least i l, rw last at (steps i (n - 1 - i) (omega arith)), inside (n - 1) (omega arith))

pub one_order : OneOrder
one_order at at' n partner order order' distinct same i l = (same i l).1 ∙ ap at' (unmoved n partner (λ k h. (same k h).0) rises i l)
  where
    rises : (i k : ℕ) → i < k → k < n → partner i < partner k
    rises i k l h =
        let (here, e) = same i (omega arith) in
        let (there, f) = same k h in
        let ahead : Before sequence_fields (at' (partner i)) (at' (partner k)) = rw (e, f) at (⊎_elim (λ b. b) (λ b. absurd (order i k l h b)) (distinct i k l h)) in
        elim (dec_lt (partner i) (partner k)) [
          | yes b ↦ b
          | no b ↦
              elim (dec_lt (partner k) (partner i)) [
                | yes c ↦ absurd (order' (partner k) (partner i) c here ahead)
                | no c ↦ let alike : partner i ≡ partner k = omega arith in absurd (not_itself sequence_fields (at' (partner k)) (rw alike at ahead))
              ]
        ]

-- a word is its two bytes
same_bytes : (a b a' b' : ℕ) → a < 256 → a' < 256 → a + 256 * b ≡ a' + 256 * b' → (a ≡ a') × (b ≡ b')
same_bytes a b a' b' l l' e = omega arith

module _ (bytes bytes' : List ℕ) (b : Bytes bytes) (b' : Bytes bytes') where
  -- two files with the same word at a place
  word_same : (at : ℕ) → word_at bytes at ≡ word_at bytes' at → (j : ℕ) → at ≤ j → j < at + 2 → byte_at bytes j ≡ byte_at bytes' j
  word_same at same j l h =
      let (low, high) = same_bytes _ (byte_at bytes (at + 1)) _ (byte_at bytes' (at + 1)) (b at) (b' at) same in
      elim (dec_lt at j) [
        | yes s ↦ let e : j ≡ at + 1 = omega arith in rw e high
        | no s ↦ let e : j ≡ at = omega arith in rw e low
      ]

  -- with the same record of index i
  record_same : (i : ℕ) → record_at bytes i ≡ record_at bytes' i → (j : ℕ) → SURVEY_HEADER + RECORD * i ≤ j → j < SURVEY_HEADER + RECORD * (i + 1) →
      byte_at bytes j ≡ byte_at bytes' j
  record_same i same j l h =
      let at = SURVEY_HEADER + RECORD * i in
      let f = (j - at) / 2 in
      let within : f < FIELDS = omega arith in
      word_same (at + 2 * f) (sym (record_field bytes i f within) ∙ ap (λ (m : Member). field m f) same ∙ record_field bytes' i f within) j (omega arith) (omega arith)

pub one_file : OneFile
one_file bytes bytes' partner b b' a a' v v' same_count distinct same =
    ext_get_or 0 bytes bytes' (omega (arith, a.size, a'.size)) at_each
  where
    records : (i : ℕ) → i < count_of bytes → record_at bytes i ≡ record_at bytes' i
    records = one_order (record_at bytes) (record_at bytes') (count_of bytes) partner (a.order (omega arith)) (rw same_count (a'.order (omega arith))) distinct same

    marks : (j : ℕ) → j < 3 → byte_at bytes j ≡ byte_at bytes' j
    marks j l = sym (get_or-take 3 bytes j 0 l) ∙ ap (λ (t : List ℕ). get_or t j 0) (a.mark ∙ sym a'.mark) ∙ get_or-take 3 bytes' j 0 l

    at_each : (j : ℕ) → j < length bytes → byte_at bytes j ≡ byte_at bytes' j
    at_each j l =
        elim (dec_lt j 3) [
          | yes s ↦ marks j s
          | no s ↦
              elim (dec_lt j 5) [
                | yes t ↦ word_same bytes bytes' b b' 3 (v ∙ sym v') j (omega arith) (omega arith)
                | no t ↦
                    elim (dec_lt j SURVEY_HEADER) [
                      | yes u ↦ let e : j ≡ 5 = omega arith in rw e same_count
                      | no u ↦
                          let i = (j - SURVEY_HEADER) / RECORD in
                          record_same bytes bytes' b b' i (records i (omega (arith, a.size))) j (omega arith) (omega arith)
                    ]
              ]
        ]
